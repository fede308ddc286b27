pub mod States
pub mod Rules
pub mod Valid
pub mod Meaning
pub mod Counts
