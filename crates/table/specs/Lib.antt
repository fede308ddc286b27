pub mod Rules
pub mod RowTest
pub mod Check
pub mod Room
pub mod Links
pub mod Told
