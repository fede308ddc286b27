pub mod MoveLaws
pub mod Unique
