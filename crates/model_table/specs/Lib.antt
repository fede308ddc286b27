pub mod Compile
pub mod Work
