pub mod Factored
pub mod Work
