pub mod Text
pub mod Work
