pub mod Index
pub mod Target
pub mod Work
