pub mod Work
pub mod Accept
