pub mod Sets
pub mod Work
pub mod Stack
