pub mod Looked
pub mod Receiving
