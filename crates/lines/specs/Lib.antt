pub mod Number
pub mod Lines
pub mod Fields
