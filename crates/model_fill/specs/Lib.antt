pub mod Ambiguity
pub mod Kept
pub mod Slices
pub mod Work
pub mod Fill
