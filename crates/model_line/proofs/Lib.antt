-- The laws of this crate's definitions; callers' proofs cite them too.
pub mod SplitLaws
pub mod LineLaws
pub mod Known
pub mod Shape
pub mod Examples
