-- The laws of this crate's definitions; callers' proofs cite them too.
pub mod Parts
pub mod TokenLaws
pub mod Stack
pub mod Written
pub mod Examples
