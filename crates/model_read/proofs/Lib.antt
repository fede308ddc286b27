-- The laws of this crate's definitions; callers' proofs cite them too.
pub mod Exact
pub mod Said
pub mod Models
pub mod Few
pub mod Good
pub mod Size
pub mod Going
pub mod HeadLaws
