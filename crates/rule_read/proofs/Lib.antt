-- The laws of this crate's definitions; callers' proofs cite them too.
pub mod Verdict
pub mod Said
pub mod Counting
pub mod Exact
pub mod Storing
pub mod Rows
pub mod Going
pub mod HeadLaws
pub mod Filling
pub mod Unique
pub mod Passes
pub mod ListLaws
pub mod Wrong
