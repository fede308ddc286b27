-- The laws of writing; callers' proofs cite them too.
pub mod Bytes
pub mod PutLaws
pub mod Unique
