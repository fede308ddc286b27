-- The laws of this crate's definitions; callers' proofs cite them too.
pub mod PartLaws
pub mod Unique
