-- The laws of this crate's definitions; callers' proofs cite them too.
pub mod Tests
pub mod Places
pub mod NumberSteps
pub mod NumberLaws
pub mod LinesLaws
pub mod FieldLaws
pub mod Within
pub mod Examples
