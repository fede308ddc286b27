pub mod Counts
pub mod Lists
pub mod IndexLaws
pub mod BuildLaws
pub mod Unique
pub mod SearchLaws
pub mod TargetLaws
