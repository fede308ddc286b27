pub mod TreeLaws
pub mod Exact
