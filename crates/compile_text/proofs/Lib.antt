pub mod CompileLaws
pub mod Exact
