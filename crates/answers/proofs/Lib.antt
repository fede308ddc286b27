pub mod Sizes
pub mod LineLaws
pub mod WrittenLaws
