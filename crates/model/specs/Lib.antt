pub mod Model
pub mod Documents
pub mod Postfix
pub mod Sets
