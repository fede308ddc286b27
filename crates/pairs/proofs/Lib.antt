pub mod MemoryLaws
pub mod StateLaws
pub mod WorkLaws
pub mod Unique
