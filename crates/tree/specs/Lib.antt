pub mod Tree
pub mod Nodes
