pub mod Factor
pub mod Include
pub mod Decide
pub mod Tables
