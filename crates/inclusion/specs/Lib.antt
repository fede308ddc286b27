pub mod Inclusion
pub mod Trace
pub mod Prepare
pub mod Search
pub mod Write
