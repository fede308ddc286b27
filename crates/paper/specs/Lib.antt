pub mod Faults
pub mod Told
pub mod Limits
pub mod First
pub mod Tests
