pub mod Receiver
pub mod Numbers
pub mod Check
