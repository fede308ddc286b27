pub mod Numbers
pub mod Says
