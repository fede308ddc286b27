pub mod Token
pub mod Steps
pub mod Field
