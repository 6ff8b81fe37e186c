pub mod Setup
pub mod Play
pub mod Session
