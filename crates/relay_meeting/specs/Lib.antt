pub mod Meeting
pub mod Script
pub mod Joined
