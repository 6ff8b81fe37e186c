pub mod Check
pub mod Route
pub mod Shown
