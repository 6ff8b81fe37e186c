pub mod Runs
pub mod Given
pub mod Events
pub mod Elsewhere
pub mod Sequences
pub mod Networks
pub mod Turn
