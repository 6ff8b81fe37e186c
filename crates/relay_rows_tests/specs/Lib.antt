pub mod Outcome
pub mod Row
pub mod PlayOutcome
pub mod Steps
