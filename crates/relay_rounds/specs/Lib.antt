pub mod Row
pub mod Round
