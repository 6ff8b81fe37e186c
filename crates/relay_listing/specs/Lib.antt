pub mod Row
pub mod Blank
pub mod Object
pub mod Amounts
pub mod Pieces
pub mod Load
pub mod Metrics
