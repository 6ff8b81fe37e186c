pub mod DateTime
pub mod HeaderSection
pub mod TimeStamp
pub mod DateLine
