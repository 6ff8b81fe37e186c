pub mod Extensions
pub mod WrittenLine
pub mod VerdictTable
pub mod Progress
pub mod Course
pub mod Settling
pub mod Laws
pub mod RelayLaws
