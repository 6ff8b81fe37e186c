pub mod LogLine
pub mod Waiting
