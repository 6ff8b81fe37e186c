pub mod Accepted
pub mod Link
pub mod Push
