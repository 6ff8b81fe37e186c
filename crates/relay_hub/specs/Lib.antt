pub mod Receipts
pub mod Hub
pub mod Admission
pub mod Link
