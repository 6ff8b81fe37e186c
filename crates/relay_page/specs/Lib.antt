pub mod Host
pub mod Request
pub mod Response
pub mod Rows
pub mod Listing
pub mod Visitor
