pub mod Fault
pub mod Opening
pub mod Listing
