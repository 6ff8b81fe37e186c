pub mod Exchange
pub mod Lines
pub mod Steering
pub mod Requests
pub mod Report
pub mod Withdrawing
