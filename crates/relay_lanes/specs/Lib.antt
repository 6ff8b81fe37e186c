pub mod Lane
pub mod Numbers
pub mod Paces
pub mod Places
pub mod Portions
