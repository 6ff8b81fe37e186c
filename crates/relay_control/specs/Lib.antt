pub mod Number
pub mod Named
pub mod Request
pub mod Answer
pub mod Held
pub mod HeldFile
pub mod Caller
pub mod Laws
