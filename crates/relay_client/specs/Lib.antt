pub mod Action
pub mod Settled
pub mod Conversation
pub mod Attempt
pub mod Laws
