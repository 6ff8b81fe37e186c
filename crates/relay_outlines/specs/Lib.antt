pub mod Look
pub mod Reading
pub mod Laws
