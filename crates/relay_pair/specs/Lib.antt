pub mod Begin
pub mod Copied
pub mod Marks
pub mod Network
pub mod Profiles
pub mod Promise
pub mod Run
pub mod Sound
