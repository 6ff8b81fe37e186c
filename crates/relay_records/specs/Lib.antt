pub mod Note
pub mod Records
pub mod Staged
pub mod Reading
pub mod Open
pub mod HeldPlace
pub mod ListLaws
