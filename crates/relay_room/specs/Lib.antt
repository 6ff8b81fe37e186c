pub mod Room
pub mod RoomFile
pub mod Standing
