pub mod Word
pub mod HeaderLine
pub mod Block
pub mod Header
pub mod Laws
