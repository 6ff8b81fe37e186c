pub mod Line
pub mod LetterCase
pub mod Beginning
