pub mod DotText
pub mod Gathering
pub mod DotReading
pub mod DotSteps
pub mod DotLaws
pub mod ChunkText
pub mod BareEnds
pub mod Nul
