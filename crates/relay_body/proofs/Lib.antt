mod DotTextLemmas
mod ReadingLemmas
mod WritingLemmas
mod RunLemmas
mod RunReadingLemmas
mod ChunkLemmas
mod PlainLemmas
mod BareEndLemmas
mod NulLemmas
pub mod Theorems
