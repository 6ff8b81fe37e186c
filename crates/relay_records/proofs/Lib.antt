mod ListLemmas
mod RecordLemmas
mod StagedLemmas
mod CompactLemmas
mod TrimLemmas
mod ReadLemmas
mod LawLemmas
mod PlaceLemmas
pub mod Theorems
