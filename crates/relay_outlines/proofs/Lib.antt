mod LookLemmas
mod ReadLemmas
mod CursorLemmas
mod FirstLemmas
mod BlockLemmas
mod OpenLemmas
pub mod Theorems
