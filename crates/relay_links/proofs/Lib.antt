mod AcceptedLemmas
mod LinkLemmas
mod PushLemmas
mod WholeLemmas
pub mod Theorems
