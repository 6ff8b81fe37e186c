mod DeviceLemmas
mod CallLemmas
mod PickLemmas
pub mod Theorems
