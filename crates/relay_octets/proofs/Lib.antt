mod LineLemmas
mod SearchLemmas
pub mod Theorems
