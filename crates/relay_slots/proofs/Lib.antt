mod SlotLemmas
pub mod Theorems
