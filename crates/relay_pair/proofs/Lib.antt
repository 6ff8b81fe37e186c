mod AcceptedLemmas
mod BeginLemmas
mod CopyLemmas
mod MarkLemmas
mod NetworkLemmas
mod ProfileLemmas
mod RunLemmas
pub mod Theorems
