mod OctetLemmas
mod SessionLemmas
mod StandsLemmas
mod UnitLemmas
mod TurnLemmas
mod DialogueLemmas
mod ReplyTextLemmas
mod BeginningLemmas
mod ReplyLemmas
mod StoredLemmas
mod TakenLemmas
mod ChunkLemmas
mod JudgeLemmas
mod SessionLawLemmas
mod TurnLawLemmas
pub mod Theorems
