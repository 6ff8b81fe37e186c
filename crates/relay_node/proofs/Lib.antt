mod AcceptLemmas
mod ListenLemmas
mod SpeakLemmas
mod ReceiveLemmas
mod HeardAfterLemmas
mod QueuedLemmas
mod NodeLemmas
mod SeatLemmas
mod StageLemmas
mod AttemptLemmas
mod CompactionLemmas
mod EmptyLemmas
mod ReplyLemmas
mod ReplyIntoLemmas
mod AdmitLemmas
pub mod Theorems
