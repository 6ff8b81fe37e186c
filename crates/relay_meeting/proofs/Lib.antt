mod MeetLemmas
mod ScriptLemmas
mod TriedLemmas
mod WritesLemmas
mod JoinLemmas
mod CutShortLemmas
mod EndLemmas
mod HoldLemmas
mod ChildLemmas
mod WholeLemmas
pub mod Theorems
