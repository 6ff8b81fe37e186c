mod ArmLemmas
mod BeginLemmas
mod CallLemmas
mod CompactLemmas
mod DueLemmas
mod HeardLemmas
mod HostLemmas
mod LinkLemmas
mod NamedLemmas
mod RepliedLemmas
mod RoomLemmas
mod SlotLemmas
mod StopLemmas
mod StopNowLemmas
pub mod Theorems
mod WorkLemmas
