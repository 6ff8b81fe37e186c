mod SettledLemmas
mod WrittenLemmas
mod DoesLemmas
mod KeepLemmas
pub mod Theorems
mod FollowLemmas
