mod GoingLemmas
mod OrderLemmas
mod TakenLemmas
mod EndLemmas
mod OneLemmas
mod HopLemmas
mod PositionLemmas
mod SettlingLemmas
mod WrittenLemmas
mod RelayLemmas
pub mod Theorems
