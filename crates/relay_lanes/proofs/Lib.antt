pub mod LaneLemmas
pub mod PaceLemmas
pub mod PlaceLemmas
