mod RowLemmas
mod LaneLemmas
