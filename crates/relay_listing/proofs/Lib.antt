mod JoinLemmas
mod LoadLemmas
mod ObjectLemmas
mod RowLemmas
pub mod PrintableLemmas
pub mod Theorems
