mod FrontLemmas
mod WordLemmas
mod ClientLemmas
mod LineLemmas
mod BlockLemmas
mod HeaderLemmas
mod HeaderLawLemmas
mod WrittenLemmas
pub mod Theorems
