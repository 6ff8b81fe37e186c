mod OctetLemmas
mod TextLemmas
mod NumberLemmas
mod CutLemmas
mod WordLemmas
mod OperandLemmas
mod LineLemmas
mod OneLineLemmas
