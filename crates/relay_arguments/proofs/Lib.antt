mod FaultLemmas
mod NumberLemmas
mod ShapeLemmas
