mod DateLemmas
mod StampLemmas
mod HeaderLemmas
mod HeaderSteps
mod LawLemmas
mod LinesLemmas
mod DateTextLemmas
mod EndLemmas
mod ShortLemmas
pub mod Theorems
