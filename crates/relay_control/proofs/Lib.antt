mod NumberLemmas
mod RequestLemmas
mod NamedLemmas
mod AnswerLemmas
mod HeldLemmas
mod HeldFileLemmas
mod LawLemmas
