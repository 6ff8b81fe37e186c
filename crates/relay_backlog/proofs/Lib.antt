mod FieldLemmas
mod LineLemmas
