mod ProfileLemmas
mod SessionLemmas
mod StatusLemmas
mod TaskLemmas
mod WordLemmas
