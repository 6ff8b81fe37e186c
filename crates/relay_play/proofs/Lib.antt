mod LineLemmas
mod ScriptLemmas
