mod HeldLineLemmas
mod ShownLemmas
mod WordLemmas
mod CommandLemmas
mod CommandFaultLemmas
mod SpellingLemmas
mod WrittenCommandLemmas
mod ReplyLemmas
mod ReplyReadingLemmas
mod ReplyFeedLemmas
mod ReplyLawLemmas
mod ReplyFaultLemmas
mod ReplyCutLemmas
mod ChunkArgumentLemmas
pub mod Theorems
