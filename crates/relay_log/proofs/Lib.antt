mod RefusedLemmas
mod LastReplyLemmas
mod ReportKindLemmas
mod PositionLemmas
mod ToldLemmas
mod TalkLemmas
