pub mod Settling
pub mod Talk
pub mod Refused
pub mod LastReplies
pub mod ReportKind
pub mod RejectionMinutes
