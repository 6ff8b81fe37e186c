mod ReportLemmas
mod SavingLemmas
mod WithdrawalLemmas
mod LineLemmas
