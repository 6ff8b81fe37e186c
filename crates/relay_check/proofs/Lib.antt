mod FindingLemmas
mod RefusalLemmas
mod ShownLemmas
