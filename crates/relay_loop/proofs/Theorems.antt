-- What a crate above may cite of this one: each lemma proves a law that the crate exports.
pub use Rattle.relay_loop.proofs.BecomesLemmas.{groups_talk}
pub use Rattle.relay_loop.proofs.CalledLemmas.{calls_are_among, calls_follow, no_call, one_call}
pub use Rattle.relay_loop.proofs.ClosingLemmas.{closing_is_reply}
pub use Rattle.relay_loop.proofs.GroupHopLemmas.{groups_hand}
pub use Rattle.relay_loop.proofs.LawLemmas.{hands_stay, others_hand, others_talk, queued_are_accepted, talks_are_dialogues, talks_stay}
