-- What a crate above may cite of this one: each lemma proves a law that the crate exports.
pub use Rattle.relay_disk.proofs.DeviceLemmas.{cuts_leave_a_front, writes_leave_the_rest}
