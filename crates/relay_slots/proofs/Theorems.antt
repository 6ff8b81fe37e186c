-- What a crate above may cite: a value that is taken out of a slot and put back leaves the others as they were.
pub use Rattle.relay_slots.proofs.SlotLemmas.{taken_is_none, has_slot, others_twice, others_of_set}
