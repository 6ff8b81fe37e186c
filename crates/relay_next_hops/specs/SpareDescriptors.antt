-- Spare file descriptors for attempts.
use Rattle.std.specs.Prelude.{ℕ, vec_len}
use Rattle.relay_next_hops.specs.declared.spare_descriptors.SpareDescriptors.{SpareDescriptors}

-- how many are kept
abbrev pub held_of : SpareDescriptors → ℕ
held_of spares = vec_len spares.copies
