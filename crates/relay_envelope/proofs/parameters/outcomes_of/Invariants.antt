-- the outcomes so far, with those of the rest, are those of the list
use Rattle.std.proofs.Common.{◌≡◌, length}
use Rattle.std.specs.List.{slice_split}
use Rattle.relay_envelope.specs.Parameters.{is_octet, no_outcomes, with_outcomes}
use Rattle.relay_envelope.proofs.parameters.outcomes_of.Given as goal

abbrev pub invariant-loop-word : goal.invariant-loop-word
invariant-loop-word l = with_outcomes (slice_split (is_octet 44) l.rest) l.outcomes ≡ with_outcomes (slice_split (is_octet 44) l.value) no_outcomes

abbrev pub decreases-loop-word : goal.decreases-loop-word
decreases-loop-word l = length l.rest
