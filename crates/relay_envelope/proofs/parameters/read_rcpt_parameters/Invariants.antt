-- what is given so far, with the rest, is what the text gives
use Rattle.std.proofs.Common.{◌≡◌, length}
use Rattle.std.specs.List.{slice_split}
use Rattle.relay_envelope.specs.Parameters.{rcpt_parameters_of, rcpt_value, is_octet, with_each, with_rcpt_parameter}
use Rattle.relay_envelope.proofs.parameters.read_rcpt_parameters.Given as goal

abbrev pub invariant-loop-word : goal.invariant-loop-word
invariant-loop-word l = with_each with_rcpt_parameter (slice_split (is_octet 32) l.rest) (rcpt_value l.given) ≡ rcpt_parameters_of l.text

abbrev pub decreases-loop-word : goal.decreases-loop-word
decreases-loop-word l = length l.rest
