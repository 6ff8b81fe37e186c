-- what is given so far, with the rest, is what the text gives
use Rattle.std.proofs.Common.{◌≡◌, length}
use Rattle.std.specs.List.{slice_split}
use Rattle.relay_envelope.specs.Parameters.{mail_parameters_of, mail_value, is_octet, with_each, with_mail_parameter}
use Rattle.relay_envelope.proofs.parameters.read_mail_parameters.Given as goal

abbrev pub invariant-loop-word : goal.invariant-loop-word
invariant-loop-word l = with_each with_mail_parameter (slice_split (is_octet 32) l.rest) (mail_value l.given) ≡ mail_parameters_of l.text

abbrev pub decreases-loop-word : goal.decreases-loop-word
decreases-loop-word l = length l.rest
