use Rattle.std.proofs.Common.{sym, ◌∙◌}
use Rattle.relay_envelope.specs.Parameters.{is_readable_xtext}
use Rattle.relay_envelope.proofs.ParameterLemmas.{readable_end}
use Rattle.relay_envelope.proofs.parameters.value.is_readable_xtext.Goals as goal

pub returns : goal.returns
unfolding is_readable_xtext
returns c =
    sym (readable_end c.loop-octet.rest.now c.is_empty.result c.in_default.ensures c.is_empty.ensures) ∙ c.loop-octet.invariant
