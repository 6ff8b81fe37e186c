use Rattle.std.proofs.Common.{◌∙◌}
use Rattle.relay_body.proofs.NulLemmas.{nul_is_found}
use Rattle.relay_body.proofs.nul.has_nul.Goals as goal

pub returns : goal.returns
returns c = c.is_some.ensures ∙ nul_is_found c.args.octets.now c.memchr.result c.memchr.ensures
