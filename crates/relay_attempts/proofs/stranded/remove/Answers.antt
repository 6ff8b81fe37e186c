use Rattle.std.proofs.Common.{◌==◌, not, rules}
use Rattle.std.proofs.lemmas.Fn.{filter_same}
use Rattle.relay_attempts.proofs.stranded.remove.Goals as goal

pub returns-clause-items : goal.returns-clause-items
returns-clause-items c = filter_same _ (λ other. not (other == c.args.number)) _ (λ x b f called. search rules) _ _ c.retain.ensures.filtered
