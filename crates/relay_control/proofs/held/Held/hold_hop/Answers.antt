use Rattle.std.proofs.Common.{refl, rules}
use Rattle.relay_control.proofs.HeldLemmas.{hop_is_held}
use Rattle.relay_control.proofs.held.Held.hold_hop.Goals as goal

pub returns-clause-ok : goal.returns-clause-ok
returns-clause-ok c = (search rules, hop_is_held c.args.name c.args.self.now _ c.in_ok-push.ensures.items refl)
