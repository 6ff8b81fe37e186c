-- Nothing waits to be written for an attempt that has begun.
use Rattle.std.proofs.Common.{◌≡◌, rules, [], Some}
use Rattle.std.proofs.lemmas.Result.{err_from_is_err_and}
use Rattle.relay_slots.specs.Slots.{slot_at}
use Rattle.relay_loop.proofs.HopLemmas.{starts_to}
use Rattle.relay_loop.proofs.relay.Relay.start_some.Goals as goal

pub returns-in_err-started-clause-refused : goal.returns-in_err-started-clause-refused
returns-in_err-started-clause-refused g c =
    let p = err_from_is_err_and c.from_residual.result c.from_residual.ensures.1 in
    rw (p.1, p.2, ← c.self.view_is) c.in_err-started.ensures.refused

pub returns-clause-starts : goal.returns-clause-starts
returns-clause-starts g c = rw (← c.self.view_is) (λ changes keeps.
    let there : slot_at c.put.new.self c.in_ok-started.started.attempt ≡ Some [] = search rules in
    starts_to changes c.args.message c.args.hop.now (Some c.args.most) c.args.now _ _ c.in_ok-started.started c.in_ok-started.ensures.rest.1 there (c.in_ok-started.ensures.begins changes keeps))
