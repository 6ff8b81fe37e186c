use Rattle.std.proofs.Common.{◌≡◌, ◌<◌, length, rules}
use Rattle.relay_events.proofs.StepLemmas.{seen_alone, seen_stopped}
use Rattle.relay_events.proofs.seen.seen_of.Goals as goal

pub returns-then-is_empty : goal.returns-then-is_empty
returns-then-is_empty c =
    let none : length c.args.stopped ≡ 0 = search rules in
    seen_alone c.args.own c.args.stopped none

pub returns : goal.returns
returns c =
    let some : 0 < length c.args.stopped = search rules in
    seen_stopped c.args.own c.args.stopped some
