-- all requests are done if those that are left are
use Rattle.std.proofs.Common.{drop}
use Rattle.std.specs.List.{AllByRecursion}
use Rattle.relay_steering.specs.Steering.{HasDone}
use Rattle.relay_steering.proofs.withdrawing.by_relay.Given as goal

abbrev pub invariant-loop-request : goal.invariant-loop-request
invariant-loop-request g l =
    AllByRecursion (HasDone g.R.Relay.is_new g.R.Stream.Write.contents g.R.Stream.Read.remaining) (drop l.request-index l.request-items)
    → AllByRecursion (HasDone g.R.Relay.is_new g.R.Stream.Write.contents g.R.Stream.Read.remaining) l.request-items
