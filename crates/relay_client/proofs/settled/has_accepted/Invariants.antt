-- one was accepted among those from here where one was at all
use Rattle.std.proofs.Common.{◌≡◌, drop}
use Rattle.relay_client.specs.Settled.{has_accepted}
use Rattle.relay_client.proofs.settled.has_accepted.Given as goal

abbrev pub invariant-loop-one : goal.invariant-loop-one
invariant-loop-one l = has_accepted (drop l.one-index l.said) ≡ has_accepted l.fn.said
