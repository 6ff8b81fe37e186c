use Rattle.relay_pair.proofs.NetworkLemmas.{NoneBefore}
use Rattle.relay_pair.proofs.network.is_host_before.Given as goal

-- none so far has the host
abbrev pub invariant-loop-one : goal.invariant-loop-one
invariant-loop-one l = NoneBefore l.configs l.other l.one
