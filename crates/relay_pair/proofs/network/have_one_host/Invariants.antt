use Rattle.relay_pair.proofs.NetworkLemmas.{NoneSoFar}
use Rattle.relay_pair.proofs.network.have_one_host.Given as goal

-- none so far has the host of an earlier one
abbrev pub invariant-loop-other : goal.invariant-loop-other
invariant-loop-other l = NoneSoFar l.configs l.other
