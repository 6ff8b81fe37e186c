use Rattle.relay_pair.proofs.NetworkLemmas.{NoneSendsHome}
use Rattle.relay_pair.proofs.network.has_own_hop.Given as goal

-- none so far sends to its own host
abbrev pub invariant-loop-at : goal.invariant-loop-at
invariant-loop-at l = NoneSendsHome l.configs l.at
