use Rattle.relay_hosts.specs.Named.{NoneIsNamedBefore}
use Rattle.relay_hosts.proofs.named.node_named.Given as goal

-- none so far has the name
abbrev pub invariant-loop-node : goal.invariant-loop-node
invariant-loop-node g l = NoneIsNamedBefore l.hosts l.name l.node
