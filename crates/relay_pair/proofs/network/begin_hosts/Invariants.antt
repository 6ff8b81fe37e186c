use Rattle.relay_disk.specs.Memory.{memory_words}
use Rattle.relay_pair.specs.Begin.{AreNew, NoneIsSet}
use Rattle.relay_pair.proofs.network.begin_hosts.Given as goal

-- the nodes so far have begun, by the configurations so far, and no fault is set
abbrev pub invariant-loop-config : goal.invariant-loop-config
invariant-loop-config l =
    AreNew (Unit {0}) memory_words 0 l.yielded l.hosts.items × NoneIsSet memory_words l.hosts.items
