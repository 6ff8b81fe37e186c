-- The nodes of a network have the fuses with which they were made.
use Rattle.std.proofs.Common.{sym, subst}
use Rattle.relay_disk.specs.Memory.{memory_words}
use Rattle.relay_world.specs.World.{World}
use Rattle.relay_pair.specs.Begin.{NoneIsSet}
use Rattle.relay_pair.proofs.pair.Pair+MemoryDisk.network.Goals as goal

pub returns-in-Ok-clause-none_set : goal.returns-in-Ok-clause-none_set
returns-in-Ok-clause-none_set c =
    subst (λ (w : World _). NoneIsSet memory_words w.hosts) (sym c.of_hosts.ensures) c.in-Ok.ensures.none_set
