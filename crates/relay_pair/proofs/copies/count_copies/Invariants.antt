use Rattle.std.proofs.Common.{drop}
use Rattle.relay_events.specs.Relays.{world_of}
use Rattle.relay_pair.proofs.CopyLemmas.{Counts}
use Rattle.relay_pair.proofs.copies.count_copies.Given as goal

-- the copies so far, and those of the attempts that are left, are all
abbrev pub invariant-loop-at : goal.invariant-loop-at
invariant-loop-at g l =
    Counts g.D.Disk.honest g.D.Disk.words (world_of l.relays) l.node l.message l.place (drop l.at l.relays.attempts.items) l.count
