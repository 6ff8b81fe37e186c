-- the lines of the next hops so far, each with a text for its time; the others are left
use Rattle.relay_listing.specs.Load.{loads_in}
use Rattle.relay_queue.proofs.LoadLemmas.{AreLines}
use Rattle.relay_queue.proofs.status.push_hops.Given as goal

abbrev pub invariant-loop-name : goal.invariant-loop-name
invariant-loop-name l =
    AreLines l.now (loads_in l.name-iterator) (loads_in l.loads.entries) l.fn.screen l.screen
