use Rattle.relay_events.specs.Relays.{world_of}
use Rattle.relay_events.proofs.TellLemmas.{ToldUpTo}
use Rattle.relay_events.proofs.relays.Relays.first_untold.Given as goal

-- of the links so far each node was told
abbrev pub invariant-loop-place : goal.invariant-loop-place
invariant-loop-place g l = ToldUpTo (world_of l.self) l.place
