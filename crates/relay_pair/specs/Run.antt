-- A run: events, one after another.
use Rattle.std.specs.Prelude.{◌≡◌, List, [], ◌∷◌, Result}
use Rattle.relay_disk.specs.Device.{DiskWords}
use Rattle.relay_world.specs.World.{World}
use Rattle.relay_events.specs.declared.event.Event.{Event}
use Rattle.relay_events.specs.declared.fault.PairFault.{PairFault}
use Rattle.relay_events.specs.declared.seen.Seen.{Seen}
use Rattle.relay_events.specs.Step.{Steps}

-- one step for each event, in order, also after one that was refused
abbrev pub StepsEach : {D : Type 0} → Type 0 → DiskWords D → World D → List Event → World D → Type 0
StepsEach honest words old [] new = new ≡ old
StepsEach {D} honest words old (event ∷ events) new =
    (next : World D) × ((answer : Result Seen PairFault) × Steps honest words old event next answer
    × StepsEach honest words next events new)
