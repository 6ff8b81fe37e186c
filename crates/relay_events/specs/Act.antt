-- The direct effect of an event, and its result after nodes were notified of the links that it broke.
use Rattle.std.specs.Prelude.{ℕ, List, [], ◌∷◌, Result}
use Rattle.relay_disk.specs.Device.{DiskWords}
use Rattle.relay_world.specs.World.{World}
use Rattle.relay_events.specs.declared.act.Act.{Act}
use Rattle.relay_events.specs.declared.act.Act.TheVariants as act
use Rattle.relay_events.specs.declared.fault.PairFault.{PairFault}
use Rattle.relay_events.specs.declared.seen.Seen.{Seen}
use Rattle.relay_events.specs.Step.{Did, IsSeen, Refuses, Shows, Stops}
use Rattle.relay_events.specs.Told.{AreTold}

abbrev pub did_of : Act → Did
did_of (act.Shows own) = Shows own
did_of (act.Refuses why) = Refuses why
did_of (act.Stops node) = Stops node

-- the node that stopped, if one did
abbrev pub stops_of : Did → List ℕ
stops_of (Shows own) = []
stops_of (Refuses why) = []
stops_of (Stops node) = node ∷ []

-- After an event with this effect, nodes were notified of the links that it broke, and this is its result.
abbrev pub IsFinished : {D : Type 0} → Type 0 → DiskWords D → World D → Did → World D → Result Seen PairFault → Type 0
IsFinished honest words middle did new answer =
    (told : AreTold honest words middle new) × IsSeen did told.stopped answer
