-- Relays at the start of a run.
use Rattle.std.specs.Prelude.{List, []}
use Rattle.relay_world.specs.World.{Host, World}

-- nodes without links, at time 0
abbrev pub begun_with : {D : Type 0} → List (Host D) → World D
begun_with hosts = record { hosts = hosts; links = []; attempts = []; ledger = []; clock = 0 }
