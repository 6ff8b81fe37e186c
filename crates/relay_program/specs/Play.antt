-- What `relayd play` has done.
use Rattle.std.specs.Prelude.{Option, List, ℕ}
use Rattle.relay_disk.specs.declared.memory.MemoryDisk.{MemoryDisk}
use Rattle.relay_disk.specs.Memory.{memory_words}
use Rattle.relay_world.specs.World.{World}
use Rattle.relay_play.specs.Script.{IsPlayed, IsReadTo}

-- a script was read to its end, and some relays are those that its lines lead to
abbrev pub IsPlayedWhole : Option (List ℕ) → Option (List ℕ) → Type 0
IsPlayedWhole left new_left =
    IsReadTo left new_left (λ script. (world : World MemoryDisk) × IsPlayed (Unit {0}) memory_words script world)
