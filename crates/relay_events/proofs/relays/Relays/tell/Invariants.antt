use Rattle.std.specs.Prelude.{◌≡◌, ◌+◌, ◌≤◌, ◌++◌, ℕ, List, length}
use Rattle.relay_events.specs.Happened.{HasHappened}
use Rattle.relay_events.specs.Relays.{AreBound, free_lines, world_of}
use Rattle.relay_hosts.specs.Room.{HasRoom}
use Rattle.relay_events.specs.Told.{Tell, ends_of, trying_of}
use Rattle.relay_events.proofs.relays.Relays.tell.Given as goal

-- so far some ends were told, and these nodes have stopped in it
abbrev pub invariant-loop-number : goal.invariant-loop-number
invariant-loop-number g l =
    ((turns : ℕ) × (names : List ℕ)
    × Tell g.D.Disk.honest g.D.Disk.words turns (world_of l.fn.self) (world_of l.self) names
    × (l.stopped ≡ l.fn.stopped ++ names))
    × HasHappened g.D.Disk.honest g.D.Disk.words (world_of l.fn.self) (world_of l.self)
    × AreBound g.D.Disk.honest g.D.Disk.words (world_of l.self) × HasRoom (world_of l.self) (free_lines l.self)
    × (length l.stopped + trying_of 16 l.self.attempts.items ≤ 17)

-- sessions and attempts that go on
abbrev pub decreases-loop-number : goal.decreases-loop-number
decreases-loop-number g l = ends_of (world_of l.self)
