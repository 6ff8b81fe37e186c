-- Room that is reserved, so that no memory is needed to report a lost link to an attempt, or to open a node again.
use Rattle.std.specs.Prelude.{ℕ, ◌+◌, ◌≤◌, List, [], ◌∷◌, length, Option, None, Some, if◌then◌else◌}
use Rattle.relay_world.specs.declared.attempt.Attempt.{Attempt}
use Rattle.relay_world.specs.Ledger.{lines_of}
use Rattle.relay_world.specs.World.{Down, HostState, Host, Undecided, Up, World}
use Rattle.relay_hosts.specs.Links.{is_running}

-- ledger lines that an attempt may still need: one for each place, if it is running
abbrev pub lines_of_attempt : Attempt → ℕ
lines_of_attempt attempt = if is_running attempt.fate then length attempt.places.items else 0

-- those of all attempts
abbrev pub lines_to_come : List Attempt → ℕ
lines_to_come [] = 0
lines_to_come (attempt ∷ attempts) =
    (if is_running attempt.fate then length attempt.places.items else 0) + lines_to_come attempts

-- those of an undecided change of a node that is down
abbrev pub lines_if_found : ℕ → Option Undecided → ℕ
lines_if_found node None = 0
lines_if_found node (Some undecided) = length (lines_of node undecided)

abbrev pub lines_held : {D : Type 0} → ℕ → HostState D → ℕ
lines_held node (Up standing) = 0
lines_held node (Down disk undecided) = lines_if_found node undecided

abbrev pub lines_left : {D : Type 0} → ℕ → List (Host D) → ℕ
lines_left node [] = 0
lines_left node (host ∷ hosts) = lines_held node host.state + lines_left (node + 1) hosts

-- The ledger has room for all of these.
abbrev pub HasRoom : {D : Type 0} → World D → ℕ → Type 0
HasRoom world free = lines_to_come world.attempts + lines_left 0 world.hosts ≤ free

-- It has room for this many more besides.
abbrev pub HasRoomFor : {D : Type 0} → World D → ℕ → ℕ → Type 0
HasRoomFor world more free = lines_to_come world.attempts + lines_left 0 world.hosts + more ≤ free
