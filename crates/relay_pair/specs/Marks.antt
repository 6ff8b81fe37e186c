-- The places that the relays of a pair hold.
use Rattle.std.specs.Prelude.{ℕ, ◌+◌, List, [], ◌++◌, ◌∷◌, map}
use Rattle.relay_world.specs.World.{Host}
use Rattle.relay_hosts.specs.Work.{marks_in}

-- a held place, with its node
abbrev pub mark_of : ℕ → ℕ × ℕ → ℕ × ℕ × ℕ
mark_of node held = (node, held.0, held.1)

-- the held places of these nodes, the first of which has this index
abbrev pub marks_from : {D : Type 0} → ℕ → List (Host D) → List (ℕ × ℕ × ℕ)
marks_from node [] = []
marks_from node (host ∷ hosts) = map (mark_of node) (marks_in host.state) ++ marks_from (node + 1) hosts
