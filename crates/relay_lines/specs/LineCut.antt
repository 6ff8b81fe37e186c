-- The next line of a stream (RFC 5321, sections 2.3.8 and 4.5.3.1.4), of at most a number of octets
-- with its CR LF.
use Rattle.std.specs.Prelude.{◌≡◌, ℕ, ◌+◌, ◌<◌, ◌≤◌, List, length, take}
use Rattle.relay_octets.specs.Line.{HasNoCrlf, ReadsLine}
use Rattle.relay_lines.specs.declared.line.LineCut.{LineCut}
use Rattle.relay_lines.specs.declared.line.LineCut.TheVariants.{Whole, TooLong, More}

-- the state of the octets' first line
abbrev pub CutsLine : LineCut → List ℕ → ℕ → Type 0
-- its CR LF ends at this place, and it is short enough
CutsLine (Whole end) octets limit =
    (line rest : List ℕ) × ReadsLine octets line rest × (end ≡ length line + 2) × (end ≤ limit)
-- this many octets have come, and none of them ends the line in time
CutsLine TooLong octets limit = (limit ≤ length octets) × HasNoCrlf (take limit octets)
-- it may still become a line that is short enough
CutsLine More octets limit = (length octets < limit) × HasNoCrlf octets
