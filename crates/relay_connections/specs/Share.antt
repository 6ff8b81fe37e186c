-- How much of the octets read from its connection a client's session hears in one call: a bounded number of lines. Here
-- a line ends with LF, whatever comes before it.
use Rattle.std.specs.Prelude.{ℕ, zero, suc, ◌+◌, ◌==◌, List, [], ◌∷◌, if◌then◌else◌, drop, take}

-- the length of the first line with its LF, or of all octets if there is no LF
abbrev pub line_length : List ℕ → ℕ
line_length [] = 0
line_length (octet ∷ octets) = if octet == 10 then 1 else suc (line_length octets)

-- the length of the first lines, or of all octets if there are fewer
abbrev pub lines_length : ℕ → List ℕ → ℕ
lines_length zero octets = 0
lines_length (suc count) octets =
    lines_length count octets + line_length (drop (lines_length count octets) octets)

-- profile: the first 256 lines
abbrev pub share_of : List ℕ → List ℕ
share_of octets = take (lines_length 256 octets) octets
