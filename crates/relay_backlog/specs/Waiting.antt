-- Lines of a log that wait for their reader, and those that were dropped since nobody has taken what waits.
use Rattle.std.specs.Prelude.{ℕ, suc, ◌+◌, ◌-◌, ◌^◌, nat_le, ◌==◌, ◌&&◌, min, Bool, true, false}
use Rattle.std.specs.Prelude.{List, [], ◌∷◌, ◌++◌, length, if◌then◌else◌}

-- the octets that wait, and how many lines were dropped after them
pub record Waiting : Type 0 where
  pub lines : List ℕ
  pub dropped : ℕ

-- nothing waits, and nothing was dropped
abbrev pub nothing : Waiting
nothing = record { lines = []; dropped = 0 }

-- profile: 1,048,576 octets wait at most; once a line was dropped, so is each after it
abbrev pub fits : Waiting → List ℕ → Bool
fits waiting line = (waiting.dropped == 0) && nat_le (length line) (2 ^ 20 - length waiting.lines)

-- a line more waits, if it fits, and is dropped else
abbrev pub with_line_if : Bool → Waiting → List ℕ → Waiting
with_line_if true waiting line = record { lines = waiting.lines ++ line; dropped = waiting.dropped }
with_line_if false waiting line = record { lines = waiting.lines; dropped = min (waiting.dropped + 1) (2 ^ 64 - 1) }

-- what waits once a line came
abbrev pub with_line : Waiting → List ℕ → Waiting
with_line waiting line = with_line_if (fits waiting line) waiting line

-- what waits once these lines came, in order
abbrev pub with_lines : Waiting → List (List ℕ) → Waiting
with_lines waiting [] = waiting
with_lines waiting (line ∷ lines) = with_lines (with_line waiting line) lines

-- how many octets the first line has, with its LF; all if there is none
abbrev pub line_length : List ℕ → ℕ
line_length [] = 0
line_length (octet ∷ octets) = if octet == 10 then 1 else suc (line_length octets)

-- lines with an octet more in front of the first
abbrev pub after_octet : ℕ → List (List ℕ) → List (List ℕ)
after_octet octet [] = (octet ∷ []) ∷ []
after_octet octet (line ∷ lines) = (octet ∷ line) ∷ lines

-- the octets, cut after each LF
abbrev pub lines_of : List ℕ → List (List ℕ)
lines_of [] = []
lines_of (octet ∷ octets) =
    if octet == 10 then (octet ∷ []) ∷ lines_of octets else after_octet octet (lines_of octets)
