-- The lines of an answer, as they are printed.
use Rattle.std.specs.Prelude.{ℕ, ◌==◌, if◌then◌else◌, List, [], ◌∷◌, ◌++◌}
use Rattle.std.specs.List.{flat_map, slice_split}

-- what is printed of a line: what follows the space that it begins with, and LF; nothing if it begins with none
abbrev pub printed_line : List ℕ → List ℕ
printed_line [] = []
printed_line (octet ∷ text) = if octet == 32 then text ++ 10 ∷ [] else []

-- what is printed of lines, in their order
abbrev pub printed : List ℕ → List ℕ
printed lines = flat_map printed_line (slice_split (λ octet. octet == 10) lines)
