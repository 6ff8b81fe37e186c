-- Rows: how octets are written in them.
use Rattle.std.specs.Prelude.{ℕ, ◌==◌, if◌then◌else◌, List, [], ◌∷◌}

-- the octet that a letter after a backslash stands for: CR, LF, HTAB, VT, NUL, US, DEL, the first
-- and the last above DEL; another by itself
abbrev pub escaped : ℕ → ℕ
escaped letter =
    if letter == 114 then 13
    else if letter == 110 then 10
    else if letter == 116 then 9
    else if letter == 118 then 11
    else if letter == 48 then 0
    else if letter == 117 then 31
    else if letter == 100 then 127
    else if letter == 104 then 128
    else if letter == 102 then 255
    else letter

-- the octets that a text of a row stands for
abbrev pub octets_of : List ℕ → List ℕ
octets_of [] = []
octets_of (octet ∷ []) = octet ∷ []
octets_of (octet ∷ letter ∷ rest) =
    if octet == 92 then escaped letter ∷ octets_of rest else octet ∷ octets_of (letter ∷ rest)
