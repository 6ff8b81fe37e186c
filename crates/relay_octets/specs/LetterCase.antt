-- Words in any letter case (RFC 5321, section 2.4): verbs and keywords are the same in upper and
-- lower case.
use Rattle.std.specs.Prelude.{◌≡◌, ℕ, List, map}
use Rattle.std.specs.Char.{to_ascii_lowercase}

-- the two texts are the same word, whatever the case of their letters
abbrev pub IsSameWord : List ℕ → List ℕ → Type 0
IsSameWord text word = map to_ascii_lowercase text ≡ map to_ascii_lowercase word
