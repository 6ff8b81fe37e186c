-- What a buffer holds of a line that comes in pieces: 2,048 octets of it, and what its end depends on.
use Rattle.std.specs.Prelude.{◌≡◌, ℕ, ◌+◌, Bool, ◌||◌, nat_lt, List, [], ◌∷◌, ◌++◌, take, length}
use Rattle.relay_octets.specs.Line.{HasNoCrlf, ReadsLine, ends_in_cr}

-- the buffered octets, whether more came than fit, and whether the last was a CR
pub record HeldLine : Type 0 where
  pub kept : List ℕ
  pub is_long : Bool
  pub after_cr : Bool

-- the line isn't ended, and these are its octets so far
pub record Holds (held : HeldLine) (octets : List ℕ) : Type 0 where
  pub kept : held.kept ≡ take 2048 octets
  pub is_long : held.is_long ≡ nat_lt 2048 (length octets)
  pub after_cr : held.after_cr ≡ ends_in_cr octets
  pub unended : HasNoCrlf octets

-- The line is ended. It is long where it has more than 2,048 octets with its CR LF.
pub record HoldsLine (held : HeldLine) (line : List ℕ) : Type 0 where
  pub kept : held.kept ≡ take 2048 line
  pub is_long : held.is_long ≡ nat_lt 2046 (length line)

-- with these octets a line ends that was held unended
abbrev pub EndsLine : List ℕ → List ℕ → HeldLine → Type 0
EndsLine octets more held = (line : List ℕ) × ReadsLine (octets ++ more) line [] × HoldsLine held line

-- a CR is the last of the octets so far, and of these after them
abbrev pub last_is_cr : Bool → List ℕ → Bool
last_is_cr before [] = before
last_is_cr before (octet ∷ octets) = ends_in_cr (octet ∷ octets)

-- the line goes on with these octets, wherever it ends
pub record GoesOn (old new : HeldLine) (octets : List ℕ) : Type 0 where
  pub kept : new.kept ≡ take 2048 (old.kept ++ octets)
  pub is_long : new.is_long ≡ old.is_long || nat_lt 2048 (length old.kept + length octets)
  pub after_cr : new.after_cr ≡ last_is_cr old.after_cr octets
