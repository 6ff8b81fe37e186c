-- Parts between boundaries (RFC 2046, section 5.1.1).
use Rattle.std.specs.Prelude.{◌≡◌, ◌≢◌, ℕ, ◌<◌, List, ◌∷◌, ◌++◌, length, slice_index}
use Rattle.relay_report.specs.Boundary.{StandsNowhere}

-- the text begins with this piece, and the rest follows the first mark
pub record CutsAt (mark text piece rest : List ℕ) : Type 0 where
  pub text_is : text ≡ piece ++ (mark ++ rest)
  pub first : StandsNowhere mark piece

-- the mark's first octet is in it once
pub record BeginsOnce (mark : List ℕ) : Type 0 where
  pub some : 0 < length mark
  pub once : (place : ℕ) → 0 < place → place < length mark → slice_index mark place ≢ slice_index mark 0

-- where a text is cut at such a mark is fixed by the text
abbrev pub CutIsOne : Type 0
CutIsOne =
    (mark text piece rest other more : List ℕ) → BeginsOnce mark
    → CutsAt mark text piece rest → CutsAt mark text other more → (piece ≡ other) × (rest ≡ more)

-- a word without an LF stands nowhere in two texts with an LF between, if it is in neither
abbrev pub NowhereAfterLine : Type 0
NowhereAfterLine =
    (word front back : List ℕ) → ((place : ℕ) → place < length word → slice_index word place ≢ 10)
    → StandsNowhere word front → StandsNowhere word back → StandsNowhere word (front ++ (10 ∷ back))

-- three pieces, each followed by the mark, and what is after the last mark
abbrev pub three_pieces : List ℕ → List ℕ → List ℕ → List ℕ → List ℕ → List ℕ
three_pieces mark one two three tail = one ++ (mark ++ (two ++ (mark ++ (three ++ (mark ++ tail)))))

-- the text cuts at the mark into three pieces and a tail
pub record CutsInThree (mark text one two three tail : List ℕ) : Type 0 where
  pub text_is : text ≡ three_pieces mark one two three tail
  pub one_plain : StandsNowhere mark one
  pub two_plain : StandsNowhere mark two
  pub three_plain : StandsNowhere mark three

-- a text cuts into three in one way: what was joined comes back
abbrev pub PartsComeBack : Type 0
PartsComeBack =
    (mark text one two three tail first second third rest : List ℕ) → BeginsOnce mark
    → CutsInThree mark text one two three tail → CutsInThree mark text first second third rest
    → (one ≡ first) × (two ≡ second) × (three ≡ third) × (tail ≡ rest)

-- these are the three pieces
pub record IsThreeOf (mark text one two three : List ℕ) : Type 0 where
  pub tail : List ℕ
  pub cuts : CutsInThree mark text one two three tail

-- no three pieces are
pub record HasNoThree (mark text : List ℕ) : Type 0 where
  pub none : (one two three tail : List ℕ) → CutsInThree mark text one two three tail → ⊥
