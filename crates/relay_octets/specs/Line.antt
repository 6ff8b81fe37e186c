-- Lines (RFC 5321, section 2.3.8): a line ends with CR LF, and a CR or an LF alone ends none.
use Rattle.std.specs.Prelude.{◌≡◌, ◌≢◌, ◌↔◌, ℕ, Bool, false, ◌==◌, ◌&&◌, ◌||◌, List, [], ◌∷◌, ◌++◌}
use Rattle.std.specs.List.{flat_map, AllByRecursion, AllPass}

-- the octets that end a line: CR LF
abbrev pub crlf : List ℕ
crlf = 13 ∷ 10 ∷ []

-- no CR LF stands anywhere in the octets
pub record HasNoCrlf (octets : List ℕ) : Type 0 where
  pub nowhere : (before after : List ℕ) → octets ≢ before ++ crlf ++ after

-- the stream begins with this line, and the rest follows its CR LF
pub record ReadsLine (stream line rest : List ℕ) : Type 0 where
  pub text : stream ≡ line ++ crlf ++ rest
  pub first : HasNoCrlf line

-- lines one after another, each followed by its CR LF
abbrev pub line_text : List ℕ → List ℕ
line_text line = line ++ crlf

abbrev pub lines_text : List (List ℕ) → List ℕ
lines_text lines = flat_map line_text lines

-- each of them is a line: no CR LF is in it
abbrev pub AreLines : List (List ℕ) → Type 0
AreLines lines = AllByRecursion HasNoCrlf lines

-- a CR is the last octet
abbrev pub ends_in_cr : List ℕ → Bool
ends_in_cr [] = false
ends_in_cr (octet ∷ []) = octet == 13
ends_in_cr (octet ∷ next ∷ more) = ends_in_cr (next ∷ more)

-- an LF is the first octet
abbrev pub begins_with_lf : List ℕ → Bool
begins_with_lf [] = false
begins_with_lf (octet ∷ octets) = octet == 10

-- a CR LF is in the octets
abbrev pub has_crlf : List ℕ → Bool
has_crlf [] = false
has_crlf (octet ∷ octets) = (octet == 13 && begins_with_lf octets) || has_crlf octets

-- a stream fixes its first line, and what follows it
abbrev pub FirstLineIsOne : Type 0
FirstLineIsOne =
    (stream line rest other more : List ℕ) → ReadsLine stream line rest
    → ReadsLine stream other more
    → (line ≡ other) × (rest ≡ more)

-- octets added to a stream don't change its first line
abbrev pub FirstLineStays : Type 0
FirstLineStays =
    (stream line rest more : List ℕ) → ReadsLine stream line rest
    → ReadsLine (stream ++ more) line (rest ++ more)

-- The test for CR LF fails exactly if the octets have none.
abbrev pub CrlfIsTested : Type 0
CrlfIsTested = (octets : List ℕ) → HasNoCrlf octets ↔ (has_crlf octets ≡ false)

-- Octets without a CR (which all pass a test that a CR fails) have no CR LF.
abbrev pub NoCrIsNoCrlf : Type 0
NoCrIsNoCrlf =
    (test : ℕ → Bool) (octets : List ℕ) → test 13 ≡ false → AllPass test octets → HasNoCrlf octets

-- Joined octets have no CR LF exactly if neither part has one and none spans the seam.
abbrev pub JoinHasNoCrlf : Type 0
JoinHasNoCrlf =
    (front back : List ℕ) → HasNoCrlf (front ++ back)
    ↔ (HasNoCrlf front × HasNoCrlf back × (ends_in_cr front && begins_with_lf back ≡ false))
