-- Bare line ends (RFC 5321, section 2.3.8): a CR and an LF stand in a line end together, or they stand alone.
use Rattle.std.specs.Prelude.{◌≡◌, ◌↔◌, ℕ, Bool, false, ◌==◌, ◌&&◌, ◌||◌, List, [], ◌∷◌, ◌++◌, if◌then◌else◌}
use Rattle.std.specs.List.{AllByRecursion}
use Rattle.relay_octets.specs.Line.{lines_text}

-- the octet is a CR or an LF
abbrev pub is_cr_or_lf : ℕ → Bool
is_cr_or_lf octet = octet == 13 || octet == 10

-- a CR or an LF stands alone: it isn't that of a CR LF
abbrev pub has_bare_end : List ℕ → Bool
has_bare_end [] = false
has_bare_end (octet ∷ []) = is_cr_or_lf octet
has_bare_end (octet ∷ next ∷ more) =
    if octet == 13 && next == 10 then has_bare_end more else (is_cr_or_lf octet || has_bare_end (next ∷ more))

-- CR LF are the first octets
abbrev pub begins_with_crlf : List ℕ → Bool
begins_with_crlf [] = false
begins_with_crlf (octet ∷ []) = false
begins_with_crlf (octet ∷ next ∷ more) = octet == 13 && next == 10

-- neither a CR nor an LF is among the octets
abbrev pub IsPlain : List ℕ → Type 0
IsPlain octets = AllByRecursion (λ octet. is_cr_or_lf octet ≡ false) octets

-- the content is lines, each with its CR LF, and a rest; no other CR or LF is in it
pub record IsOfLines (content : List ℕ) : Type 0 where
  pub lines : List (List ℕ)
  pub rest : List ℕ
  pub each : AllByRecursion IsPlain lines
  pub last : IsPlain rest
  pub content_is : content ≡ lines_text lines ++ rest

-- No CR and no LF stands alone exactly in what is lines with CR LF, and a rest.
abbrev pub BareEndIsSeen : Type 0
BareEndIsSeen = (content : List ℕ) → IsOfLines content ↔ (has_bare_end content ≡ false)
