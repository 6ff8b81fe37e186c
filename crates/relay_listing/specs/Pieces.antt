-- Text in pieces (HTML, section 13.1): the relay's own markup, and octets from elsewhere, escaped so that none is
-- markup.
use Rattle.std.specs.Prelude.{ℕ, ◌==◌, Bool, not, ◌&&◌, ◌||◌, List, [], ◌∷◌, ◌++◌, decimal, if◌then◌else◌}
use Rattle.std.specs.List.{flat_map}
use Rattle.relay_lines.specs.Word.{is_printable}
use Rattle.relay_listing.specs.Amounts.{size_text, span_text, wait_text}
use Rattle.relay_listing.specs.declared.pieces.Piece.{Piece}
use Rattle.relay_listing.specs.declared.pieces.Piece.TheVariants.{Markup, Text, Number, Size, Span, Wait}

-- `<`, `>`, `&`, `"` or `'`
abbrev pub has_meaning : ℕ → Bool
has_meaning octet = octet == 60 || octet == 62 || octet == 38 || octet == 34 || octet == 39

-- printable ASCII without a meaning in HTML
abbrev pub is_plain : ℕ → Bool
is_plain octet = is_printable octet && not (has_meaning octet)

-- an octet in a page: as it is, or as a numeric character reference (section 13.1.4)
abbrev pub escaped_octet : ℕ → List ℕ
escaped_octet octet = if is_plain octet then octet ∷ [] else 38 ∷ 35 ∷ decimal octet ++ 59 ∷ []

abbrev pub escaped : List ℕ → List ℕ
escaped octets = flat_map escaped_octet octets

-- the text of a piece
abbrev pub spelled : Piece → List ℕ
spelled (Markup markup) = markup.now
spelled (Text octets) = escaped octets.now
spelled (Number number) = decimal number
spelled (Size octets) = size_text octets
spelled (Span seconds) = span_text seconds
spelled (Wait seconds) = wait_text seconds

abbrev pub all_spelled : List Piece → List ℕ
all_spelled pieces = flat_map spelled pieces

-- the texts, one after another
abbrev pub joined : List (List ℕ) → List ℕ
joined texts = flat_map (λ text. text) texts
