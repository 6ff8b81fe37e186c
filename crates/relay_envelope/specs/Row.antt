-- Rows of plain octets and quoted strings (RFC 5321, section 4.1.2), of which source routes and local parts are made.
use Rattle.std.specs.Prelude.{◌≡◌, ℕ, ◌<◌, ◌==◌, Bool, true, not, ◌&&◌, List, [], ◌∷◌, ◌++◌, length, take, slice_index}
use Rattle.std.specs.List.{flat_map, AllByRecursion}
use Rattle.std.specs.Int.{is_in_range}
use Rattle.relay_lines.specs.Word.{is_printable}

-- profile: a plain octet is printable, no space, and none of `<`, `>`, `"` and `\`
abbrev pub is_plain : ℕ → Bool
is_plain octet =
    is_in_range 33 126 octet && not (octet == 60) && not (octet == 62) && not (octet == 34) && not (octet == 92)

-- qtextSMTP: a printable octet but `"` and `\`
abbrev pub is_text_octet : ℕ → Bool
is_text_octet octet = is_printable octet && not (octet == 34) && not (octet == 92)

-- QcontentSMTP: qtextSMTP, or quoted-pairSMTP, which is `\` and a printable octet
pub data Content : Type 0 where
  Text : ℕ → Content
  Pair : ℕ → Content

abbrev pub IsContent : Content → Type 0
IsContent (Text octet) = is_text_octet octet ≡ true
IsContent (Pair octet) = is_printable octet ≡ true

abbrev pub content_text : Content → List ℕ
content_text (Text octet) = octet ∷ []
content_text (Pair octet) = 92 ∷ octet ∷ []

-- a plain octet, or Quoted-string, which is `"`, contents and `"`
pub data Piece : Type 0 where
  Plain : ℕ → Piece
  Quoted : List Content → Piece

-- what each is made of, where this octet may not be a plain one
abbrev pub IsPiece : ℕ → Piece → Type 0
IsPiece stop (Plain octet) = is_plain octet && not (octet == stop) ≡ true
IsPiece stop (Quoted contents) = AllByRecursion IsContent contents

abbrev pub piece_text : Piece → List ℕ
piece_text (Plain octet) = octet ∷ []
piece_text (Quoted contents) = 34 ∷ flat_map content_text contents ++ 34 ∷ []

-- the text is a row, in which this octet is in quoted strings alone
pub record IsRow (stop : ℕ) (text : List ℕ) : Type 0 where
  pub pieces : List Piece
  pub are_pieces : AllByRecursion (IsPiece stop) pieces
  pub text_is : text ≡ flat_map piece_text pieces

-- a row of this length is before the text's first plain `stop`
pub record RowBefore (stop : ℕ) (text : List ℕ) (len : ℕ) : Type 0 where
  pub within : len < length text
  pub is_row : IsRow stop (take len text)
  pub here : slice_index text len ≡ stop
