-- xtext (RFC 3461, section 4): octets above SP, in which `+` and two hexadecimal digits stand for any octet.
use Rattle.std.specs.Prelude.{◌≡◌, ◌↔◌, ◌<◌, ℕ, ◌+◌, ◌-◌, ◌*◌, ◌/◌, ◌%◌, ◌^◌, ◌==◌, nat_lt, Bool, true, not, ◌&&◌, ◌||◌}
use Rattle.std.specs.Prelude.{List, [], ◌∷◌, ◌++◌, map, length, Option, Some, None, if◌then◌else◌}
use Rattle.std.specs.List.{flat_map, AllByRecursion}
use Rattle.std.specs.Int.{is_in_range}

-- xchar: an octet from "!" to "~", except for "+" and "="
abbrev pub is_xchar : ℕ → Bool
is_xchar octet = is_in_range 33 126 octet && not (octet == 43) && not (octet == 61)

-- a hexadecimal digit in upper case
abbrev pub is_digit : ℕ → Bool
is_digit octet = is_in_range 48 57 octet || is_in_range 65 70 octet

-- the value of a digit
abbrev pub value_of_digit : ℕ → ℕ
value_of_digit octet = if nat_lt octet 65 then octet - 48 else octet - 55

-- the digit of a value
abbrev pub digit_of : ℕ → ℕ
digit_of value = if nat_lt value 10 then 48 + value else 55 + value

-- the octet of two digits, if they are digits
abbrev pub octet_of_digits : ℕ → ℕ → Option ℕ
octet_of_digits high low =
    if is_digit high && is_digit low then Some (value_of_digit high * 16 + value_of_digit low) else None

-- xchar, or hexchar: `+` and two digits
pub data Part : Type 0 where
  Xchar : ℕ → Part
  Hexchar : ℕ → ℕ → Part

-- what each is made of
abbrev pub IsPart : Part → Type 0
IsPart (Xchar octet) = is_xchar octet ≡ true
IsPart (Hexchar high low) = (is_digit high ≡ true) × (is_digit low ≡ true)

-- how each is written
abbrev pub part_text : Part → List ℕ
part_text (Xchar octet) = octet ∷ []
part_text (Hexchar high low) = 43 ∷ high ∷ low ∷ []

-- the octet that each stands for
abbrev pub octet_of : Part → ℕ
octet_of (Xchar octet) = octet
octet_of (Hexchar high low) = value_of_digit high * 16 + value_of_digit low

-- xtext = *( xchar / hexchar ), and the octets that it stands for
pub record SpellsXtext (text octets : List ℕ) : Type 0 where
  pub parts : List Part
  pub are_parts : AllByRecursion IsPart parts
  pub text_is : text ≡ flat_map part_text parts
  pub octets_are : octets ≡ map octet_of parts

-- octets before the octets that a text stands for
abbrev pub joined_octets : List ℕ → Option (List ℕ) → Option (List ℕ)
joined_octets front None = None
joined_octets front (Some octets) = Some (front ++ octets)

-- the octet that an xchar stands for
abbrev pub octet_of_xchar : ℕ → Option ℕ
octet_of_xchar octet = if is_xchar octet then Some octet else None

-- the octet of a first part before those of what follows it, where both stand for any
abbrev pub onto_octets : Option ℕ → Option (List ℕ) → Option (List ℕ)
onto_octets None rest = None
onto_octets (Some octet) rest = joined_octets (octet ∷ []) rest

-- the octets that a text stands for, if it is xtext
unfoldable pub decoded : List ℕ → Option (List ℕ)
decoded [] = Some []
decoded (octet ∷ []) = onto_octets (octet_of_xchar octet) (Some [])
decoded (octet ∷ next ∷ []) = onto_octets (octet_of_xchar octet) (decoded (next ∷ []))
decoded (octet ∷ high ∷ low ∷ text) =
    if octet == 43 then onto_octets (octet_of_digits high low) (decoded text)
    else onto_octets (octet_of_xchar octet) (decoded (high ∷ low ∷ text))

-- the text begins with a part that stands for this octet, and the rest follows
pub record FirstOctet (text : List ℕ) (octet : ℕ) (rest : List ℕ) : Type 0 where
  pub decoding : decoded text ≡ joined_octets (octet ∷ []) (decoded rest)
  pub shorter : length rest < length text

-- how an octet is encoded: by itself where it may be
abbrev pub encoded_octet : ℕ → List ℕ
encoded_octet octet =
    if is_xchar octet then octet ∷ [] else 43 ∷ digit_of (octet / 16) ∷ digit_of (octet % 16) ∷ []

-- the encoding of octets
abbrev pub encoded : List ℕ → List ℕ
encoded octets = flat_map encoded_octet octets

-- A text stands for octets exactly if it spells them.
abbrev pub DecodedIsSpelled : Type 0
DecodedIsSpelled = (text octets : List ℕ) → (decoded text ≡ Some octets) ↔ SpellsXtext text octets

-- What is encoded stands for the octets that it was made of.
abbrev pub EncodedIsDecoded : Type 0
EncodedIsDecoded =
    (octets : List ℕ) → AllByRecursion (λ octet. octet < 2 ^ 8) octets → decoded (encoded octets) ≡ Some octets
