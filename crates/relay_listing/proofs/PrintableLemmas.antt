-- An object has printable octets alone.
use Rattle.std.proofs.Common.{◌≡◌, ℕ, zero, suc, ◌<◌, ◌%◌, ◌/◌, ◌==◌, Bool, true, false, ◌&&◌, List, [], ◌∷◌, ◌++◌, Option, None, Some, decimal, inl, inr, refl, ap, ◌∙◌, arith, lit<}
use Rattle.std.specs.Prelude.{⊤, if◌then◌else◌}
use Rattle.std.specs.Fmt.{digit_glyph, digits, digits_onto}
use Rattle.std.specs.List.{list_all}
use Rattle.std.proofs.lemmas.Bool.{and_parts, cases_eq}
use Rattle.std.proofs.lemmas.Bool.Decides.{nat_tests}
use Rattle.std.proofs.lemmas.List.Folds.{list_all-append}
use Rattle.std.proofs.lemmas.Nat.{mod_below}
use Rattle.std.proofs.lemmas.Str.{IsUtf8-from_ascii}
use Rattle.std.specs.Str.{IsAscii, IsUtf8}
use Rattle.json.specs.Print.{escape, escape_byte, quoted}
use Rattle.serde_json.specs.Data.{Data}
use Rattle.serde_json.specs.Written.{comma_if, compact_text, members_text}
use Rattle.relay_lines.specs.Word.{is_printable}
use Rattle.relay_listing.specs.Object.{hop_value, in_order, members_of, object_of, text_of, text_value}
use Rattle.relay_listing.specs.Row.{Queued}

abbrev pub ArePrintable : List ℕ → Type 0
ArePrintable text = list_all is_printable text ≡ true

joined : (front back : List ℕ) → ArePrintable front → ArePrintable back → ArePrintable (front ++ back)
joined front back one two = list_all-append is_printable front back ∙ ap (λ b. b && list_all is_printable back) one ∙ two

-- numbers
digit_printable : (digit : ℕ) → digit < 10 → is_printable (digit_glyph false digit) ≡ true
digit_printable digit small = grind (arith, nat_tests)

digits_printable : (count number : ℕ) (rest : List ℕ) → ArePrintable rest → ArePrintable (digits_onto count 10 false number rest)
digits_printable zero number rest all = all
digits_printable (suc count) number rest all =
    by (number / 10 == 0) (digits_printable count (number / 10) (digit ∷ rest) more)
  where
    digit : ℕ
    digit = digit_glyph false (number % 10)

    more : ArePrintable (digit ∷ rest)
    more = ap (λ b. b && list_all is_printable rest) (digit_printable (number % 10) (mod_below number 10 (omega arith))) ∙ all

    by : (b : Bool) → ArePrintable (digits_onto count 10 false (number / 10) (digit ∷ rest))
        → ArePrintable (if b then digit ∷ rest else digits_onto count 10 false (number / 10) (digit ∷ rest))
    by true others = more
    by false others = others

pub decimal_printable : (number : ℕ) → ArePrintable (decimal number)
unfolding digits
decimal_printable number = digits_printable 64 number [] refl

-- strings
abbrev escapes_below : ℕ → Bool
escapes_below zero = true
escapes_below (suc bound) = list_all is_printable (escape_byte bound) && escapes_below bound

escape_below : (bound : ℕ) → escapes_below bound ≡ true → (octet : ℕ) → octet < bound → ArePrintable (escape_byte octet)
escape_below zero all octet small = absurd (omega arith)
escape_below (suc bound) all octet small =
    let each = and_parts _ _ all in
    elim (cases_eq octet bound) [ inl same ↦ rw same each.0 | inr other ↦ escape_below bound each.1 octet (omega arith) ]

all_printable : escapes_below 127 ≡ true
unfolding escape_byte
all_printable = refl

printable_below : (octet : ℕ) → is_printable octet ≡ true → octet < 127
printable_below octet is = grind (arith, nat_tests, is)

escape_printable : (text : List ℕ) → ArePrintable text → ArePrintable (escape text)
escape_printable [] all = refl
escape_printable (octet ∷ text) all =
    let each = and_parts (is_printable octet) (list_all is_printable text) all in
    joined (escape_byte octet) (escape text) (escape_below 127 all_printable octet (printable_below octet each.0)) (escape_printable text each.1)

quoted_printable : (text : List ℕ) → ArePrintable text → ArePrintable (quoted text)
quoted_printable text all = joined (escape text) (34 ∷ []) (escape_printable text all) refl

text_printable : (octets : List ℕ) → ArePrintable (text_of octets)
text_printable octets = by (list_all is_printable octets) refl where
  by : (b : Bool) → list_all is_printable octets ≡ b → ArePrintable (if b then octets else [])
  by true is = is
  by false is = refl

value_printable : (octets : List ℕ) → ArePrintable (compact_text (text_value octets))
value_printable octets = quoted_printable (text_of octets) (text_printable octets)

hop_printable : (hop : Option (List ℕ)) → ArePrintable (compact_text (hop_value hop))
hop_printable None = refl
hop_printable (Some name) = value_printable name

-- objects
abbrev AllPrintable : List (List ℕ × Data) → Type 0
AllPrintable [] = ⊤
AllPrintable (first ∷ rest) = ArePrintable first.0 × ArePrintable (compact_text first.1) × AllPrintable rest

comma_printable : (later : Bool) → ArePrintable (comma_if later)
comma_printable true = refl
comma_printable false = refl

members_printable : (later : Bool) (members : List (List ℕ × Data)) → AllPrintable members → ArePrintable (members_text later (in_order members))
members_printable later [] all = refl
members_printable later (first ∷ rest) all =
    let value = joined (compact_text first.1) (members_text true (in_order rest)) all.1 (members_printable true rest all.2) in
    joined (comma_if later) _ (comma_printable later) (joined (quoted first.0) (58 ∷ _) (quoted_printable first.0 all.0) value)

pub object_printable : (now : ℕ) (queued : Queued) → ArePrintable (compact_text (object_of now queued))
object_printable now queued =
    members_printable false (members_of now queued) ((
      refl,
      decimal_printable queued.number,
      (
        refl,
        decimal_printable queued.place,
        (
          refl,
          decimal_printable queued.accepted,
          (
            refl,
            decimal_printable _,
            (
              refl,
              decimal_printable queued.size,
              (
                refl,
                value_printable queued.reverse_path,
                (
                  refl,
                  value_printable queued.path,
                  (
                    refl,
                    hop_printable queued.hop,
                    (
                      refl,
                      decimal_printable queued.tries,
                      (refl, decimal_printable queued.due, tt),
                    ),
                  ),
                ),
              ),
            ),
          ),
        ),
      ),
    )
    )

-- they are UTF-8
octets_below : (text : List ℕ) → ArePrintable text → IsAscii text
octets_below [] all place = lit< tt
octets_below (octet ∷ text) all zero =
    let below = printable_below octet (and_parts (is_printable octet) (list_all is_printable text) all).0 in omega (arith, below)
octets_below (octet ∷ text) all (suc place) = octets_below text (and_parts (is_printable octet) (list_all is_printable text) all).1 place

pub printable_is_utf8 : (text : List ℕ) → ArePrintable text → IsUtf8 text
printable_is_utf8 text all = IsUtf8-from_ascii text (octets_below text all)

-- where they are not UTF-8, there is no text
pub no_text : (octets : List ℕ) → ¬ (IsUtf8 octets) → text_of octets ≡ []
no_text octets none = by (list_all is_printable octets) refl where
  by : (b : Bool) → list_all is_printable octets ≡ b → (if b then octets else []) ≡ []
  by true is = absurd (none (printable_is_utf8 octets is))
  by false is = refl
