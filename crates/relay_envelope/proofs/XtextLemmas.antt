-- xtext: the first part of a text, and that a text stands for octets exactly where it spells them.
use Rattle.std.proofs.Common.{◌≡◌, ℕ, ◌<◌, ◌+◌, ◌*◌, ◌/◌, ◌%◌, ◌==◌, ◌&&◌, Bool, true, false, if◌then◌else◌, List, [], ◌∷◌, ◌++◌, map, length, take, get_or, Option, None, Some, refl, sym, ap, subst, ◌∙◌, arith, append-nil}
use Rattle.std.specs.List.{flat_map, AllByRecursion}
use Rattle.std.proofs.lemmas.List.{flat_map_more, take_more}
use Rattle.std.proofs.lemmas.Bool.{and_parts, and_from, false≢true, eqb-true, cond-true, cond-false}
use Rattle.std.proofs.lemmas.Bool.Decides.{nat_tests}
use Rattle.relay_envelope.specs.Xtext.{Part, IsPart, part_text, octet_of, octet_of_digits, octet_of_xchar, onto_octets, joined_octets, is_xchar, is_digit, value_of_digit, decoded, encoded, encoded_octet, SpellsXtext, FirstOctet, digit_of, DecodedIsSpelled, EncodedIsDecoded}
use Rattle.relay_envelope.specs.Xtext.Part.{Xchar, Hexchar}

-- after an octet that is no `+`
pub decoded_char : (octet : ℕ) (text : List ℕ) → octet == 43 ≡ false → decoded (octet ∷ text) ≡ onto_octets (octet_of_xchar octet) (decoded text)
unfolding decoded
decoded_char octet [] h = refl
decoded_char octet (next ∷ []) h = refl
decoded_char octet (high ∷ low ∷ text) h = cond-false (octet == 43) _ _ h

-- after `+`
pub decoded_code : (high low : ℕ) (text : List ℕ) → decoded (43 ∷ high ∷ low ∷ text) ≡ onto_octets (octet_of_digits high low) (decoded text)
unfolding decoded
decoded_code high low text = refl

-- `+` needs two digits
pub decoded_short : (text : List ℕ) → length text < 2 → decoded (43 ∷ text) ≡ None
unfolding decoded
decoded_short [] h = refl
decoded_short (next ∷ []) h = refl
decoded_short (high ∷ low ∷ text) h = absurd (omega arith)

pub first_char : (octet : ℕ) (text : List ℕ) → octet == 43 ≡ false → is_xchar octet ≡ true → FirstOctet (octet ∷ text) octet text
first_char octet text h valid = record {
  decoding = decoded_char octet text h ∙ ap (λ o. onto_octets o (decoded text)) (cond-true (is_xchar octet) _ _ valid);
  shorter = omega arith;
}

pub no_char : (octet : ℕ) (text : List ℕ) → octet == 43 ≡ false → is_xchar octet ≡ false → decoded (octet ∷ text) ≡ None
no_char octet text h invalid =
    decoded_char octet text h ∙ ap (λ o. onto_octets o (decoded text)) (cond-false (is_xchar octet) _ _ invalid)

pub first_code : (high low octet : ℕ) (text : List ℕ) → octet_of_digits high low ≡ Some octet → FirstOctet (43 ∷ high ∷ low ∷ text) octet text
first_code high low octet text e = record {
  decoding = decoded_code high low text ∙ ap (λ o. onto_octets o (decoded text)) e;
  shorter = omega arith;
}

pub no_code : (high low : ℕ) (text : List ℕ) → octet_of_digits high low ≡ None → decoded (43 ∷ high ∷ low ∷ text) ≡ None
no_code high low text e = decoded_code high low text ∙ ap (λ o. onto_octets o (decoded text)) e

-- an xchar is no `+`
xchar_no_plus : (octet : ℕ) → is_xchar octet ≡ true → octet == 43 ≡ false
xchar_no_plus octet valid =
    elim (octet == 43) as (λ b. octet == 43 ≡ b → octet == 43 ≡ false) [
      | true ↦ λ e. absurd (false≢true (ap is_xchar (sym (eqb-true octet 43 e)) ∙ valid))
      | false ↦ λ e. e
    ] refl

-- what is spelled is decoded
spelled : (parts : List Part) → AllByRecursion IsPart parts → decoded (flat_map part_text parts) ≡ Some (map octet_of parts)
unfolding decoded
spelled [] valid = refl
spelled (Xchar octet ∷ parts) valid =
    let rest = spelled parts valid.1 in
    decoded_char octet (flat_map part_text parts) (xchar_no_plus octet valid.0)
    ∙ ap (λ o. onto_octets o (decoded (flat_map part_text parts))) (cond-true (is_xchar octet) _ _ valid.0)
    ∙ ap (λ r. joined_octets (octet ∷ []) r) rest
spelled (Hexchar high low ∷ parts) valid =
    let rest = spelled parts valid.1 in
    ap (λ o. onto_octets o (decoded (flat_map part_text parts))) (cond-true (is_digit high && is_digit low) _ _ (and_from (is_digit high) (is_digit low) valid.0.0 valid.0.1))
    ∙ ap (λ r. joined_octets ((value_of_digit high * 16 + value_of_digit low) ∷ []) r) rest

-- what a first part makes of the rest
record Onto (first : Option ℕ) (rest : Option (List ℕ)) (octets : List ℕ) : Type 0 where
  octet : ℕ
  more : List ℕ
  first_is : first ≡ Some octet
  rest_is : rest ≡ Some more
  octets_are : octets ≡ octet ∷ more

onto_some : (first : Option ℕ) (rest : Option (List ℕ)) (octets : List ℕ) → onto_octets first rest ≡ Some octets → Onto first rest octets
onto_some None rest octets e = absurd (let no : ⊥ = cc in no)
onto_some (Some octet) None octets e = absurd (let no : ⊥ = cc in no)
onto_some (Some octet) (Some more) octets e = record { octet = octet; more = more; first_is = refl; rest_is = refl; octets_are = cc }

if_some : (b : Bool) (x y : ℕ) → (if b then Some x else None) ≡ Some y → (b ≡ true) × (x ≡ y)
if_some true x y e = (refl, cc)
if_some false x y e = absurd (let no : ⊥ = cc in no)

-- a part before a text that spells its octets
spell_part : (part : Part) (text octets : List ℕ) → IsPart part → SpellsXtext text octets → SpellsXtext (part_text part ++ text) (octet_of part ∷ octets)
spell_part part text octets valid spells = record {
  parts = part ∷ spells.parts;
  are_parts = (valid, spells.are_parts);
  text_is = ap (λ l. part_text part ++ l) spells.text_is;
  octets_are = ap (λ l. octet_of part ∷ l) spells.octets_are;
}

spell_char : (octet : ℕ) (text octets : List ℕ) → onto_octets (octet_of_xchar octet) (decoded text) ≡ Some octets → ((more : List ℕ) → decoded text ≡ Some more → SpellsXtext text more) → SpellsXtext (octet ∷ text) octets
spell_char octet text octets e later =
    let onto = onto_some (octet_of_xchar octet) (decoded text) octets e in
    let same = if_some (is_xchar octet) octet onto.octet onto.first_is in
    let spells = spell_part (Xchar octet) text onto.more same.0 (later onto.more onto.rest_is) in
    subst (SpellsXtext (octet ∷ text)) (ap (λ o. o ∷ onto.more) same.1 ∙ sym onto.octets_are) spells

spell_code : (high low : ℕ) (text octets : List ℕ) → onto_octets (octet_of_digits high low) (decoded text) ≡ Some octets → ((more : List ℕ) → decoded text ≡ Some more → SpellsXtext text more) → SpellsXtext (43 ∷ high ∷ low ∷ text) octets
spell_code high low text octets e later =
    let onto = onto_some (octet_of_digits high low) (decoded text) octets e in
    let same = if_some (is_digit high && is_digit low) (value_of_digit high * 16 + value_of_digit low) onto.octet onto.first_is in
    let spells = spell_part (Hexchar high low) text onto.more (and_parts (is_digit high) (is_digit low) same.0) (later onto.more onto.rest_is) in
    subst (SpellsXtext (43 ∷ high ∷ low ∷ text)) (ap (λ o. o ∷ onto.more) same.1 ∙ sym onto.octets_are) spells

spell_nothing : (octets : List ℕ) → [] ≡ octets → SpellsXtext [] octets
spell_nothing octets e = record { parts = []; are_parts = tt; text_is = refl; octets_are = sym e }

-- a text of three octets or more, by its first
spell_more : (octet high low : ℕ) (text octets : List ℕ) (b : Bool) → octet == 43 ≡ b → decoded (octet ∷ high ∷ low ∷ text) ≡ Some octets → ((more : List ℕ) → decoded text ≡ Some more → SpellsXtext text more) → ((more : List ℕ) → decoded (high ∷ low ∷ text) ≡ Some more → SpellsXtext (high ∷ low ∷ text) more) → SpellsXtext (octet ∷ high ∷ low ∷ text) octets
spell_more octet high low text octets true plus e later next =
    let is_plus = eqb-true octet 43 plus in
    let coded = sym (decoded_code high low text) ∙ ap (λ o. decoded (o ∷ high ∷ low ∷ text)) (sym is_plus) ∙ e in
    subst (λ (o : ℕ). SpellsXtext (o ∷ high ∷ low ∷ text) octets) (sym is_plus) (spell_code high low text octets coded later)
spell_more octet high low text octets false plus e later next =
    spell_char octet (high ∷ low ∷ text) octets (sym (decoded_char octet (high ∷ low ∷ text) plus) ∙ e) next

-- what is decoded was spelled
read_spelled : (text octets : List ℕ) → decoded text ≡ Some octets → SpellsXtext text octets
unfolding decoded
read_spelled [] octets e = spell_nothing octets (let same : [] ≡ octets = cc in same)
read_spelled (octet ∷ []) octets e =
    spell_char octet [] octets e (λ more f. spell_nothing more (let same : [] ≡ more = cc in same))
read_spelled (octet ∷ next ∷ []) octets e =
    spell_char octet (next ∷ []) octets e (λ more f. read_spelled (next ∷ []) more f)
read_spelled (octet ∷ high ∷ low ∷ text) octets e =
    spell_more octet high low text octets (octet == 43) refl e (λ more f. read_spelled text more f) (λ more f. read_spelled (high ∷ low ∷ text) more f)

pub decoded_is_spelled : DecodedIsSpelled
decoded_is_spelled text octets = (
  λ e. read_spelled text octets e,
  λ spells. ap decoded spells.text_is ∙ spelled spells.parts spells.are_parts ∙ ap (λ l. Some l) (sym spells.octets_are),
)

-- at the text's end
pub decoded_done : (octets rest text : List ℕ) → length rest == 0 ≡ true → joined_octets octets (decoded rest) ≡ decoded text → decoded text ≡ Some octets
unfolding decoded
decoded_done octets [] text h e = sym e ∙ ap (λ l. Some l) (append-nil octets)
decoded_done octets (octet ∷ rest) text h e =
    absurd (let no : length (octet ∷ rest) ≡ 0 = eqb-true (length (octet ∷ rest)) 0 h in omega arith)

-- the digit of a value has that value
digit_is : (value : ℕ) → value < 16 → is_digit (digit_of value) ≡ true
digit_is value h = grind (arith, nat_tests)

value_is : (value : ℕ) → value < 16 → value_of_digit (digit_of value) ≡ value
value_is value h = grind (arith, nat_tests)

digits_are : (octet : ℕ) → octet < 256 → octet_of_digits (digit_of (octet / 16)) (digit_of (octet % 16)) ≡ Some octet
digits_are octet h =
    let high : octet / 16 < 16 = omega arith in
    let low : octet % 16 < 16 = omega arith in
    cond-true _ _ _ (and_from _ _ (digit_is (octet / 16) high) (digit_is (octet % 16) low))
    ∙ ap (λ v. Some (v * 16 + value_of_digit (digit_of (octet % 16)))) (value_is (octet / 16) high)
    ∙ ap (λ v. Some (octet / 16 * 16 + v)) (value_is (octet % 16) low)
    ∙ (let same : octet / 16 * 16 + octet % 16 ≡ octet = omega arith in ap (λ v. Some v) same)

encoded_one : (octet : ℕ) (text octets : List ℕ) (b : Bool) → is_xchar octet ≡ b → octet < 256 → decoded text ≡ Some octets → decoded ((if b then octet ∷ [] else 43 ∷ digit_of (octet / 16) ∷ digit_of (octet % 16) ∷ []) ++ text) ≡ Some (octet ∷ octets)
encoded_one octet text octets true valid h e =
    decoded_char octet text (xchar_no_plus octet valid) ∙ ap (λ o. onto_octets o (decoded text)) (cond-true (is_xchar octet) _ _ valid)
    ∙ ap (λ r. joined_octets (octet ∷ []) r) e
encoded_one octet text octets false invalid h e =
    decoded_code (digit_of (octet / 16)) (digit_of (octet % 16)) text ∙ ap (λ o. onto_octets o (decoded text)) (digits_are octet h)
    ∙ ap (λ r. joined_octets (octet ∷ []) r) e

pub encoded_is_decoded : EncodedIsDecoded
unfolding decoded
encoded_is_decoded [] all = refl
encoded_is_decoded (octet ∷ octets) all =
    encoded_one octet (encoded octets) octets (is_xchar octet) refl all.0 (encoded_is_decoded octets all.1)

-- one octet more is encoded
pub encoded_more : (octets text now : List ℕ) (index : ℕ) → index < length octets → text ≡ encoded (take index octets)
    → now ≡ text ++ encoded_octet (get_or octets index 0) → now ≡ encoded (take (index + 1) octets)
encoded_more octets text now index within is more =
    more ∙ ap (λ front. front ++ encoded_octet (get_or octets index 0)) is
    ∙ flat_map_more encoded_octet [] (take index octets) (get_or octets index 0)
    ∙ ap encoded (sym (take_more octets index 0 within))

-- the octet of two digits, or digits that stand for none
pub ruleset decoded_digits = (first_code, no_code, decoded_short)
