-- Values of parameters as they are written: printable octets without a space.
use Rattle.std.proofs.Common.{◌≡◌, ◌<◌, ℕ, ◌+◌, ◌==◌, not, get_or, Bool, true, ◌&&◌, List, [], ◌∷◌, ◌++◌, length, Option, None, Some, refl, ap, ◌∙◌, arith}
use Rattle.std.specs.List.{flat_map, position_or_len, list_all, AllByRecursion}
use Rattle.std.specs.Int.{is_in_range}
use Rattle.std.proofs.lemmas.Bool.{and_parts, and_from, eqb-true, ltb-true, false≢true}
use Rattle.std.proofs.lemmas.Bool.Decides.{nat_tests}
use Rattle.std.proofs.lemmas.List.{length-drop}
use Rattle.std.proofs.lemmas.List.Folds.{list_all-append}
use Rattle.std.proofs.lemmas.List.Sums.{split_at_first, passes_at_first}
use Rattle.relay_envelope.specs.Xtext.{Part, IsPart, part_text, is_xchar, is_digit, decoded}
use Rattle.relay_envelope.specs.Xtext.Part.{Xchar, Hexchar}
use Rattle.relay_envelope.specs.Parameters.{address_of, address_type_of, are_readable, is_address_type, is_envid, is_octet, is_orcpt, is_original_address, is_readable_xtext, is_type_octet}
use Rattle.relay_envelope.proofs.XtextLemmas.{decoded_is_spelled}

-- a printable octet that is no space
abbrev pub is_graphic : ℕ → Bool
is_graphic octet = is_in_range 33 126 octet

abbrev pub graphic : List ℕ → Bool
graphic text = list_all is_graphic text

-- where one test passes only where another does, a text that passes it passes the other
pub all_weaker : (test other : ℕ → Bool) (text : List ℕ) → ((octet : ℕ) → test octet ≡ true → other octet ≡ true) → list_all test text ≡ true → list_all other text ≡ true
all_weaker test other [] weaker all = refl
all_weaker test other (octet ∷ text) weaker all =
    let parts = and_parts (test octet) (list_all test text) all in
    and_from (other octet) (list_all other text) (weaker octet parts.0) (all_weaker test other text weaker parts.1)

xchar_is_graphic : (octet : ℕ) → is_xchar octet ≡ true → is_graphic octet ≡ true
xchar_is_graphic octet test = grind (arith, nat_tests)

digit_is_graphic : (octet : ℕ) → is_digit octet ≡ true → is_graphic octet ≡ true
digit_is_graphic octet test = grind (arith, nat_tests)

type_is_graphic : (octet : ℕ) → is_type_octet octet ≡ true → is_graphic octet ≡ true
type_is_graphic octet test = grind (arith, nat_tests)

graphic_no_space : (octet : ℕ) → is_graphic octet ≡ true → not (octet == 32) ≡ true
graphic_no_space octet test = grind (arith, nat_tests)

-- octets without a space
pub lacks_space : (text : List ℕ) → graphic text ≡ true → list_all (λ octet. not (octet == 32)) text ≡ true
lacks_space text all = all_weaker is_graphic (λ octet. not (octet == 32)) text graphic_no_space all

parts_graphic : (parts : List Part) → AllByRecursion IsPart parts → graphic (flat_map part_text parts) ≡ true
parts_graphic [] valid = refl
parts_graphic (Xchar octet ∷ parts) valid =
    and_from (is_graphic octet) (graphic (flat_map part_text parts)) (xchar_is_graphic octet valid.0) (parts_graphic parts valid.1)
parts_graphic (Hexchar high low ∷ parts) valid =
    let rest : Bool = graphic (flat_map part_text parts) in
    and_from (is_graphic high) (is_graphic low && rest) (digit_is_graphic high valid.0.0)
    (and_from (is_graphic low) rest (digit_is_graphic low valid.0.1) (parts_graphic parts valid.1))

readable_some : (octets : Option (List ℕ)) → are_readable octets ≡ true → (some : List ℕ) × (octets ≡ Some some)
readable_some None h = absurd (false≢true h)
readable_some (Some octets) h = (octets, refl)

xtext_graphic : (text : List ℕ) → is_readable_xtext text ≡ true → graphic text ≡ true
unfolding is_readable_xtext
xtext_graphic text valid =
    let some = readable_some (decoded text) valid in
    let spells = (decoded_is_spelled text some.0).0 some.1 in
    ap graphic spells.text_is ∙ parts_graphic spells.parts spells.are_parts

pub envid_graphic : (envid : List ℕ) → is_envid envid ≡ true → graphic envid ≡ true
unfolding is_envid
envid_graphic envid valid = xtext_graphic envid (and_parts (is_in_range 1 100 (length envid)) (is_readable_xtext envid) valid).1

-- around its first ";" a value of ORCPT is graphic
orcpt_around : (orcpt : List ℕ) → is_address_type (address_type_of orcpt) ≡ true → is_original_address (address_of orcpt) ≡ true → graphic orcpt ≡ true
unfolding is_address_type is_original_address
orcpt_around orcpt type address =
    let place : ℕ = position_or_len (is_octet 59) orcpt in
    let front : List ℕ = address_type_of orcpt in
    let back : List ℕ = address_of orcpt in
    let types = and_parts _ (list_all is_type_octet front) type in
    let readable = and_parts _ (is_readable_xtext back) address in
    let some : 0 < length back = ltb-true 0 (length back) readable.0 in
    let short = length-drop (place + 1) orcpt in
    let within : place < length orcpt = omega (arith, some, short) in
    let is_mark = eqb-true (get_or orcpt place 0) 59 (passes_at_first (is_octet 59) orcpt 0 within) in
    let around = split_at_first (is_octet 59) orcpt 0 within ∙ ap (λ octet. front ++ octet ∷ back) is_mark in
    ap graphic around ∙ list_all-append is_graphic front (59 ∷ back)
    ∙ and_from (graphic front) (graphic back) (all_weaker is_type_octet is_graphic front type_is_graphic types.1) (xtext_graphic back readable.1)

pub orcpt_graphic : (orcpt : List ℕ) → is_orcpt orcpt ≡ true → graphic orcpt ≡ true
unfolding is_orcpt
orcpt_graphic orcpt valid =
    let parts = and_parts _ (is_original_address (address_of orcpt)) valid in
    let front = and_parts _ (is_address_type (address_type_of orcpt)) parts.0 in
    orcpt_around orcpt front.1 parts.1
