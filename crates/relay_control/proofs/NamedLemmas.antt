-- Recipients are named in one way, and read back.
use Rattle.std.proofs.Common.{◌≡◌, ℕ, ◌+◌, ◌*◌, ◌<◌, ◌≤◌, ◌==◌, true, false, List, [], ◌∷◌, ◌++◌, decimal, length, map, take, get_or, append_assoc, zero, suc, Option, None, Some, Bor, option_map, lit<, lit≤, refl, sym, ap, subst, ◌∙◌, arith, length-append}
use Rattle.std.specs.Char.{digit_value}
use Rattle.std.specs.List.{All, AllByRecursion, join_with_byte, slice_split}
use Rattle.std.proofs.lemmas.Fmt.{decimal_injective, length-decimal-le}
use Rattle.std.proofs.lemmas.List.{append-nil, length-map, map-append, take_more}
use Rattle.std.proofs.lemmas.List.Elements.{All-from_recursion}
use Rattle.std.proofs.lemmas.List.Splits.{join_with_byte-slice_split, length-slice_split, slice_split_at, slice_split_none}
use Rattle.relay_control.specs.Laws.{most_of_names}
use Rattle.relay_control.specs.Named.{AreNamed, AreNamesText, ArePlaces, ArePlacesText, AscendFrom, HasNoName, HasNoNames, HasNoPlace, HasNoPlaces, IsNameText, IsNamed, IsPlaceText, content_of, named_text, names_text, places_text}
use Rattle.relay_control.specs.Number.{HasNoNumber, IsNumber}
use Rattle.relay_control.specs.Request.{HasNo, IsCut, parts_text}
use Rattle.relay_control.specs.declared.named.Named.{Named}
use Rattle.relay_control.proofs.NumberLemmas.{has_no-append, has_no-decimal, number_is_one}
use Rattle.relay_control.proofs.RequestLemmas.{has_stop, split_is_one}

-- the parts between such octets
abbrev pub parts_of : ℕ → List ℕ → List (List ℕ)
parts_of stop text = slice_split (λ octet. octet == stop) text

-- the parts of what is left of a text
abbrev pub parts_left : ℕ → Option (Bor (List ℕ)) → List (List ℕ)
parts_left stop None = []
parts_left stop (Some rest) = parts_of stop rest.now

lacks : (stop : ℕ) (text : List ℕ) → HasNo stop text → All (λ octet. octet == stop ≡ false) text
lacks stop text none = All-from_recursion (λ octet. octet == stop ≡ false) text none

same_octet : (stop : ℕ) → stop == stop ≡ true
same_octet stop = grind arith

pub parts-cut : (stop : ℕ) (text front : List ℕ) (rest : Option (Bor (List ℕ))) → IsCut stop text front (option_map (λ t. t.now) rest)
    → parts_of stop text ≡ front ∷ parts_left stop rest
parts-cut stop text front None is =
    ap (parts_of stop) is.text_is ∙ slice_split_none (λ octet. octet == stop) front (lacks stop front is.front_has_none)
parts-cut stop text front (Some rest) is =
    ap (parts_of stop) is.text_is
    ∙ slice_split_at (λ octet. octet == stop) front stop rest.now (lacks stop front is.front_has_none) (same_octet stop)

-- joined parts are the parts again
parts-join : (stop : ℕ) (text : List ℕ) (texts : List (List ℕ)) → AllByRecursion (HasNo stop) (text ∷ texts)
    → parts_of stop (join_with_byte stop (text ∷ texts)) ≡ text ∷ texts
parts-join stop text [] none = slice_split_none (λ octet. octet == stop) text (lacks stop text none.0)
parts-join stop text (next ∷ texts) none =
    slice_split_at (λ octet. octet == stop) text stop (join_with_byte stop (next ∷ texts)) (lacks stop text none.0) (same_octet stop)
    ∙ ap (λ (t : List (List ℕ)). text ∷ t) (parts-join stop next texts none.1)

-- some part is there
some_part : (stop : ℕ) (text : List ℕ) (texts : List (List ℕ)) → texts ≡ parts_of stop text → 0 < length texts
some_part stop text texts are =
    let size = ap length are ∙ length-slice_split (λ octet. octet == stop) text in omega arith

all-push : {X : Type 0} (P : X → Type 0) (xs : List X) (x : X) → AllByRecursion P xs → P x → AllByRecursion P (xs ++ x ∷ [])
all-push P [] x all p = (p, tt)
all-push P (y ∷ xs) x all p = (all.0, all-push P xs x all.1 p)

-- places

-- the least place that may follow
abbrev pub next_after : ℕ → List ℕ → ℕ
next_after least [] = least
next_after least (place ∷ places) = next_after (place + 1) places

next-push : (least : ℕ) (places : List ℕ) (place : ℕ) → next_after least (places ++ place ∷ []) ≡ place + 1
next-push least [] place = refl
next-push least (other ∷ places) place = next-push (other + 1) places place

ascend-push : (least : ℕ) (places : List ℕ) (place : ℕ) → AscendFrom least places → next_after least places ≤ place → place < 100
    → AscendFrom least (places ++ place ∷ [])
ascend-push least [] place all from below = (from, below, tt)
ascend-push least (other ∷ places) place all from below = (all.0, all.1, ascend-push (other + 1) places place all.2 from below)

-- the places that were read, and the parts that are left
pub record HasRead (text places : List ℕ) (least : ℕ) (left : List (List ℕ)) : Type 0 where
  pub ascend : AscendFrom 0 places
  pub least_is : least ≡ next_after 0 places
  pub parts : map decimal places ++ left ≡ parts_of 44 text

pub nothing_read : (text : List ℕ) → HasRead text [] 0 (parts_of 44 text)
nothing_read text = record { ascend = tt; least_is = refl; parts = refl }

pub one_more_read : (text places : List ℕ) (least : ℕ) (rest : Option (Bor (List ℕ))) (octets : Bor (List ℕ)) (digits : List ℕ) (next : Option (Bor (List ℕ))) (place : ℕ)
    → HasRead text places least (parts_left 44 rest) → rest ≡ Some octets → IsCut 44 octets.now digits (option_map (λ t. t.now) next)
    → IsPlaceText digits least place → HasRead text (places ++ place ∷ []) (place + 1) (parts_left 44 next)
one_more_read text places least rest octets digits next place read some is p = record {
  ascend = ascend-push 0 places place read.ascend (subst (λ (n : ℕ). n ≤ place) read.least_is p.from) p.below;
  least_is = sym (next-push 0 places place);
  parts =
      ap (λ (t : List (List ℕ)). t ++ parts_left 44 next) (map-append decimal places (place ∷ []))
      ∙ append_assoc (map decimal places) (decimal place ∷ []) (parts_left 44 next)
      ∙ ap (λ (t : List ℕ). map decimal places ++ t ∷ parts_left 44 next) (sym p.text_is)
      ∙ ap (λ (t : List (List ℕ)). map decimal places ++ t) (sym (ap (parts_left 44) some ∙ parts-cut 44 octets.now digits next is))
      ∙ read.parts;
}

pub all_read : (text places : List ℕ) (least : ℕ) (rest : Option (Bor (List ℕ))) → HasRead text places least (parts_left 44 rest) → rest ≡ None
    → ArePlacesText text places
all_read text places least rest read none =
    let same : map decimal places ≡ parts_of 44 text =
    sym (ap (λ (r : Option (Bor (List ℕ))). map decimal places ++ parts_left 44 r) none ∙ append-nil (map decimal places)) ∙ read.parts in
    let some = some_part 44 text (map decimal places) same in
    record {
      valid = record { some_place = subst (λ (n : ℕ). 0 < n) (length-map places decimal) some; ascend = read.ascend };
      text_is = sym (join_with_byte-slice_split 44 text) ∙ ap (join_with_byte 44) (sym same);
    }

-- places are below 2 ^ 64, so that their digits are one way to write them
lack_stop : (stop least : ℕ) (places : List ℕ) → 10 ≤ digit_value stop → AscendFrom least places → AllByRecursion (HasNo stop) (map decimal places)
lack_stop stop least [] high all = tt
lack_stop stop least (place ∷ places) high all =
    let below = all.1 in
    (has_no-decimal stop place high (omega (arith, below)), lack_stop stop (place + 1) places high all.2)

places-parts : (places : List ℕ) → ArePlaces places → parts_of 44 (places_text places) ≡ map decimal places
places-parts [] p = let some = p.some_place in absurd (omega arith)
places-parts (place ∷ places) p =
    parts-join 44 (decimal place) (map decimal places) (lack_stop 44 0 (place ∷ places) (lit≤ tt) p.ascend)

-- a part of such places can't be read as none
in_places : (least : ℕ) (front : List ℕ) (digits : List ℕ) (back : List (List ℕ)) (places : List ℕ) → AscendFrom least front → AscendFrom least places
    → map decimal front ++ digits ∷ back ≡ map decimal places → HasNoPlace digits (next_after least front) → ⊥
in_places least [] digits back [] f all same none = cc same
in_places least [] digits back (place ∷ places) f all same none =
    none.none place (record { text_is = cc same; from = all.0; below = all.1 })
in_places least (first ∷ front) digits back [] f all same none = cc same
in_places least (first ∷ front) digits back (place ∷ places) f all same none =
    let heads : decimal first ≡ decimal place = cc same in
    let tails : map decimal front ++ digits ∷ back ≡ map decimal places = cc same in
    let one = f.1 in
    let two = all.1 in
    let is : first ≡ place = decimal_injective first place (omega (arith, one)) (omega (arith, two)) heads in
    in_places (first + 1) front digits back places f.2 (subst (λ (n : ℕ). AscendFrom (n + 1) places) (sym is) all.2) tails none

pub no_more_places : (text places : List ℕ) (least : ℕ) (rest : Option (Bor (List ℕ))) (octets : Bor (List ℕ)) (digits : List ℕ) (next : Option (Bor (List ℕ)))
    → HasRead text places least (parts_left 44 rest) → rest ≡ Some octets → IsCut 44 octets.now digits (option_map (λ t. t.now) next)
    → HasNoPlace digits least → HasNoPlaces text
no_more_places text places least rest octets digits next read some is none = record {
  none = λ others p.
      in_places 0 places digits (parts_left 44 next) others read.ascend p.valid.ascend
      (ap (λ (t : List (List ℕ)). map decimal places ++ t) (sym (ap (parts_left 44) some ∙ parts-cut 44 octets.now digits next is)) ∙ read.parts ∙ ap (parts_of 44) p.text_is ∙ places-parts others p.valid)
      (subst (λ (n : ℕ). HasNoPlace digits n) read.least_is none);
}

pub is_place : (text : List ℕ) (least number : ℕ) → IsNumber text number → least ≤ number → number < 100 → IsPlaceText text least number
is_place text least number p from below = record { text_is = p.text_is; from = from; below = below }

pub no_place : (text : List ℕ) (least : ℕ) → HasNoNumber text → HasNoPlace text least
no_place text least none = record {
  none = λ place p. let below = p.below in none.none place (record { text_is = p.text_is; fits = omega arith });
}

pub other_place : (text : List ℕ) (least number : ℕ) → IsNumber text number → (least ≤ number → number < 100 → ⊥) → HasNoPlace text least
other_place text least number is not = record {
  none = λ place p.
      let below = p.below in
      let from = p.from in
      let same = number_is_one text number place is (record { text_is = p.text_is; fits = omega arith }) in
      not (omega arith) (omega arith);
}

-- names

no_stop_in_places : (stop least : ℕ) (places : List ℕ) → 10 ≤ digit_value stop → 44 == stop ≡ false → AscendFrom least places → HasNo stop (places_text places)
no_stop_in_places stop least [] high comma all = tt
no_stop_in_places stop least (place ∷ []) high comma all =
    let below = all.1 in has_no-decimal stop place high (omega (arith, below))
no_stop_in_places stop least (place ∷ next ∷ places) high comma all =
    let below = all.1 in
    has_no-append stop (decimal place) (44 ∷ places_text (next ∷ places)) (has_no-decimal stop place high (omega (arith, below)))
    (comma, no_stop_in_places stop (place + 1) (next ∷ places) high comma all.2)

pub no_stop_in_name : (stop : ℕ) (named : Named) → 10 ≤ digit_value stop → 44 == stop ≡ false → 58 == stop ≡ false → IsNamed named → HasNo stop (named_text named)
no_stop_in_name stop named high comma colon p =
    has_no-append stop (decimal named.message) (58 ∷ places_text named.places.items) (has_no-decimal stop named.message high p.fits)
    (colon, no_stop_in_places stop 0 named.places.items high comma p.are_places.ascend)

no_space_in_names : (names : List Named) → AllByRecursion IsNamed names → AllByRecursion (HasNo 32) (map named_text names)
no_space_in_names [] all = tt
no_space_in_names (named ∷ names) all = (no_stop_in_name 32 named (lit≤ tt) refl refl all.0, no_space_in_names names all.1)

pub no_lf_in_names : (names : List Named) → AllByRecursion IsNamed names → HasNo 10 (names_text names)
no_lf_in_names [] all = tt
no_lf_in_names (named ∷ []) all = no_stop_in_name 10 named (lit≤ tt) refl refl all.0
no_lf_in_names (named ∷ next ∷ names) all =
    has_no-append 10 (named_text named) (32 ∷ names_text (next ∷ names)) (no_stop_in_name 10 named (lit≤ tt) refl refl all.0)
    (refl, no_lf_in_names (next ∷ names) all.1)

names-parts : (names : List Named) → AreNamed names → parts_of 32 (names_text names) ≡ map named_text names
names-parts [] p = let some = p.some_name in absurd (omega arith)
names-parts (named ∷ names) p =
    parts-join 32 (named_text named) (map named_text names) (no_space_in_names (named ∷ names) p.each)

-- the names that were read, and the parts that are left
pub record HasReadNames (text : List ℕ) (names : List Named) (left : List (List ℕ)) : Type 0 where
  pub each : AllByRecursion IsNamed names
  pub few : length names ≤ 64
  pub parts : map named_text names ++ left ≡ parts_of 32 text

pub no_name_read : (text : List ℕ) → HasReadNames text [] (parts_of 32 text)
no_name_read text = record { each = tt; few = lit≤ tt; parts = refl }

pub one_more_name : (text : List ℕ) (names : List Named) (rest : Option (Bor (List ℕ))) (octets : Bor (List ℕ)) (word : List ℕ) (next : Option (Bor (List ℕ))) (named : Named)
    → HasReadNames text names (parts_left 32 rest) → rest ≡ Some octets → length names < 64 → IsCut 32 octets.now word (option_map (λ t. t.now) next)
    → IsNameText word named → HasReadNames text (names ++ named ∷ []) (parts_left 32 next)
one_more_name text names rest octets word next named read some few is p = record {
  each = all-push IsNamed names named read.each p.valid;
  few = let size = length-append names (named ∷ []) in omega arith;
  parts =
      ap (λ (t : List (List ℕ)). t ++ parts_left 32 next) (map-append named_text names (named ∷ []))
      ∙ append_assoc (map named_text names) (named_text named ∷ []) (parts_left 32 next)
      ∙ ap (λ (t : List ℕ). map named_text names ++ t ∷ parts_left 32 next) (sym p.text_is)
      ∙ ap (λ (t : List (List ℕ)). map named_text names ++ t) (sym (ap (parts_left 32) some ∙ parts-cut 32 octets.now word next is))
      ∙ read.parts;
}

pub all_names_read : (text : List ℕ) (names : List Named) (rest : Option (Bor (List ℕ))) → HasReadNames text names (parts_left 32 rest) → rest ≡ None
    → AreNamesText text names
all_names_read text names rest read none =
    let same : map named_text names ≡ parts_of 32 text =
    sym (ap (λ (r : Option (Bor (List ℕ))). map named_text names ++ parts_left 32 r) none ∙ append-nil (map named_text names)) ∙ read.parts in
    let some = some_part 32 text (map named_text names) same in
    record {
      valid = record { some_name = subst (λ (n : ℕ). 0 < n) (length-map names named_text) some; few_names = read.few; each = read.each };
      text_is = sym (join_with_byte-slice_split 32 text) ∙ ap (join_with_byte 32) (sym same);
    }

in_names : (front : List (List ℕ)) (word : List ℕ) (back : List (List ℕ)) (names : List Named) → AllByRecursion IsNamed names
    → front ++ word ∷ back ≡ map named_text names → HasNoName word → ⊥
in_names [] word back [] all same none = cc same
in_names [] word back (named ∷ names) all same none = none.none named (record { valid = all.0; text_is = cc same })
in_names (first ∷ front) word back [] all same none = cc same
in_names (first ∷ front) word back (named ∷ names) all same none =
    let tails : front ++ word ∷ back ≡ map named_text names = cc same in in_names front word back names all.1 tails none

pub no_more_names : (text : List ℕ) (names : List Named) (rest : Option (Bor (List ℕ))) (octets : Bor (List ℕ)) (word : List ℕ) (next : Option (Bor (List ℕ)))
    → HasReadNames text names (parts_left 32 rest) → rest ≡ Some octets → IsCut 32 octets.now word (option_map (λ t. t.now) next) → HasNoName word
    → HasNoNames text
no_more_names text names rest octets word next read some is none = record {
  none = λ others p.
      in_names (map named_text names) word (parts_left 32 next) others p.valid.each
      (ap (λ (t : List (List ℕ)). map named_text names ++ t) (sym (ap (parts_left 32) some ∙ parts-cut 32 octets.now word next is)) ∙ read.parts ∙ ap (parts_of 32) p.text_is ∙ names-parts others p.valid)
      none;
}

-- 64 names were read, and something is left
pub too_many_names : (text : List ℕ) (names : List Named) (rest : Option (Bor (List ℕ))) (octets : Bor (List ℕ)) → HasReadNames text names (parts_left 32 rest)
    → rest ≡ Some octets → 64 ≤ length names → HasNoNames text
too_many_names text names rest octets read left many = record {
  none = λ others p.
      let whole = ap length (read.parts ∙ ap (parts_of 32) p.text_is ∙ names-parts others p.valid) in
      let size = length-append (map named_text names) (parts_left 32 rest) in
      let here = length-map names named_text in
      let there = length-map others named_text in
      let some = some_part 32 octets.now (parts_left 32 rest) (ap (parts_left 32) left) in
      let few = p.valid.few_names in
      omega arith;
}

-- a text that is cut at a colon, and one that has none
with_colon : (text digits : List ℕ) (rest : Option (Bor (List ℕ))) (list : Bor (List ℕ)) → IsCut 58 text digits (option_map (λ t. t.now) rest) → rest ≡ Some list
    → text ≡ digits ++ 58 ∷ list.now
with_colon text digits rest list is some =
    is.text_is ∙ ap (λ (r : Option (Bor (List ℕ))). parts_text 58 digits (option_map (λ t. t.now) r)) some

pub is_name : (text digits list : List ℕ) (named : Named) → text ≡ digits ++ 58 ∷ list → IsNumber digits named.message → ArePlacesText list named.places.items → IsNameText text named
is_name text digits list named is number places = record {
  valid = record { fits = number.fits; are_places = places.valid };
  text_is =
      is ∙ ap (λ (t : List ℕ). t ++ 58 ∷ list) number.text_is
      ∙ ap (λ (t : List ℕ). decimal named.message ++ 58 ∷ t) places.text_is;
}

pub no_colon : (text front : List ℕ) (rest : Option (Bor (List ℕ))) → IsCut 58 text front (option_map (λ t. t.now) rest) → rest ≡ None → HasNoName text
no_colon text front rest is none = record {
  none = λ named p.
      let whole = is.text_is ∙ ap (λ (r : Option (Bor (List ℕ))). parts_text 58 front (option_map (λ t. t.now) r)) none in
      has_stop 58 (decimal named.message) (places_text named.places.items) (subst (λ (t : List ℕ). HasNo 58 t) (sym whole ∙ p.text_is) is.front_has_none);
}

-- what stands around the colon
around_colon : (text digits list : List ℕ) (named : Named) → text ≡ digits ++ 58 ∷ list → HasNo 58 digits → IsNameText text named
    → (digits ≡ decimal named.message) × (list ≡ places_text named.places.items)
around_colon text digits list named is none p =
    split_is_one 58 digits (decimal named.message) list (places_text named.places.items) none (has_no-decimal 58 named.message (lit≤ tt) p.valid.fits) (sym is ∙ p.text_is)

pub no_number_named : (text digits : List ℕ) (rest : Option (Bor (List ℕ))) (list : Bor (List ℕ)) → IsCut 58 text digits (option_map (λ t. t.now) rest) → rest ≡ Some list
    → HasNoNumber digits → HasNoName text
no_number_named text digits rest list is some absent = record {
  none = λ named p.
      let (numbers, places) = around_colon text digits list.now named (with_colon text digits rest list is some) is.front_has_none p in
      absent.none named.message (record { text_is = numbers; fits = p.valid.fits });
}

pub no_places_named : (text digits : List ℕ) (rest : Option (Bor (List ℕ))) (list : Bor (List ℕ)) → IsCut 58 text digits (option_map (λ t. t.now) rest) → rest ≡ Some list
    → HasNoPlaces list.now → HasNoName text
no_places_named text digits rest list is some absent = record {
  none = λ named p.
      let (numbers, places) = around_colon text digits list.now named (with_colon text digits rest list is some) is.front_has_none p in
      absent.none named.places.items (record { valid = p.valid.are_places; text_is = places });
}

-- one text names one list of recipients

decimals_are_one : (least more : ℕ) (one other : List ℕ) → AscendFrom least one → AscendFrom more other → map decimal one ≡ map decimal other → one ≡ other
decimals_are_one least more [] [] p q same = refl
decimals_are_one least more [] (next ∷ other) p q same = absurd (cc same)
decimals_are_one least more (place ∷ one) [] p q same = absurd (cc same)
decimals_are_one least more (place ∷ one) (next ∷ other) p q same =
    let heads : decimal place ≡ decimal next = cc same in
    let tails : map decimal one ≡ map decimal other = cc same in
    let below = p.1 in
    let under = q.1 in
    let first = decimal_injective place next (omega (arith, below)) (omega (arith, under)) heads in
    let rest = decimals_are_one (place + 1) (next + 1) one other p.2 q.2 tails in
    cc (first, rest)

places_are_one : (one other : List ℕ) → ArePlaces one → ArePlaces other → places_text one ≡ places_text other → one ≡ other
places_are_one one other p q same =
    decimals_are_one 0 0 one other p.ascend q.ascend (sym (places-parts one p) ∙ ap (parts_of 44) same ∙ places-parts other q)

name_is_one : (one other : Named) → IsNamed one → IsNamed other → named_text one ≡ named_text other → content_of one ≡ content_of other
name_is_one one other p q same =
    let (numbers, lists) = around_colon (named_text one) (decimal one.message) (places_text one.places.items) other refl (has_no-decimal 58 one.message (lit≤ tt) p.fits) (record { valid = q; text_is = same }) in
    let number = decimal_injective one.message other.message p.fits q.fits numbers in
    let places = places_are_one one.places.items other.places.items p.are_places q.are_places lists in
    cc (number, places)

each_is_one : (one other : List Named) → AllByRecursion IsNamed one → AllByRecursion IsNamed other → map named_text one ≡ map named_text other → map content_of one ≡ map content_of other
each_is_one [] [] p q same = refl
each_is_one [] (next ∷ other) p q same = absurd (cc same)
each_is_one (named ∷ one) [] p q same = absurd (cc same)
each_is_one (named ∷ one) (next ∷ other) p q same =
    let heads : named_text named ≡ named_text next = cc same in
    let tails : map named_text one ≡ map named_text other = cc same in
    let first = name_is_one named next p.0 q.0 heads in
    let rest = each_is_one one other p.1 q.1 tails in
    cc (first, rest)

pub names_are_one : (one other : List Named) → AreNamed one → AreNamed other → names_text one ≡ names_text other → map content_of one ≡ map content_of other
names_are_one one other p q same =
    each_is_one one other p.each q.each (sym (names-parts one p) ∙ ap (parts_of 32) same ∙ names-parts other q)

-- how long names are

places_are_short : (least : ℕ) (places : List ℕ) → AscendFrom least places → 0 < length places → length (places_text places) + 1 ≤ 3 * length places
places_are_short least [] all some = absurd (omega arith)
places_are_short least (place ∷ []) all some =
    let below = all.1 in
    let few = length-decimal-le 2 place (lit< tt) (omega (arith, below)) (omega (arith, below)) in omega arith
places_are_short least (place ∷ next ∷ places) all some =
    let below = all.1 in
    let few = length-decimal-le 2 place (lit< tt) (omega (arith, below)) (omega (arith, below)) in
    let size : length (places_text (place ∷ next ∷ places)) ≡ length (decimal place) + length (44 ∷ places_text (next ∷ places)) = length-append (decimal place) (44 ∷ places_text (next ∷ places)) in
    let rest = places_are_short (place + 1) (next ∷ places) all.2 (omega arith) in
    omega arith

name_is_short : (named : Named) → IsNamed named → length (named_text named) + 1 ≤ 21 + 3 * length named.places.items
name_is_short named p =
    let few = length-decimal-le 20 named.message (lit< tt) (let fits = p.fits in omega (arith, fits)) p.fits in
    let size : length (named_text named) ≡ length (decimal named.message) + length (58 ∷ places_text named.places.items) = length-append (decimal named.message) (58 ∷ places_text named.places.items) in
    let rest = places_are_short 0 named.places.items p.are_places.ascend p.are_places.some_place in
    omega arith

pub names_are_short : (names : List Named) → AllByRecursion IsNamed names → length (names_text names) ≤ most_of_names names
names_are_short [] all = lit≤ tt
names_are_short (named ∷ []) all = let few = name_is_short named all.0 in omega arith
names_are_short (named ∷ next ∷ names) all =
    let few = name_is_short named all.0 in
    let size : length (names_text (named ∷ next ∷ names)) ≡ length (named_text named) + length (32 ∷ names_text (next ∷ names)) = length-append (named_text named) (32 ∷ names_text (next ∷ names)) in
    let rest = names_are_short (next ∷ names) all.1 in
    omega arith

-- how names are written

-- one more part at the end
join-push : (stop : ℕ) (text : List ℕ) (texts : List (List ℕ)) (last : List ℕ)
    → join_with_byte stop (text ∷ (texts ++ last ∷ [])) ≡ join_with_byte stop (text ∷ texts) ++ stop ∷ last
join-push stop text [] last = refl
join-push stop text (next ∷ texts) last =
    ap (λ (t : List ℕ). text ++ stop ∷ t) (join-push stop next texts last)
    ∙ sym (append_assoc text (stop ∷ join_with_byte stop (next ∷ texts)) (stop ∷ last))

joined_later : {X : Type 0} (f : X → List ℕ) (stop : ℕ) (xs : List X) (i : ℕ) (d : X) → 0 < i → i < length xs
    → join_with_byte stop (map f (take (i + 1) xs)) ≡ join_with_byte stop (map f (take i xs)) ++ stop ∷ f (get_or xs i d)
joined_later f stop [] i d some within = absurd (omega arith)
joined_later f stop (x ∷ xs) zero d some within = absurd (omega arith)
joined_later f stop (x ∷ xs) (suc i) d some within =
    ap (λ t. join_with_byte stop (map f t)) (take_more (x ∷ xs) (suc i) d within)
    ∙ ap (join_with_byte stop) (map-append f (take (suc i) (x ∷ xs)) (get_or (x ∷ xs) (suc i) d ∷ []))
    ∙ join-push stop (f x) (map f (take i xs)) (f (get_or (x ∷ xs) (suc i) d))

joined_first : {X : Type 0} (f : X → List ℕ) (stop : ℕ) (xs : List X) (d : X) → 0 < length xs
    → join_with_byte stop (map f (take 1 xs)) ≡ f (get_or xs 0 d)
joined_first f stop [] d some = absurd (omega arith)
joined_first f stop (x ∷ xs) d some = refl

-- the first part is written, and a further one after what parts them
pub pushed_first : {X : Type 0} (f : X → List ℕ) (stop : ℕ) (xs : List X) (i : ℕ) (d : X) (old before new : List ℕ) → i ≤ 0 → i < length xs
    → before ≡ old ++ join_with_byte stop (map f (take i xs)) → new ≡ before ++ f (get_or xs i d)
    → new ≡ old ++ join_with_byte stop (map f (take (i + 1) xs))
pushed_first f stop xs zero d old before new none within was is =
    is
    ∙ ap (λ (t : List ℕ). t ++ f (get_or xs 0 d)) (was ∙ append-nil old)
    ∙ ap (λ (t : List ℕ). old ++ t) (sym (joined_first f stop xs d within))
pushed_first f stop xs (suc i) d old before new none within was is = absurd (omega arith)

pub pushed_later : {X : Type 0} (f : X → List ℕ) (stop : ℕ) (xs : List X) (i : ℕ) (d : X) (old before between new : List ℕ) → 0 < i → i < length xs
    → before ≡ old ++ join_with_byte stop (map f (take i xs)) → between ≡ before ++ stop ∷ [] → new ≡ between ++ f (get_or xs i d)
    → new ≡ old ++ join_with_byte stop (map f (take (i + 1) xs))
pushed_later f stop xs i d old before between new some within was parted is =
    is
    ∙ ap (λ (t : List ℕ). t ++ f (get_or xs i d)) (parted ∙ ap (λ (t : List ℕ). t ++ stop ∷ []) was)
    ∙ append_assoc (old ++ join_with_byte stop (map f (take i xs))) (stop ∷ []) (f (get_or xs i d))
    ∙ append_assoc old (join_with_byte stop (map f (take i xs))) (stop ∷ f (get_or xs i d))
    ∙ ap (λ (t : List ℕ). old ++ t) (sym (joined_later f stop xs i d some within))
