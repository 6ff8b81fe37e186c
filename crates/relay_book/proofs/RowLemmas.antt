-- Rows of values, one after another.
use Rattle.std.proofs.Common.{◌≡◌, ℕ, zero, suc, ◌+◌, ◌<◌, ◌≤◌, List, [], ◌∷◌, ◌++◌, drop, get_or, length, map, refl, sym, ap, subst, ◌∙◌, arith, add-one, append_assoc, append-nil, length-append}
use Rattle.std.specs.List.{flat_map, AllByRecursion}
use Rattle.std.proofs.lemmas.List.{drop_more}
use Rattle.relay_envelope.specs.declared.envelope.Recipient.{Recipient}
use Rattle.relay_envelope.specs.Envelope.{IsRecipient}
use Rattle.relay_book.specs.declared.change.Ruling.{Ruling}
use Rattle.relay_book.specs.Record.{IsRuling, counted, recipient_octets, ruling_octets}
use Rattle.relay_book.specs.Fields.{AreSome, HaveCount, HasNone, HasNoCounted, HasNoRow}
use Rattle.relay_book.proofs.CodeLemmas.{IsCode, code_list}
use Rattle.relay_book.proofs.FieldLemmas.{same_head}
use Rattle.relay_book.proofs.ValueLemmas.{code_recipient, code_ruling}

flat_joined : {A : Type 0} (octets_of : A → List ℕ) (values : List A) (value : A) → flat_map octets_of (values ++ value ∷ []) ≡ flat_map octets_of values ++ octets_of value
flat_joined octets_of [] value = append-nil (octets_of value)
flat_joined octets_of (first ∷ values) value =
    ap (λ (l : List ℕ). octets_of first ++ l) (flat_joined octets_of values value)
    ∙ sym (append_assoc (octets_of first) (flat_map octets_of values) (octets_of value))

all_joined : {A : Type 0} (Valid : A → Type 0) (values : List A) (value : A) → AllByRecursion Valid values → Valid value → AllByRecursion Valid (values ++ value ∷ [])
all_joined Valid [] value all valid = (valid, tt)
all_joined Valid (first ∷ values) value all valid = (all.0, all_joined Valid values value all.1 valid)

-- one value more is read
pub one_more_read : {A : Type 0} (octets_of : A → List ℕ) (text : List ℕ) (values : List A) (value : A) (rest after : List ℕ)
    → text ≡ flat_map octets_of values ++ rest → rest ≡ octets_of value ++ after → text ≡ flat_map octets_of (values ++ value ∷ []) ++ after
one_more_read octets_of text values value rest after before is =
    before ∙ ap (λ (l : List ℕ). flat_map octets_of values ++ l) is
    ∙ sym (append_assoc (flat_map octets_of values) (octets_of value) after)
    ∙ sym (ap (λ (l : List ℕ). l ++ after) (flat_joined octets_of values value))

pub one_more_valid : {A : Type 0} (Valid : A → Type 0) (count : ℕ) (values : List A) (value : A) → HaveCount Valid count values → Valid value → HaveCount Valid (count + 1) (values ++ value ∷ [])
one_more_valid Valid count values value are valid =
    let parts = length-append values (value ∷ []) in
    let many = are.have_count in
    record { have_count = omega (arith, parts, many); valid = all_joined Valid values value are.valid valid }

-- both of the value that was made of it
pub one_more_row : {A : Type 0} (Valid : A → Type 0) (octets_of : A → List ℕ) (count : ℕ) (text : List ℕ) (values : List A) (rest : List ℕ) (value given : A) (after : List ℕ) (more : List A)
    → HaveCount Valid count values × (text ≡ flat_map octets_of values ++ rest) → Valid given → rest ≡ octets_of given ++ after → value ≡ given → more ≡ values ++ value ∷ []
    → HaveCount Valid (count + 1) more × (text ≡ flat_map octets_of more ++ after)
one_more_row {A} Valid octets_of count text values rest value given after more before valid is same more_are =
    let all : more ≡ values ++ given ∷ [] = more_are ∙ ap (λ (v : A). values ++ v ∷ []) same in (
      subst (HaveCount Valid (count + 1)) (sym all) (one_more_valid Valid count values given before.0 valid),
      one_more_read octets_of text values given rest after before.1 is ∙ ap (λ (l : List A). flat_map octets_of l ++ after) (sym all),
    )

-- after fewer values than so many stands no further one
row_from : {A : Type 0} (Valid : A → Type 0) (octets_of : A → List ℕ) → IsCode Valid octets_of → (done values : List A) (after rest : List ℕ)
    → length done < length values → AllByRecursion Valid done → AllByRecursion Valid values → HasNone Valid octets_of after
    → flat_map octets_of done ++ after ≡ flat_map octets_of values ++ rest → ⊥
row_from Valid octets_of code done [] after rest fewer all valid none e = omega (arith, fewer)
row_from Valid octets_of code [] (value ∷ values) after rest fewer all valid none e =
    none.none value (flat_map octets_of values ++ rest) valid.0 (e ∙ append_assoc (octets_of value) (flat_map octets_of values) rest)
row_from Valid octets_of code (first ∷ done) (value ∷ values) after rest fewer all valid none e =
    let same = code first value (flat_map octets_of done ++ after) (flat_map octets_of values ++ rest) all.0 valid.0
    (sym (append_assoc (octets_of first) (flat_map octets_of done) after) ∙ e ∙ append_assoc (octets_of value) (flat_map octets_of values) rest) in
    row_from Valid octets_of code done values after rest (omega (arith, fewer)) all.1 valid.1 none same.1

pub no_row : {A : Type 0} (Valid : A → Type 0) (octets_of : A → List ℕ) → IsCode Valid octets_of → (count done : ℕ) (text : List ℕ) (values : List A) (after : List ℕ)
    → done < count → HaveCount Valid done values → text ≡ flat_map octets_of values ++ after → HasNone Valid octets_of after → HasNoRow Valid octets_of count text
no_row Valid octets_of code count done text values after fewer are is none = record {
  none = λ others rest many e.
      let here = are.have_count in
      let there = many.have_count in
      row_from Valid octets_of code values others after rest (omega (arith, here, there, fewer)) are.valid many.valid none (sym is ∙ e);
}

pub no_recipient_row : (count done : ℕ) (text : List ℕ) (values : List Recipient) (after : List ℕ)
    → done < count → HaveCount IsRecipient done values → text ≡ flat_map recipient_octets values ++ after → HasNone IsRecipient recipient_octets after
    → HasNoRow IsRecipient recipient_octets count text
no_recipient_row = no_row IsRecipient recipient_octets code_recipient

pub no_ruling_row : (count done : ℕ) (text : List ℕ) (values : List Ruling) (after : List ℕ)
    → done < count → HaveCount IsRuling done values → text ≡ flat_map ruling_octets values ++ after → HasNone IsRuling ruling_octets after
    → HasNoRow IsRuling ruling_octets count text
no_ruling_row = no_row IsRuling ruling_octets code_ruling

-- a count, and the row after it
pub no_count : {A : Type 0} (Valid : A → Type 0) (octets_of : A → List ℕ) (text : List ℕ) → length text ≡ 0 → HasNoCounted Valid octets_of text
no_count Valid octets_of text empty = record {
  none = λ values rest some e. let long : length text ≡ suc (length (flat_map octets_of values ++ rest)) = ap length e in omega (arith, long, empty);
}

pub no_such_count : {A : Type 0} (Valid : A → Type 0) (octets_of : A → List ℕ) (text : List ℕ) (count : ℕ) (after : List ℕ)
    → text ≡ count ∷ after → (1 ≤ count → count ≤ 100 → ⊥) → HasNoCounted Valid octets_of text
no_such_count Valid octets_of text count after is out = record {
  none = λ values rest some e.
      let same = (same_head count (length values) after (flat_map octets_of values ++ rest) (sym is ∙ e)).0 in
      let least = some.some in
      let most = some.within in
      out (omega (arith, same, least)) (omega (arith, same, most));
}

pub no_counted_row : {A : Type 0} (Valid : A → Type 0) (octets_of : A → List ℕ) (text : List ℕ) (count : ℕ) (after : List ℕ)
    → text ≡ count ∷ after → HasNoRow Valid octets_of count after → HasNoCounted Valid octets_of text
no_counted_row Valid octets_of text count after is none = record {
  none = λ values rest some e.
      let same = same_head count (length values) after (flat_map octets_of values ++ rest) (sym is ∙ e) in
      none.none values rest (record { have_count = sym same.0; valid = some.valid }) same.1;
}

pub is_counted : {A : Type 0} (Valid : A → Type 0) (octets_of : A → List ℕ) (text : List ℕ) (count : ℕ) (after : List ℕ) (values : List A) (rest : List ℕ)
    → text ≡ count ∷ after → HaveCount Valid count values → after ≡ flat_map octets_of values ++ rest → text ≡ counted octets_of values ++ rest
is_counted Valid octets_of text count after values rest is are more =
    is ∙ (λ i. sym are.have_count i ∷ more i)

-- rows after their counts are one
pub counted_are_one : {A : Type 0} (Valid : A → Type 0) (octets_of : A → List ℕ) → IsCode Valid octets_of → (values others : List A) (x y : List ℕ)
    → AreSome Valid values → AreSome Valid others → counted octets_of values ++ x ≡ counted octets_of others ++ y → (values ≡ others) × (x ≡ y)
counted_are_one Valid octets_of code values others x y are also e =
    let first = same_head (length values) (length others) (flat_map octets_of values ++ x) (flat_map octets_of others ++ y) e in
    code_list Valid octets_of code values others x y first.0 are.valid also.valid first.1

-- a row that is written, value by value
pub flat_step : {A : Type 0} (octets_of : A → List ℕ) (values : List A) (index : ℕ) (value : A) (old new all : List ℕ) → index < length values → value ≡ get_or values index value
    → old ++ flat_map octets_of (drop index values) ≡ all → new ≡ old ++ octets_of value → new ++ flat_map octets_of (drop (index + 1) values) ≡ all
flat_step {A} octets_of values index value old new all within is before new_is =
    let first : drop index values ≡ value ∷ drop (index + 1) values = drop_more values index value within ∙ ap (λ (v : A). v ∷ drop (index + 1) values) (sym is) in
    ap (λ (l : List ℕ). l ++ flat_map octets_of (drop (index + 1) values)) new_is
    ∙ append_assoc old (octets_of value) (flat_map octets_of (drop (index + 1) values))
    ∙ sym (ap (λ (l : List A). old ++ flat_map octets_of l) first)
    ∙ before

drop_whole : {A : Type 0} (values : List A) (index : ℕ) → length values ≤ index → drop index values ≡ []
drop_whole [] zero past = refl
drop_whole [] (suc index) past = refl
drop_whole (value ∷ values) zero past = absurd (omega (arith, past))
drop_whole (value ∷ values) (suc index) past = drop_whole values index (omega (arith, past))

-- all of it after its count
pub flat_end : {A : Type 0} (octets_of : A → List ℕ) (values : List A) (index : ℕ) (old mid new : List ℕ) → length values ≤ index → mid ≡ old ++ length values ∷ []
    → new ++ flat_map octets_of (drop index values) ≡ mid ++ flat_map octets_of values → new ≡ old ++ counted octets_of values
flat_end {A} octets_of values index old mid new past mid_is whole =
    sym (append-nil new)
    ∙ ap (λ (l : List A). new ++ flat_map octets_of l) (sym (drop_whole values index past))
    ∙ whole
    ∙ ap (λ (l : List ℕ). l ++ flat_map octets_of values) mid_is
    ∙ append_assoc old (length values ∷ []) (flat_map octets_of values)

-- values of which each makes the same
map_same : {A B : Type 0} (f : A → B) (made : B) → ((value : A) → f value ≡ made) → (values : List A) (index : ℕ) → index < length values
    → map f (drop index values) ≡ made ∷ map f (drop (suc index) values)
map_same f made same [] index within = absurd (omega (arith, within))
map_same {A} {B} f made same (value ∷ values) zero within = ap (λ (b : B). b ∷ map f values) (same value)
map_same f made same (value ∷ values) (suc index) within = map_same f made same values index (omega (arith, within))

pub map_step : {A B : Type 0} (f : A → B) (made : B) → ((value : A) → f value ≡ made) → (values : List A) (index : ℕ) (old new all : List B) → index < length values
    → old ++ map f (drop index values) ≡ all → new ≡ old ++ made ∷ [] → new ++ map f (drop (index + 1) values) ≡ all
map_step {A} {B} f made same values index old new all within before new_is =
    ap (λ (l : List B). l ++ map f (drop (index + 1) values)) new_is
    ∙ append_assoc old (made ∷ []) (map f (drop (index + 1) values))
    ∙ ap (λ n. old ++ made ∷ map f (drop n values)) (add-one index)
    ∙ ap (λ (l : List B). old ++ l) (sym (map_same f made same values index within))
    ∙ before

-- octets without a counted row
pub ruleset refused_rows = (no_count, no_such_count, no_counted_row)

-- a counted row, or octets without one
pub ruleset counted_rows = (no_count, no_such_count, no_counted_row, is_counted)
