-- A pass over a text finds each number after the stem, wherever it stands.
use Rattle.std.proofs.Common.{◌≡◌, ◌⊎◌, inl, inr, ℕ, ◌+◌, ◌-◌, ◌<◌, ◌≤◌, ◌^◌, List, ◌++◌, length, take, drop, Contains, decimal, Some, None, refl, sym, ap, subst, ◌∙◌, arith, append_assoc, length-append}
use Rattle.std.proofs.lemmas.Bool.{cases_lt, cases_eq}
use Rattle.std.proofs.lemmas.List.{take_at, drop_at, drop-drop, length-take, length-drop, take-append-drop}
use Rattle.std.proofs.lemmas.List.Elements.{Contains-append_left, Contains-append_right, Contains-append_cases}
use Rattle.std.proofs.lemmas.Grind.{flat_map-append}
use Rattle.std.specs.Option.{option_to_list}
use Rattle.memchr.specs.Find.{OccursAt, NoneBefore, FindsNeedle}
use Rattle.memchr.proofs.lemmas.MatchLemmas.{OccursAt-split, OccursAt-from_part}
use Rattle.relay_report.specs.Boundary.{StandsIn, numbered}
use Rattle.relay_report.specs.Numbers.{leading, beginnings, all_begun, Collects, Collecting, NextIsAfter}
use Rattle.relay_report.proofs.BegunLemmas.{started, started_finds, started_only}

-- a word after some octets stands at their number
pub occurs_after : (text word before after : List ℕ) → text ≡ before ++ (word ++ after) → OccursAt text word (length before)
occurs_after text word before after e =
    let here : drop (length before) text ≡ word ++ after = ap (drop (length before)) e ∙ drop_at before (word ++ after) (length before) refl in
    let fits : length text ≡ length before + (length word + length after) =
    ap length e ∙ length-append before (word ++ after) ∙ ap (λ n. length before + n) (length-append word after) in
    OccursAt-from_part text word (length before) (omega (arith, fits)) (ap (take (length word)) here ∙ take_at word after (length word) refl)

pub before_end : (text word before after : List ℕ) → text ≡ before ++ (word ++ after) → length before < length text + 1
before_end text word before after e = let fits : length text ≡ length before + length (word ++ after) = ap length e ∙ length-append before (word ++ after) in omega (arith, fits)

-- what stands after a place stands in the whole
pub stands_after : (word text : List ℕ) (place : ℕ) → StandsIn word (drop place text) → StandsIn word text
stands_after word text place stands = record {
  before = take place text ++ stands.before;
  after = stands.after;
  text_is = sym (take-append-drop place text) ∙ ap (λ l. take place text ++ l) stands.text_is ∙ sym (append_assoc (take place text) stands.before (word ++ stands.after));
}

-- and what stands in the whole at a later place stands after it
pub stands_later : (word text before after : List ℕ) (place : ℕ) → text ≡ before ++ (word ++ after) → place ≤ length before → StandsIn word (drop place text)
stands_later word text before after place e far = record {
  before = drop place before;
  after = after;
  text_is =
      let short : length (take place before) ≡ place = omega (arith, length-take place before) in
      let cut : text ≡ take place before ++ (drop place before ++ (word ++ after)) =
      e ∙ ap (λ l. l ++ (word ++ after)) (sym (take-append-drop place before)) ∙ append_assoc (take place before) (drop place before) (word ++ after) in
      ap (drop place) cut ∙ drop_at (take place before) (drop place before ++ (word ++ after)) place short;
}

-- the stem stands where its numbered one does
un_numbered : (stem text before after : List ℕ) (k : ℕ) → text ≡ before ++ (numbered stem k ++ after) → text ≡ before ++ (stem ++ (decimal k ++ after))
un_numbered stem text before after k e = e ∙ ap (λ l. before ++ l) (append_assoc stem (decimal k) after)

-- what was found after the stem's first place stands in the text
after_stands : (stem rest : List ℕ) (place k : ℕ) → OccursAt rest stem place → Contains (started (drop (place + length stem) rest)) k → StandsIn (numbered stem k) rest
after_stands stem rest place k at has =
    let (after, e, fits) = started_only k (drop (place + length stem) rest) has in
    record {
      before = take place rest;
      after = after;
      text_is = sym (take-append-drop place rest) ∙ ap (λ l. take place rest ++ l) (OccursAt-split rest stem place at ∙ ap (λ l. stem ++ l) e ∙ sym (append_assoc stem (decimal k) after));
    }

-- a numbered stem in the rest is found at the first place, or stands after it
found_or_later : (stem rest : List ℕ) (place step k : ℕ) → NoneBefore (OccursAt rest stem) 0 (length rest + 1) place → OccursAt rest stem place
    → NextIsAfter stem step → k < 2 ^ 64 → StandsIn (numbered stem k) rest
    → Contains (started (drop (place + length stem) rest)) k ⊎ StandsIn (numbered stem k) (drop (place + step) rest)
found_or_later stem rest place step k none at afterwards fits stands =
    split (cases_lt (length stands.before) place) (cases_eq (length stands.before) place) (cases_lt (length stands.before) (place + step))
  where
    e : rest ≡ stands.before ++ (stem ++ (decimal k ++ stands.after))
    e = un_numbered stem rest stands.before stands.after k stands.text_is

    at_place : length stands.before ≡ place → Contains (started (drop (place + length stem) rest)) k
    at_place same =
        let afterwards : drop (place + length stem) rest ≡ decimal k ++ stands.after =
        sym (drop-drop (length stem) place rest) ∙ ap (drop (length stem)) (ap (drop place) e ∙ drop_at stands.before (stem ++ (decimal k ++ stands.after)) place same) ∙ drop_at stem (decimal k ++ stands.after) (length stem) refl in
        subst (λ l. Contains (started l) k) (sym afterwards) (started_finds k stands.after fits)

    here : OccursAt rest stem (length stands.before)
    here = occurs_after rest stem stands.before (decimal k ++ stands.after) e

    between : place ≤ length stands.before → (length stands.before ≡ place → ⊥) → length stands.before < place + step → ⊥
    between far differs near =
        let there : length stands.before ≡ place + (length stands.before - place) = omega (arith, far) in
        afterwards rest place (length stands.before - place) at (omega (arith, far, differs)) (omega (arith, far, near)) (subst (OccursAt rest stem) there here)

    split : (length stands.before < place) ⊎ (place ≤ length stands.before) → (length stands.before ≡ place) ⊎ (length stands.before ≡ place → ⊥)
        → (length stands.before < place + step) ⊎ (place + step ≤ length stands.before)
        → Contains (started (drop (place + length stem) rest)) k ⊎ StandsIn (numbered stem k) (drop (place + step) rest)
    split (inl near) other next = absurd (none.before (length stands.before) (omega arith) near here)
    split (inr far) (inl same) next = inl (at_place same)
    split (inr far) (inr differs) (inl near) = absurd (between far differs near)
    split (inr far) (inr differs) (inr past) = inr (stands_later (numbered stem k) rest stands.before stands.after (place + step) stands.text_is past)

-- one more place of the stem
pub collect_step : (stem text rest more old now new : List ℕ) (place step : ℕ) → Collecting stem text rest old now → FindsNeedle rest stem 0 (Some place)
    → NextIsAfter stem step → new ≡ now ++ started (drop (place + length stem) rest) → more ≡ drop (place + step) rest → Collecting stem text more old new
collect_step stem text rest more old now new place step so found afterwards new_is more_is = record {
  keeps = λ k has. subst (λ l. Contains l k) (sym new_is) (Contains-append_left now _ k (so.keeps k has));
  finds = λ k fits stands. finds k fits (so.finds k fits stands);
  only = λ k has. only k (Contains-append_cases now _ k (subst (λ l. Contains l k) new_is has));
  part = λ k stands. so.part k (stands_after (numbered stem k) rest (place + step) (subst (StandsIn (numbered stem k)) more_is stands));
  shorter = let less = length-drop (place + step) rest in omega (arith, so.shorter, less, ap length more_is);
}
  where
    right : (k : ℕ) → Contains (started (drop (place + length stem) rest)) k ⊎ StandsIn (numbered stem k) (drop (place + step) rest) → Contains new k ⊎ StandsIn (numbered stem k) more
    right k (inl has) = inl (subst (λ l. Contains l k) (sym new_is) (Contains-append_right now _ k has))
    right k (inr stands) = inr (subst (StandsIn (numbered stem k)) (sym more_is) stands)

    finds : (k : ℕ) → k < 2 ^ 64 → Contains now k ⊎ StandsIn (numbered stem k) rest → Contains new k ⊎ StandsIn (numbered stem k) more
    finds k fits (inl has) = inl (subst (λ l. Contains l k) (sym new_is) (Contains-append_left now _ k has))
    finds k fits (inr stands) = right k (found_or_later stem rest place step k found.0 found.1 afterwards fits stands)

    only : (k : ℕ) → Contains now k ⊎ Contains (started (drop (place + length stem) rest)) k → Contains old k ⊎ StandsIn (numbered stem k) text
    only k (inl has) = so.only k has
    only k (inr has) = inr (so.part k (after_stands stem rest place k found.1 has))

-- the numbers of a list with the longest one at a place after them
pub begun_after : (taken : List ℕ) (more text : List ℕ) → more ≡ taken ++ option_to_list (leading text) → all_begun more ≡ all_begun taken ++ started text
begun_after taken more text e = ap all_begun e ∙ flat_map-append (beginnings 20) taken (option_to_list (leading text))

-- where the stem isn't found any more, all is found
pub collect_end : (stem text rest old now : List ℕ) → Collecting stem text rest old now → FindsNeedle rest stem 0 None → Collects stem text old now
collect_end stem text rest old now so none = record {
  keeps = so.keeps;
  finds = λ k fits stands. finds k (so.finds k fits stands);
  only = so.only;
}
  where
    finds : (k : ℕ) → Contains now k ⊎ StandsIn (numbered stem k) rest → Contains now k
    finds k (inl has) = has
    finds k (inr stands) =
        let e = un_numbered stem rest stands.before stands.after k stands.text_is in
        absurd (none (length stands.before) (omega arith) (before_end rest stem stands.before (decimal k ++ stands.after) e) (occurs_after rest stem stands.before (decimal k ++ stands.after) e))
