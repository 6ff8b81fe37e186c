-- Lines: where a CR LF stands, and that the first line of a stream is one.
use Rattle.std.proofs.Common.{◌≡◌, ℕ, ◌+◌, Bool, true, false, ◌&&◌, ◌||◌, ◌==◌, List, [], ◌∷◌, ◌++◌, length, take, drop, Option, None, Some, MatchOption, inl, inr, refl, sym, ap, ◌∙◌, arith, append_assoc, length-append}
use Rattle.std.proofs.lemmas.List.{drop_at, length-take, take-append-drop}
use Rattle.memchr.specs.Find.{OccursAt, Nowhere, NoneBefore, FindsNeedle}
use Rattle.memchr.proofs.lemmas.MatchLemmas.{OccursAt-split, OccursAt-from_part}
use Rattle.std.proofs.lemmas.Bool.{cases_Bool, and_parts, eqb-true, ne_eqb, false≢true}
use Rattle.std.proofs.lemmas.List.Sums.{list_all-from_AllPass}
use Rattle.std.proofs.Math.Bool.{and-false, or-false, or-true}
use Rattle.std.specs.List.{list_all}
use Rattle.relay_octets.specs.Line.{crlf, HasNoCrlf, ReadsLine, ends_in_cr, begins_with_lf, has_crlf, FirstLineIsOne, FirstLineStays, CrlfIsTested, NoCrIsNoCrlf, JoinHasNoCrlf}

-- a CR LF after some octets stands at their number
occurs_after : (octets before after : List ℕ) → octets ≡ before ++ crlf ++ after
    → OccursAt octets crlf (length before)
occurs_after octets before after e =
    let here : drop (length before) octets ≡ crlf ++ after =
    ap (drop (length before)) (e ∙ append_assoc before crlf after)
    ∙ drop_at before (crlf ++ after) (length before) refl in
    let fits : length octets ≡ length before + 2 + length after =
    ap length e ∙ length-append (before ++ crlf) after
    ∙ ap (λ n. n + length after) (length-append before crlf) in
    OccursAt-from_part octets crlf (length before) (omega arith) (ap (take 2) here)

-- where a search finds none, there is none
pub none_found : (octets : List ℕ) → Nowhere (OccursAt octets crlf) 0 (length octets + 1)
    → HasNoCrlf octets
none_found octets nowhere = record {
  nowhere = λ before after e.
      let here = occurs_after octets before after e in
      let fits : length octets ≡ length before + 2 + length after =
      ap length e ∙ length-append (before ++ crlf) after
      ∙ ap (λ n. n + length after) (length-append before crlf) in
      nowhere (length before) (omega arith) (omega arith) here;
}

-- where a search finds the first, it ends the first line
pub first_found : (octets : List ℕ) (place : ℕ)
    → NoneBefore (OccursAt octets crlf) 0 (length octets + 1) place → OccursAt octets crlf place
    → ReadsLine octets (take place octets) (drop (place + 2) octets)
first_found octets place none here = record {
  text =
      sym
      (append_assoc (take place octets) crlf (drop (place + 2) octets) ∙ ap (λ l. take place octets ++ l) (sym (OccursAt-split octets crlf place here)) ∙ take-append-drop place octets);
  first = record {
    nowhere = λ before after e.
        let whole : octets ≡ before ++ crlf ++ (after ++ drop place octets) =
        sym (take-append-drop place octets) ∙ ap (λ l. l ++ drop place octets) e
        ∙ append_assoc (before ++ crlf) after (drop place octets) in
        let fits : length (take place octets) ≡ length before + 2 + length after =
        ap length e ∙ length-append (before ++ crlf) after
        ∙ ap (λ n. n + length after) (length-append before crlf) in
        let short = length-take place octets in
        none.before (length before) (omega arith) (omega (arith, short))
        (occurs_after octets before (after ++ drop place octets) whole);
  };
}

-- what a search for CR LF answers
pub crlf_found : (octets : List ℕ) (answer : Option ℕ) → FindsNeedle octets crlf 0 answer
    → MatchOption answer (HasNoCrlf octets)
    (λ place. ReadsLine octets (take place octets) (drop (place + 2) octets))
crlf_found octets None nowhere = none_found octets nowhere
crlf_found octets (Some place) first = first_found octets place first.0 first.1

-- a CR LF between any octets is seen
has_crlf_between : (before after : List ℕ) → has_crlf (before ++ (crlf ++ after)) ≡ true
has_crlf_between [] after = refl
has_crlf_between (octet ∷ before) after =
    ap (λ b. (octet == 13 && begins_with_lf (before ++ (crlf ++ after))) || b)
    (has_crlf_between before after)
    ∙ or-true _

-- the test tells of any place
pub no_crlf_by_test : (octets : List ℕ) → has_crlf octets ≡ false → HasNoCrlf octets
no_crlf_by_test octets test = record {
  nowhere =
      λ before after e. false≢true (sym test ∙ ap has_crlf (e ∙ append_assoc before crlf after) ∙ has_crlf_between before after);
}

-- a part of octets without a CR LF has none
pub no_crlf_tail : (octet : ℕ) (octets : List ℕ) → HasNoCrlf (octet ∷ octets) → HasNoCrlf octets
no_crlf_tail octet octets none = record {
  nowhere = λ before after e. none.nowhere (octet ∷ before) after (ap (λ l. octet ∷ l) e);
}

begins_is : (octets : List ℕ) → begins_with_lf octets ≡ true → octets ≡ 10 ∷ drop 1 octets
begins_is [] h = absurd (false≢true h)
begins_is (octet ∷ octets) h = ap (λ o. o ∷ octets) (eqb-true octet 10 h)

pub no_crlf_test : (octets : List ℕ) → HasNoCrlf octets → has_crlf octets ≡ false
no_crlf_test [] none = refl
no_crlf_test (octet ∷ octets) none =
    let later = no_crlf_test octets (no_crlf_tail octet octets none) in
    elim (cases_Bool (octet == 13 && begins_with_lf octets)) [
      | inl here ↦
          let parts = and_parts (octet == 13) (begins_with_lf octets) here in
          absurd
          (none.nowhere [] (drop 1 octets) (ap (λ o. o ∷ octets) (eqb-true octet 13 parts.0) ∙ ap (λ l. 13 ∷ l) (begins_is octets parts.1)))
      | inr elsewhere ↦ ap (λ b. b || has_crlf octets) elsewhere ∙ later
    ]

or_assoc : (a b c : Bool) → a || (b || c) ≡ a || b || c
or_assoc true b c = refl
or_assoc false b c = refl

across : (a b c : Bool) → a && b || c ≡ a && false || false || (c || a && b)
across true true true = refl
across true true false = refl
across true false true = refl
across true false false = refl
across false b true = refl
across false b false = refl

-- the test of joined octets
pub has_crlf-append : (front back : List ℕ)
    → has_crlf (front ++ back) ≡ has_crlf front ||
    (has_crlf back || (ends_in_cr front && begins_with_lf back))
has_crlf-append [] back = sym (or-false (has_crlf back))
has_crlf-append (octet ∷ []) back = across (octet == 13) (begins_with_lf back) (has_crlf back)
has_crlf-append (octet ∷ next ∷ front) back =
    ap (λ b. (octet == 13 && next == 10) || b) (has_crlf-append (next ∷ front) back)
    ∙ or_assoc (octet == 13 && next == 10) (has_crlf (next ∷ front)) _

-- a front of octets without a CR LF has none
pub no_crlf_front : (front back : List ℕ) → HasNoCrlf (front ++ back) → HasNoCrlf front
no_crlf_front front back none = record {
  nowhere =
      λ before after e. none.nowhere before (after ++ back) (ap (λ l. l ++ back) e ∙ append_assoc (before ++ crlf) after back);
}

-- what follows octets without a CR LF has none
pub no_crlf_back : (front back : List ℕ) → HasNoCrlf (front ++ back) → HasNoCrlf back
no_crlf_back [] back none = none
no_crlf_back (octet ∷ front) back none = no_crlf_back front back (no_crlf_tail octet (front ++ back) none)

-- no octets have no CR LF
pub no_crlf_nil : HasNoCrlf []
no_crlf_nil = no_crlf_by_test [] refl

-- one octet has none
pub no_crlf_one : (octet : ℕ) → HasNoCrlf (octet ∷ [])
no_crlf_one octet = no_crlf_by_test (octet ∷ []) (ap (λ b. b || false) (and-false (octet == 13)))

-- of parts without a CR LF, the test of the join tells of the seam alone
has_crlf-parts : (front back : List ℕ) → HasNoCrlf front → HasNoCrlf back
    → has_crlf (front ++ back) ≡ ends_in_cr front && begins_with_lf back
has_crlf-parts front back no_front no_back =
    let seam = ends_in_cr front && begins_with_lf back in
    has_crlf-append front back ∙ ap (λ b. b || (has_crlf back || seam)) (no_crlf_test front no_front)
    ∙ ap (λ b. b || seam) (no_crlf_test back no_back)

-- octets join without a CR LF where neither part has one, and none stands across the join
pub no_crlf_joined : (front back : List ℕ) → HasNoCrlf front → HasNoCrlf back
    → ends_in_cr front && begins_with_lf back ≡ false → HasNoCrlf (front ++ back)
no_crlf_joined front back no_front no_back apart =
    no_crlf_by_test (front ++ back) (has_crlf-parts front back no_front no_back ∙ apart)

pub join_has_no_crlf : JoinHasNoCrlf
join_has_no_crlf front back = (
  λ none.
      let no_front = no_crlf_front front back none in
      let no_back = no_crlf_back front back none in
      (no_front, no_back, sym (has_crlf-parts front back no_front no_back) ∙ no_crlf_test (front ++ back) none),
  λ parts. no_crlf_joined front back parts.0 parts.1 parts.2,
)

pub crlf_is_tested : CrlfIsTested
crlf_is_tested octets = (no_crlf_test octets, no_crlf_by_test octets)

-- an octet that passes a test which a CR doesn't is no CR
passes-no_cr : (test : ℕ → Bool) (octet : ℕ) → test 13 ≡ false → test octet ≡ true
    → octet == 13 ≡ false
passes-no_cr test octet not_cr passed =
    ne_eqb octet 13 (λ e. false≢true (sym not_cr ∙ ap test (sym e) ∙ passed))

-- octets that all pass such a test hold no CR LF
passes-no_crlf : (test : ℕ → Bool) (octets : List ℕ) → test 13 ≡ false → list_all test octets ≡ true
    → has_crlf octets ≡ false
passes-no_crlf test [] not_cr all = refl
passes-no_crlf test (octet ∷ octets) not_cr all =
    let parts = and_parts (test octet) (list_all test octets) all in
    ap (λ b. b && begins_with_lf octets || has_crlf octets) (passes-no_cr test octet not_cr parts.0)
    ∙ passes-no_crlf test octets not_cr parts.1

pub no_cr_is_no_crlf : NoCrIsNoCrlf
no_cr_is_no_crlf test octets not_cr all =
    no_crlf_by_test octets (passes-no_crlf test octets not_cr (list_all-from_AllPass test octets all))

-- of two readings neither line is longer
lines_agree : (line rest other more : List ℕ) → HasNoCrlf line → HasNoCrlf other
    → line ++ (crlf ++ rest) ≡ other ++ (crlf ++ more) → (line ≡ other) × (rest ≡ more)
lines_agree [] rest [] more h k e = (refl, ap (drop 2) e)
lines_agree [] rest (x ∷ []) more h k e = let no : ◌≡◌ {A = ℕ} 10 13 = cc in absurd (omega arith)
lines_agree [] rest (x ∷ y ∷ other) more h k e = absurd (k.nowhere [] other (cc))
lines_agree (x ∷ []) rest [] more h k e = let no : ◌≡◌ {A = ℕ} 13 10 = cc in absurd (omega arith)
lines_agree (x ∷ y ∷ line) rest [] more h k e = absurd (h.nowhere [] line (cc))
lines_agree (x ∷ line) rest (y ∷ other) more h k e =
    let head : x ≡ y = cc in
    let tail : line ++ (crlf ++ rest) ≡ other ++ (crlf ++ more) = cc in
    let same = lines_agree line rest other more (no_crlf_tail x line h) (no_crlf_tail y other k) tail in
    (ap (λ o. o ∷ line) head ∙ ap (λ l. y ∷ l) same.0, same.1)

pub first_line_is_one : FirstLineIsOne
first_line_is_one stream line rest other more one two =
    lines_agree line rest other more one.first two.first
    (sym (append_assoc line crlf rest) ∙ sym one.text ∙ two.text ∙ append_assoc other crlf more)

pub first_line_stays : FirstLineStays
first_line_stays stream line rest more reads = record {
  text = ap (λ l. l ++ more) reads.text ∙ append_assoc (line ++ crlf) rest more;
  first = reads.first;
}
