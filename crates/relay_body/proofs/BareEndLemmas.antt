-- Where a CR or an LF stands alone, and where none does.
use Rattle.std.proofs.Common.{◌≡◌, ℕ, zero, suc, ◌+◌, ◌<◌, ◌≤◌, ◌==◌, Bool, true, false, cond, ◌&&◌, ◌||◌, List, [], ◌∷◌, ◌++◌, length, drop, get_or, refl, sym, ap, ◌∙◌, arith, append_assoc, get_or-drop, length-drop}
use Rattle.std.specs.List.{AllByRecursion}
use Rattle.std.proofs.lemmas.Bool.{eqb-true, false_from_ne_true, false≢true, or_parts}
use Rattle.std.proofs.lemmas.List.{drop-drop, drop_all}
use Rattle.memchr.specs.Find.{Nowhere, NoneBefore, Passes, is_byte2}
use Rattle.relay_octets.specs.Line.{crlf, lines_text}
use Rattle.relay_body.specs.BareEnds.{BareEndIsSeen, IsOfLines, IsPlain, begins_with_crlf, has_bare_end, is_cr_or_lf}

-- an octet that is neither is passed over
plain_first : (octet : ℕ) (octets : List ℕ) → is_cr_or_lf octet ≡ false → has_bare_end (octet ∷ octets) ≡ has_bare_end octets
plain_first octet [] plain = plain
plain_first octet (next ∷ more) plain = by (octet == 13) refl
  where
    by : (b : Bool) → (octet == 13) ≡ b → has_bare_end (octet ∷ next ∷ more) ≡ has_bare_end (next ∷ more)
    by true e = absurd (false≢true (sym (or_parts (octet == 13) (octet == 10) plain).0 ∙ e))
    by false e =
        ap (λ (b : Bool). cond (b && next == 10) (has_bare_end more) (is_cr_or_lf octet || has_bare_end (next ∷ more))) e
        ∙ ap (λ (b : Bool). b || has_bare_end (next ∷ more)) plain

plain_passed : (plain octets : List ℕ) → IsPlain plain → has_bare_end (plain ++ octets) ≡ has_bare_end octets
plain_passed [] octets all = refl
plain_passed (octet ∷ plain) octets all = plain_first octet (plain ++ octets) all.0 ∙ plain_passed plain octets all.1

plain_has_none : (octets : List ℕ) → IsPlain octets → has_bare_end octets ≡ false
plain_has_none [] all = refl
plain_has_none (octet ∷ octets) all = plain_first octet octets all.0 ∙ plain_has_none octets all.1

-- lines have none
lines_have_none : (lines : List (List ℕ)) (rest : List ℕ) → AllByRecursion IsPlain lines → IsPlain rest → has_bare_end (lines_text lines ++ rest) ≡ false
lines_have_none [] rest each last = plain_has_none rest last
lines_have_none (line ∷ lines) rest each last =
    ap has_bare_end (append_assoc (line ++ crlf) (lines_text lines) rest ∙ append_assoc line crlf (lines_text lines ++ rest))
    ∙ plain_passed line (crlf ++ lines_text lines ++ rest) each.0
    ∙ lines_have_none lines rest each.1 last

-- octets before what is of lines
before_lines : (octet : ℕ) (octets : List ℕ) → is_cr_or_lf octet ≡ false → IsOfLines octets → IsOfLines (octet ∷ octets)
before_lines octet octets plain of = by of.lines of.each of.content_is
  where
    by : (lines : List (List ℕ)) → AllByRecursion IsPlain lines → octets ≡ lines_text lines ++ of.rest → IsOfLines (octet ∷ octets)
    by [] each is = record { lines = []; rest = octet ∷ of.rest; each = tt; last = (plain, of.last); content_is = ap (λ (l : List ℕ). octet ∷ l) is }
    by (line ∷ lines) each is =
        record { lines = (octet ∷ line) ∷ lines; rest = of.rest; each = ((plain, each.0), each.1); last = of.last; content_is = ap (λ (l : List ℕ). octet ∷ l) is }

of_lines : (octets : List ℕ) → has_bare_end octets ≡ false → IsOfLines octets
of_lines [] none = record { lines = []; rest = []; each = tt; last = tt; content_is = refl }
of_lines (octet ∷ []) none = record { lines = []; rest = octet ∷ []; each = tt; last = (none, tt); content_is = refl }
of_lines (octet ∷ next ∷ more) none = by (octet == 13) (next == 10) refl refl (of_lines more) (of_lines (next ∷ more))
  where
    whole : Bool → Bool → Bool
    whole cr lf = cond (cr && lf) (has_bare_end more) (is_cr_or_lf octet || has_bare_end (next ∷ more))

    by : (cr lf : Bool) → (octet == 13) ≡ cr → (next == 10) ≡ lf → (has_bare_end more ≡ false → IsOfLines more)
        → (has_bare_end (next ∷ more) ≡ false → IsOfLines (next ∷ more)) → IsOfLines (octet ∷ next ∷ more)
    by true true c l after rest =
        let of = after (sym (ap (λ (b : Bool). whole b (next == 10)) c ∙ ap (λ (b : Bool). whole true b) l) ∙ none) in
        record {
          lines = [] ∷ of.lines;
          rest = of.rest;
          each = (tt, of.each);
          last = of.last;
          content_is =
              let cr = eqb-true octet 13 c in
              let lf = eqb-true next 10 l in
              ap (λ n. n ∷ next ∷ more) cr ∙ ap (λ n. 13 ∷ n ∷ more) lf ∙ ap (λ (l : List ℕ). 13 ∷ 10 ∷ l) of.content_is;
        }
    by true false c l after rest =
        let parts = or_parts (is_cr_or_lf octet) (has_bare_end (next ∷ more)) (sym (ap (λ (b : Bool). whole b (next == 10)) c ∙ ap (λ (b : Bool). whole true b) l) ∙ none) in
        before_lines octet (next ∷ more) parts.0 (rest parts.1)
    by false lf c l after rest =
        let parts = or_parts (is_cr_or_lf octet) (has_bare_end (next ∷ more)) (sym (ap (λ (b : Bool). whole b (next == 10)) c) ∙ none) in
        before_lines octet (next ∷ more) parts.0 (rest parts.1)

pub bare_end_is_seen : BareEndIsSeen
bare_end_is_seen content =
    ((λ of. ap has_bare_end of.content_is ∙ lines_have_none of.lines of.rest of.each of.last), of_lines content)

-- The search: from one CR or LF to the next.

-- a CR or an LF stands at this place of the octets after `from`
abbrev pub IsEnd : List ℕ → ℕ → ℕ → Type 0
IsEnd octets from k = Passes (is_byte2 13 10) (drop from octets) k

-- octets before the first CR or LF are passed over
pass_over : (octets : List ℕ) (place : ℕ) → place ≤ length octets → ((k : ℕ) → k < place → is_cr_or_lf (get_or octets k 0) ≡ false)
    → has_bare_end octets ≡ has_bare_end (drop place octets)
pass_over octets zero within none = refl
pass_over [] (suc place) within none = absurd (omega (arith, within))
pass_over (octet ∷ octets) (suc place) within none =
    plain_first octet octets (none 0 (omega arith))
    ∙ pass_over octets place (omega (arith, within)) (λ k low. none (suc k) (omega (arith, low)))

-- what begins with CR LF goes on after it
after_crlf : (octets : List ℕ) → begins_with_crlf octets ≡ true → has_bare_end octets ≡ has_bare_end (drop 2 octets)
after_crlf [] begins = absurd (false≢true begins)
after_crlf (octet ∷ []) begins = absurd (false≢true begins)
after_crlf (octet ∷ next ∷ more) begins = ap (λ (b : Bool). cond b (has_bare_end more) (is_cr_or_lf octet || has_bare_end (next ∷ more))) begins

-- a CR or an LF that begins no CR LF stands alone
alone : (octets : List ℕ) → 0 < length octets → is_cr_or_lf (get_or octets 0 0) ≡ true → begins_with_crlf octets ≡ false → has_bare_end octets ≡ true
alone [] some is not_both = absurd (omega (arith, some))
alone (octet ∷ []) some is not_both = is
alone (octet ∷ next ∷ more) some is not_both =
    ap (λ (b : Bool). cond b (has_bare_end more) (is_cr_or_lf octet || has_bare_end (next ∷ more))) not_both
    ∙ ap (λ (b : Bool). b || has_bare_end (next ∷ more)) is

-- none is seen so far
pub record SeesNone (octets : List ℕ) (from : ℕ) : Type 0 where
  pub within : from ≤ length octets
  pub same : has_bare_end octets ≡ has_bare_end (drop from octets)

not_before : (octets : List ℕ) (from place : ℕ) → NoneBefore (IsEnd octets from) 0 (length (drop from octets)) place
    → (k : ℕ) → k < place → is_cr_or_lf (get_or (drop from octets) k 0) ≡ false
not_before octets from place first k low =
    false_from_ne_true (is_cr_or_lf (get_or (drop from octets) k 0)) (λ is. first.before k (omega arith) low is)

-- the search stands at the next CR or LF
stands_at : (octets : List ℕ) (from place : ℕ) → SeesNone octets from → NoneBefore (IsEnd octets from) 0 (length (drop from octets)) place
    → has_bare_end octets ≡ has_bare_end (drop (from + place) octets)
stands_at octets from place so_far first =
    let high = first.high in
    so_far.same
    ∙ pass_over (drop from octets) place (omega (arith, high)) (not_before octets from place first)
    ∙ ap has_bare_end (drop-drop place from octets)

-- after a CR LF it goes on
pub goes_on : (octets : List ℕ) (from place next : ℕ) → SeesNone octets from → NoneBefore (IsEnd octets from) 0 (length (drop from octets)) place
    → begins_with_crlf (drop (from + place) octets) ≡ true → 2 ≤ length (drop (from + place) octets) → next ≡ from + (place + 2) → SeesNone octets next
goes_on octets from place next so_far first begins two is = record {
  within =
      let length_is = length-drop (from + place) octets in
      omega (arith, two, is, length_is);
  same =
      stands_at octets from place so_far first
      ∙ after_crlf (drop (from + place) octets) begins
      ∙ ap has_bare_end (drop-drop 2 (from + place) octets ∙ ap (λ n. drop n octets) (let e : from + place + 2 ≡ next = omega (arith, is) in e));
}

-- a CR or an LF that begins no CR LF is found
pub found_alone : (octets : List ℕ) (from place : ℕ) → SeesNone octets from → NoneBefore (IsEnd octets from) 0 (length (drop from octets)) place
    → IsEnd octets from place → begins_with_crlf (drop (from + place) octets) ≡ false → has_bare_end octets ≡ true
found_alone octets from place so_far first is not_both =
    let high = first.high in
    let all = length-drop from octets in
    let rest = length-drop (from + place) octets in
    stands_at octets from place so_far first
    ∙ alone (drop (from + place) octets) (omega (arith, high, all, rest))
    (ap is_cr_or_lf (get_or-drop (from + place) octets 0 0 ∙ ap (λ n. get_or octets n 0) (let e : from + place + 0 ≡ from + place = omega arith in e) ∙ sym (get_or-drop from octets place 0)) ∙ is)
    not_both

-- where none follows, there is none
pub none_follows : (octets : List ℕ) (from : ℕ) → SeesNone octets from → Nowhere (IsEnd octets from) 0 (length (drop from octets)) → has_bare_end octets ≡ false
none_follows octets from so_far nowhere =
    so_far.same
    ∙ pass_over (drop from octets) (length (drop from octets)) (omega arith)
    (λ k low. false_from_ne_true (is_cr_or_lf (get_or (drop from octets) k 0)) (λ is. nowhere k (omega arith) low is))
    ∙ ap has_bare_end (drop_all (length (drop from octets)) (drop from octets) (omega arith))
