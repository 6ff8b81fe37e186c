-- Keywords and words: what is cut off a text, and what isn't there.
use Rattle.std.proofs.Common.{◌≡◌, ◌≢◌, ℕ, true, false, List, [], ◌∷◌, ◌++◌, length, take, drop, nat_eq, refl, sym, ap, ◌∙◌}
use Rattle.std.proofs.lemmas.Bool.{and_parts, false≢true}
use Rattle.std.proofs.lemmas.Bool.Decides.{Decides-eqb}
use Rattle.std.proofs.lemmas.Slice.Eq.{slice_eq-Decides}
use Rattle.std.proofs.lemmas.List.{append_cancel_left, take-append-drop, take_at}
use Rattle.std.specs.Cmp.Lexicographic.{pointwise}
use Rattle.std.specs.List.{list_all}
use Rattle.relay_script.specs.Reading.{StandsAfter, IsNotAfter, CutsWord, HasNoSpace, is_no_space}

-- a text that begins with another is it and the rest
front_is : (text front : List ℕ) → pointwise nat_eq (take (length front) text) front ≡ true
    → text ≡ front ++ drop (length front) text
front_is text front test =
    sym (take-append-drop (length front) text)
    ∙ ap (λ l. l ++ drop (length front) text)
    ((slice_eq-Decides {E = nat_eq} Decides-eqb (take (length front) text) front _ refl).0 test)

-- and where the test fails, it begins with something else
front_is_other : (text front rest : List ℕ) → pointwise nat_eq (take (length front) text) front ≡ false → text ≢ front ++ rest
front_is_other text front rest test is =
    let same : take (length front) text ≡ front = ap (take (length front)) is ∙ take_at front rest (length front) refl in
    false≢true (sym test ∙ (slice_eq-Decides {E = nat_eq} Decides-eqb (take (length front) text) front _ refl).1 same)

-- a keyword, then a space
pub keyword_after : (keyword text more rest : List ℕ) → pointwise nat_eq (take (length keyword) text) keyword ≡ true
    → more ≡ drop (length keyword) text → pointwise nat_eq (take 1 more) (32 ∷ []) ≡ true → rest ≡ drop 1 more
    → StandsAfter keyword text rest
keyword_after keyword text more rest front more_is space rest_is = record {
  text_is =
      front_is text keyword front
      ∙ ap (λ l. keyword ++ l) (sym more_is ∙ front_is more (32 ∷ []) space ∙ ap (λ l. 32 ∷ l) (sym rest_is));
}

pub no_keyword : (keyword text : List ℕ) → pointwise nat_eq (take (length keyword) text) keyword ≡ false
    → IsNotAfter keyword text
no_keyword keyword text test = record { absent = λ rest is. front_is_other text keyword (32 ∷ rest) test is }

pub no_space_after : (keyword text more : List ℕ) → pointwise nat_eq (take (length keyword) text) keyword ≡ true
    → more ≡ drop (length keyword) text → pointwise nat_eq (take 1 more) (32 ∷ []) ≡ false → IsNotAfter keyword text
no_space_after keyword text more front more_is space = record {
  absent = λ rest is. front_is_other more (32 ∷ []) rest space
      (append_cancel_left keyword more (32 ∷ rest) (ap (λ l. keyword ++ l) more_is ∙ sym (front_is text keyword front) ∙ is));
}

-- a keyword that is there, or isn't
pub ruleset keyword = (keyword_after, no_keyword, no_space_after)

-- the word before the first space is one
pub one_cut : (text word other rest more : List ℕ) → CutsWord text word rest → CutsWord text other more
    → (word ≡ other) × (rest ≡ more)
one_cut text word other rest more one two = same word other one.free two.free (sym one.text_is ∙ two.text_is)
  where
    same : (word other : List ℕ) → list_all is_no_space word ≡ true → list_all is_no_space other ≡ true
        → word ++ 32 ∷ rest ≡ other ++ 32 ∷ more → (word ≡ other) × (rest ≡ more)
    same [] [] free also e = (refl, let tail : rest ≡ more = cc in tail)
    same [] (o ∷ other) free also e =
        absurd (let space : o ≡ 32 = cc in false≢true
        (sym (ap is_no_space space) ∙ (and_parts (is_no_space o) (list_all is_no_space other) also).0))
    same (o ∷ word) [] free also e =
        absurd (let space : o ≡ 32 = cc in false≢true
        (sym (ap is_no_space space) ∙ (and_parts (is_no_space o) (list_all is_no_space word) free).0))
    same (o ∷ word) (p ∷ other) free also e =
        let head : o ≡ p = cc in
        let tail : word ++ 32 ∷ rest ≡ other ++ 32 ∷ more = cc in
        let below = same word other (and_parts (is_no_space o) (list_all is_no_space word) free).1
        (and_parts (is_no_space p) (list_all is_no_space other) also).1 tail in
        (let front = below.0 in let all : o ∷ word ≡ p ∷ other = cc in all, below.1)

-- a text with a cut has a space
pub space_stands : (text word rest : List ℕ) → HasNoSpace text → CutsWord text word rest → ⊥
space_stands text word rest none cuts = none_in word (sym (ap (list_all is_no_space) cuts.text_is) ∙ none.free)
  where
    none_in : (word : List ℕ) → list_all is_no_space (word ++ 32 ∷ rest) ≡ true → ⊥
    none_in [] e = false≢true e
    none_in (o ∷ word) e = none_in word (and_parts (is_no_space o) (list_all is_no_space (word ++ 32 ∷ rest)) e).1
