-- Where a word stands, seen from its other places.
use Rattle.std.proofs.Common.{◌≡◌, ◌⊎◌, inl, inr, ℕ, ◌+◌, ◌<◌, ◌≤◌, List, Some, length, take, drop, get_or, get_or-drop, get_or-take, length-drop, sym, subst, ap, ◌∙◌, arith}
use Rattle.std.proofs.lemmas.Bool.{cases_lt, eq-eqb}
use Rattle.memchr.specs.Find.{OccursAt, FindsNeedle, IsFirstByte, is_byte}
use Rattle.relay_report.specs.Numbers.{NextIsAfter}

-- a word stands at a place where what is there begins with it
pub stands_there : (text word : List ℕ) (place : ℕ) → place ≤ length text → OccursAt (drop place text) word 0 → OccursAt text word place
stands_there text word place within o = record {
  fits = let short = length-drop place text in omega (arith, o.fits, short, within);
  reads = λ j l.
      let same : j ≡ 0 + j = omega arith in
      sym (get_or-drop place text j 0) ∙ ap (λ p. get_or (drop place text) p 0) same ∙ o.reads j l;
}

-- where it stands at two places, and the second lies in the first one, it begins with its own end
pub overlaps : (text word : List ℕ) (place far : ℕ) → far ≤ length word → OccursAt text word place → OccursAt text word (place + far) → OccursAt word (drop far word) 0
overlaps text word place far short one two = record {
  fits = let less = length-drop far word in omega (arith, less);
  reads = λ j l.
      let less = length-drop far word in
      let first : 0 + j ≡ j = omega arith in
      let same : place + far + j ≡ place + (far + j) = omega arith in
      ap (λ p. get_or word p 0) first ∙ sym (two.reads j (omega (arith, l, less, short))) ∙ ap (λ p. get_or text p 0) same ∙ one.reads (far + j) (omega (arith, l, less, short)) ∙ sym (get_or-drop far word j 0);
}

-- one octet after a place is no later than the next one
pub first_step : (word : List ℕ) → NextIsAfter word 1
first_step word text place far one some near two = absurd (omega (arith, some, near))

-- one octet further, where it doesn't begin with its own end
pub further : (word : List ℕ) (step : ℕ) → step ≤ length word → NextIsAfter word step → (OccursAt word (drop step word) 0 → ⊥) → NextIsAfter word (step + 1)
further word step short so not_here text place far one some near two = split (cases_lt far step)
  where
    split : (far < step) ⊎ (step ≤ far) → ⊥
    split (inl less) = so text place far one some less two
    split (inr more) =
        let same : far ≡ step = omega (arith, more, near) in
        not_here (overlaps text word place step short one (subst (λ f. OccursAt text word (place + f)) same two))

-- the first octet like the word's first one, if the word stands there
pub first_like : (text front word there : List ℕ) (place : ℕ) → 0 < length word → length front ≤ length text → front ≡ take (length front) text
    → IsFirstByte (is_byte (get_or word 0 0)) front (Some place) → there ≡ drop place text → OccursAt there word 0 → FindsNeedle text word 0 (Some place)
first_like text front word there place some within is found there_is occurs = (
  record {
    low = omega arith;
    high = omega (arith, found.0.high, within);
    before = λ k low near o. found.0.before k low near (eq-eqb (get_or front k 0) (get_or word 0 0) (alike k near o));
  },
  stands_there text word place (omega (arith, found.0.high, within)) (subst (λ t. OccursAt t word 0) there_is occurs),
)
  where
    alike : (k : ℕ) → k < place → OccursAt text word k → get_or front k 0 ≡ get_or word 0 0
    alike k near o =
        let same : k ≡ k + 0 = omega arith in
        ap (λ f. get_or f k 0) is ∙ get_or-take (length front) text k 0 (omega (arith, near, found.0.high)) ∙ ap (λ p. get_or text p 0) same ∙ o.reads 0 some
