-- The least number outside what three passes found.
use Rattle.std.proofs.Common.{◌≡◌, ◌⊎◌, inl, inr, ℕ, List, [], Contains, ap, subst}
use Rattle.relay_report.specs.Boundary.{StandsIn, numbered, IsTaken, IsBoundary, IsLeastFree, boundary_text, stem_of}
use Rattle.relay_report.specs.Numbers.{Collects, IsLeastOutside, all_begun}
use Rattle.relay_report.proofs.NumberLemmas.{none_in}

-- the least number outside a list that three passes over the parts made is the least free
pub least_is_free : (stem one two three none first second third : List ℕ) (number : ℕ) → none ≡ []
    → Collects stem one none first → Collects stem two first second → Collects stem three second third
    → IsLeastOutside third number → IsLeastFree stem one two three number
least_is_free stem one two three none first second third number empty a b c is = record {
  fits = is.fits;
  free = λ taken. is.outside (found taken);
  least = λ lower low. whose lower (is.below lower low);
}
  where
    found : IsTaken stem one two three number → Contains third number
    found (inl stands) = c.keeps number (b.keeps number (a.finds number is.fits stands))
    found (inr (inl stands)) = c.keeps number (b.finds number is.fits stands)
    found (inr (inr stands)) = c.finds number is.fits stands

    first_is : (k : ℕ) → Contains none k ⊎ StandsIn (numbered stem k) one → IsTaken stem one two three k
    first_is k (inl old) = absurd (none_in k (subst (λ l. Contains l k) empty old))
    first_is k (inr stands) = inl stands

    second_is : (k : ℕ) → Contains first k ⊎ StandsIn (numbered stem k) two → IsTaken stem one two three k
    second_is k (inl old) = first_is k (a.only k old)
    second_is k (inr stands) = inr (inl stands)

    third_is : (k : ℕ) → Contains second k ⊎ StandsIn (numbered stem k) three → IsTaken stem one two three k
    third_is k (inl old) = second_is k (b.only k old)
    third_is k (inr stands) = inr (inr stands)

    whose : (k : ℕ) → Contains third k → IsTaken stem one two three k
    whose k has = third_is k (c.only k has)

-- the boundary of the least number
pub boundary_by : (stem one two three boundary : List ℕ) (number least : ℕ) → stem ≡ stem_of number → IsLeastFree stem one two three least
    → boundary ≡ boundary_text number least → IsBoundary number one two three boundary
boundary_by stem one two three boundary number least stem_is free text_is = record {
  least = least;
  is_least = subst (λ s. IsLeastFree s one two three least) stem_is free;
  boundary_is = text_is;
}

-- the same, for the numbers that begin those of the passes
pub least_of_passes : (stem one two three none first second third slice : List ℕ) (number : ℕ)
    → IsLeastOutside (all_begun slice) number → slice ≡ third → Collects stem three (all_begun second) (all_begun third)
    → Collects stem two (all_begun first) (all_begun second) → Collects stem one (all_begun none) (all_begun first) → none ≡ []
    → IsLeastFree stem one two three number
least_of_passes stem one two three none first second third slice number is same c b a empty =
    least_is_free stem one two three (all_begun none) (all_begun first) (all_begun second) (all_begun third) number (ap all_begun empty) a b c
    (subst (λ l. IsLeastOutside (all_begun l) number) same is)
