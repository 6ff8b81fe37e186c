-- Values that were read at a place of a list, and links by their numbers.
use Rattle.std.proofs.Common.{◌≡◌, ◌<◌, ◌≤◌, ◌-◌, ℕ, zero, suc, List, [], ◌∷◌, length, Some, refl, sym, subst, ap, ◌∙◌, arith}
use Rattle.std.specs.Prelude.{slice_get, slice_index_or, slice_set}
use Rattle.std.specs.Option.{is_none}
use Rattle.std.proofs.lemmas.Bool.{true≢false}
use Rattle.std.proofs.lemmas.List.{length-set}
use Rattle.std.proofs.lemmas.Option.{same_Some, slice_get_read}
use Rattle.relay_world.specs.declared.link.Link.{Link}
use Rattle.relay_world.specs.Steps.{IsPut, IsPutAt}
use Rattle.relay_world.specs.World.{link_at}
use Rattle.relay_events.proofs.PutLemmas.{put_at, put_set}
use Rattle.relay_events.proofs.TellLemmas.{get_within}

module _ {A : Type 0} where
  -- a value that was read at a place is the one there
  pub value_same : (xs : List A) (place : ℕ) (x value : A) → slice_get xs place ≡ Some x → value ≡ slice_index_or xs place value
      → value ≡ x
  value_same xs place x value is there =
      same_Some value x (sym (slice_get_read xs (length xs) place value refl (get_within xs place x is) there) ∙ is)

  pub value_put : (xs : List A) (place : ℕ) (x value : A) → slice_get xs place ≡ Some x → IsPut xs (slice_set xs place value) place value
  value_put xs place x value is = put_set xs place value (get_within xs place x is)

  pub some_at : (xs : List A) (place : ℕ) → place < length xs → (x : A) × (slice_get xs place ≡ Some x)
  some_at [] place within = absurd (omega (arith, within))
  some_at (x ∷ xs) zero within = (x, refl)
  some_at (x ∷ xs) (suc place) within = some_at xs place (omega (arith, within))

-- a value that is put where it stands changes nothing
pub set_same : {A : Type 0} (xs : List A) (place : ℕ) (x value : A) → slice_get xs place ≡ Some x → value ≡ x
    → slice_set xs place value ≡ xs
set_same [] place x value is same = refl
set_same (y ∷ ys) zero x value is same = ap (λ v. v ∷ ys) (same ∙ sym (same_Some y x is))
set_same (y ∷ ys) (suc place) x value is same = ap (λ l. y ∷ l) (set_same ys place x value is same)

one_back : (n : ℕ) → n ≡ suc n - 1
one_back n = omega arith

pub number_positive : (links : List Link) (number : ℕ) (link : Link) → link_at links number ≡ Some link → 1 ≤ number
number_positive links zero link is = absurd (true≢false (ap is_none is))
number_positive links (suc n) link is = omega arith

-- the link of a number stands at the place before it
pub link_there : (links : List Link) (number : ℕ) (link : Link) → link_at links number ≡ Some link
    → slice_get links (number - 1) ≡ Some link
link_there links zero link is = absurd (true≢false (ap is_none is))
link_there links (suc n) link is = subst (λ m. slice_get links m ≡ Some link) (one_back n) is

pub link_same : (links : List Link) (number : ℕ) (link value : Link) → link_at links number ≡ Some link
    → value ≡ slice_index_or links (number - 1) value → value ≡ link
link_same links number link value is there = value_same links (number - 1) link value (link_there links number link is) there

pub link_put : (links : List Link) (number : ℕ) (link moved : Link) → link_at links number ≡ Some link
    → IsPutAt links (slice_set links (number - 1) moved) number moved
link_put links zero link moved is = absurd (true≢false (ap is_none is))
link_put links (suc n) link moved is =
    let same = length-set links n moved in
    subst (λ m. IsPutAt links (slice_set links m moved) (suc n) moved) (one_back n)
    (put_at links (slice_set links n moved) n moved (omega (arith, same)) (value_put links n link moved is))
