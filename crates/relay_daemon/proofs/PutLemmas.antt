-- Lists in which one value is put at a place.
use Rattle.std.proofs.Common.{◌≡◌, ◌≢◌, ◌<◌, ◌≤◌, ◌-◌, ℕ, zero, suc, List, [], ◌∷◌, ◌++◌, length, Some, refl, ap, subst, arith, length-append}
use Rattle.std.specs.Prelude.{slice_get, slice_set}
use Rattle.std.specs.Option.{is_none}
use Rattle.std.proofs.lemmas.Bool.{true≢false}
use Rattle.std.proofs.lemmas.List.{length-set}
use Rattle.relay_world.specs.declared.link.Link.{Link}
use Rattle.relay_world.specs.Steps.{IsPut, IsPutAt}
use Rattle.relay_world.specs.World.{link_at}

module _ {A : Type 0} where
  pub get_within : (xs : List A) (place : ℕ) (x : A) → slice_get xs place ≡ Some x → place < length xs
  get_within [] place x is = absurd (true≢false (ap is_none is))
  get_within (y ∷ ys) zero x is = omega arith
  get_within (y ∷ ys) (suc place) x is = let rest = get_within ys place x is in omega (arith, rest)

  get_set_same : (xs : List A) (place : ℕ) (value : A) → place < length xs
      → slice_get (slice_set xs place value) place ≡ Some value
  get_set_same [] place value within = absurd (omega (arith, within))
  get_set_same (x ∷ xs) zero value within = refl
  get_set_same (x ∷ xs) (suc place) value within = get_set_same xs place value (omega (arith, within))

  get_set_other : (xs : List A) (place : ℕ) (value : A) (other : ℕ) → other ≢ place
      → slice_get (slice_set xs place value) other ≡ slice_get xs other
  get_set_other [] place value other off = refl
  get_set_other (x ∷ xs) zero value zero off = absurd (off refl)
  get_set_other (x ∷ xs) zero value (suc other) off = refl
  get_set_other (x ∷ xs) (suc place) value zero off = refl
  get_set_other (x ∷ xs) (suc place) value (suc other) off =
      get_set_other xs place value other (λ same. off (ap suc same))

  get_pushed : (xs : List A) (value : A) → slice_get (xs ++ value ∷ []) (length xs) ≡ Some value
  get_pushed [] value = refl
  get_pushed (x ∷ xs) value = get_pushed xs value

  get_push_other : (xs : List A) (value : A) (other : ℕ) → other ≢ length xs
      → slice_get (xs ++ value ∷ []) other ≡ slice_get xs other
  get_push_other [] value zero off = absurd (off refl)
  get_push_other [] value (suc other) off = refl
  get_push_other (x ∷ xs) value zero off = refl
  get_push_other (x ∷ xs) value (suc other) off = get_push_other xs value other (λ same. off (ap suc same))

  -- the value of a place is replaced
  pub value_put : (xs : List A) (place : ℕ) (x value : A) → slice_get xs place ≡ Some x
      → IsPut xs (slice_set xs place value) place value
  value_put xs place x value is = record {
    at = get_set_same xs place value (get_within xs place x is);
    others = get_set_other xs place value;
  }

  -- a value is added after the last
  pub put_push : (xs : List A) (value : A) → IsPut xs (xs ++ value ∷ []) (length xs) value
  put_push xs value = record { at = get_pushed xs value; others = get_push_other xs value }

at_other : (old new : List Link) (place : ℕ) (link : Link) → IsPut old new place link → (other : ℕ) → other ≢ suc place
    → link_at new other ≡ link_at old other
at_other old new place link put zero off = refl
at_other old new place link put (suc other) off = put.others other (λ same. off (ap suc same))

-- the same of links, whose numbers count from 1
put_at : (old new : List Link) (place : ℕ) (link : Link) → length old ≤ length new → IsPut old new place link
    → IsPutAt old new (suc place) link
put_at old new place link grows put =
    record { at = put.at; others = at_other old new place link put; grows = grows }

pub put_at_push : (links : List Link) (link : Link) → IsPutAt links (links ++ link ∷ []) (suc (length links)) link
put_at_push links link =
    let long = length-append links (link ∷ []) in
    put_at links (links ++ link ∷ []) (length links) link (omega (arith, long)) (put_push links link)

one_back : (n : ℕ) → n ≡ suc n - 1
one_back n = omega arith

pub link_put : (links : List Link) (number : ℕ) (link moved : Link) → link_at links number ≡ Some link
    → IsPutAt links (slice_set links (number - 1) moved) number moved
link_put links zero link moved is = absurd (true≢false (ap is_none is))
link_put links (suc n) link moved is =
    let same = length-set links n moved in
    subst (λ m. IsPutAt links (slice_set links m moved) (suc n) moved) (one_back n)
    (put_at links (slice_set links n moved) n moved (omega (arith, same)) (value_put links n link moved is))
