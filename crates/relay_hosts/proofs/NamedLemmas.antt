-- The node that a hop is.
use Rattle.std.proofs.Common.{inl, inr, ◌≡◌, ◌≢◌, ◌⊎◌, ◌<◌, ◌+◌, ℕ, zero, suc, true, false, List, [], ◌∷◌, length, Some, refl, sym, ap, ◌∙◌, arith, bytes_eq}
use Rattle.std.specs.Prelude.{slice_get, slice_index_or}
use Rattle.std.specs.Option.{is_none}
use Rattle.std.proofs.lemmas.Bool.{cases_lt, true≢false}
use Rattle.std.proofs.lemmas.Option.{same_Some, slice_get_read}
use Rattle.std.proofs.lemmas.Slice.Eq.{bytes_eq-Decides}
use Rattle.relay_world.specs.World.{Host}
use Rattle.relay_hosts.specs.Named.{IsFirstNamed, NoneIsNamed, NoneIsNamedBefore}

module _ {D : Type 0} (hosts : List (Host D)) (name : List ℕ) where
  pub none_at_first : NoneIsNamedBefore hosts name 0
  none_at_first node host below at = absurd (omega (arith, below))

  other_name : (host : Host D) → bytes_eq host.config.host name ≡ false → host.config.host ≢ name
  other_name host is same = true≢false (sym ((bytes_eq-Decides host.config.host name).1 same) ∙ is)

  pub none_one_more : (place : ℕ) (host : Host D) → NoneIsNamedBefore hosts name place → place < length hosts
      → host ≡ slice_index_or hosts place host → bytes_eq host.config.host name ≡ false
      → NoneIsNamedBefore hosts name (place + 1)
  none_one_more place host none within there its node other below at =
      elim (below_or_is node place below) [
        | inl lower ↦ none node other lower at
        | inr is ↦
            let here : slice_get hosts place ≡ Some host = slice_get_read hosts (length hosts) place host refl within there in
            let same : other ≡ host = same_Some other host (sym at ∙ ap (λ (n : ℕ). slice_get hosts n) is ∙ here) in
            (λ named. other_name host its (sym (ap (λ (h : Host D). h.config.host) same) ∙ named))
      ]
    where
      below_or_is : (n m : ℕ) → n < m + 1 → (n < m) ⊎ (n ≡ m)
      below_or_is n m less = elim (cases_lt n m) [
        | inl lower ↦ inl lower
        | inr above ↦ inr (omega (arith, less, above))
      ]

  pub first_named : (place : ℕ) (host : Host D) → NoneIsNamedBefore hosts name place → place < length hosts
      → host ≡ slice_index_or hosts place host → bytes_eq host.config.host name ≡ true → IsFirstNamed hosts name place
  first_named place host none within there its = record {
    host = host;
    host_at = slice_get_read hosts (length hosts) place host refl within there;
    named = (bytes_eq-Decides host.config.host name).0 its;
    first = none;
  }

  pub none_of_all : (place : ℕ) → place ≡ length hosts → NoneIsNamedBefore hosts name place → NoneIsNamed hosts name
  none_of_all place all none node host at =
      let within = get_within hosts node host at in none node host (omega (arith, within, all)) at
    where
      get_within : (xs : List (Host D)) (n : ℕ) (value : Host D) → slice_get xs n ≡ Some value → n < length xs
      get_within [] n value is = absurd (true≢false (ap is_none is))
      get_within (x ∷ xs) zero value is = omega arith
      get_within (x ∷ xs) (suc n) value is = let less = get_within xs n value is in omega (arith, less)
