-- Links that broke, and the nodes that were told of them.
use Rattle.std.proofs.Common.{inl, inr, ◌≡◌, ◌⊎◌, ◌<◌, ◌≤◌, ◌+◌, ℕ, zero, suc, true, false, List, [], ◌∷◌, ◌++◌, length, Some, refl, sym, subst, ap, ◌∙◌, arith}
use Rattle.std.specs.Prelude.{slice_get, slice_index_or}
use Rattle.std.specs.Option.{is_none}
use Rattle.std.proofs.lemmas.Bool.{cases_lt, true≢false}
use Rattle.std.proofs.lemmas.Option.{same_Some, slice_get_read}
use Rattle.relay_disk.specs.Device.{DiskWords}
use Rattle.relay_world.specs.declared.link.Link.{Link}
use Rattle.relay_world.specs.World.{World, link_at}
use Rattle.relay_events.specs.Told.{IsFirstUntold, LearnsOfBreaks, Tell, TellsSome}
use Rattle.relay_hosts.specs.Links.{is_untold}

module _ {D : Type 0} (honest : Type 0) (words : DiskWords D) where
  -- one end more was told
  pub tell_more : (turns : ℕ) (old now new : World D) (stopped : List ℕ) (number : ℕ) → Tell honest words turns old now stopped
      → IsFirstUntold now number → (were are : List ℕ) → (tells : TellsSome honest words now new number were are)
      → Tell honest words (suc turns) old new (stopped ++ tells.0)
  tell_more turns old now new stopped number told first were are tells =
      (now, (stopped, told, (number, first, (tells.0, tells.1, refl))))

-- of the links up to this number each node was told
abbrev pub ToldUpTo : {D : Type 0} → World D → ℕ → Type 0
ToldUpTo world place =
    (lower : ℕ) (other : Link) → lower ≤ place → link_at world.links lower ≡ Some other → is_untold world.attempts other ≡ false

none_at_first : (links : List Link) (lower : ℕ) (other : Link) → lower ≤ 0 → link_at links lower ≡ Some other → ⊥
none_at_first links zero other least is = absurd (true≢false (ap is_none is))
none_at_first links (suc lower) other least is = absurd (omega (arith, least))

pub told_at_first : {D : Type 0} (world : World D) → ToldUpTo world 0
told_at_first world lower other least is = absurd (none_at_first world.links lower other least is)

pub told_one_more : {D : Type 0} (world : World D) (place : ℕ) (link : Link) → ToldUpTo world place → place < length world.links
    → link ≡ slice_index_or world.links place link → is_untold world.attempts link ≡ false → ToldUpTo world (place + 1)
told_one_more world place link told within there its lower other least is =
    elim (le_or_is lower place least) [
      | inl lower_still ↦ told lower other lower_still is
      | inr at ↦
          let here : link_at world.links (suc place) ≡ Some link =
          slice_get_read world.links (length world.links) place link refl within there in
          let same : other ≡ link = same_Some other link (sym is ∙ ap (λ n. link_at world.links n) at ∙ here) in
          ap (λ l. is_untold world.attempts l) same ∙ its
    ]
  where
    le_or_is : (n m : ℕ) → n ≤ m + 1 → (n ≤ m) ⊎ (n ≡ suc m)
    le_or_is n m less = elim (cases_lt m n) [
      | inl above ↦ inr (omega (arith, less, above))
      | inr below ↦ inl below
    ]

pub get_within : {A : Type 0} (xs : List A) (place : ℕ) (value : A) → slice_get xs place ≡ Some value → place < length xs
get_within [] place value is = absurd (true≢false (ap is_none is))
get_within (x ∷ xs) zero value is = omega arith
get_within (x ∷ xs) (suc place) value is = let less = get_within xs place value is in omega (arith, less)

at_within : (links : List Link) (number : ℕ) (link : Link) → link_at links number ≡ Some link → number ≤ length links
at_within links zero link is = omega arith
at_within links (suc number) link is = let less = get_within links number link is in omega (arith, less)

pub told_of_all : {D : Type 0} (world : World D) (count : ℕ) → count ≡ length world.links → ToldUpTo world count
    → LearnsOfBreaks world
told_of_all world count all told number link is =
    let within = at_within world.links number link is in told number link (omega (arith, within, all)) is

pub first_of_all : {D : Type 0} (world : World D) (place : ℕ) (link : Link) → ToldUpTo world place → place < length world.links
    → link ≡ slice_index_or world.links place link → is_untold world.attempts link ≡ true → IsFirstUntold world (place + 1)
first_of_all world place link told within there its =
    subst (λ n. IsFirstUntold world n) (suc_is place) (record {
      link = link;
      link_is = slice_get_read world.links (length world.links) place link refl within there;
      untold = its;
      first = λ lower other less is. told lower other (omega (arith, less)) is;
    })
  where
    suc_is : (n : ℕ) → suc n ≡ n + 1
    suc_is n = omega arith
