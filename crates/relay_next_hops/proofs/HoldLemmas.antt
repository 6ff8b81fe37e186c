-- When holds end.
use Rattle.std.proofs.Common.{◌≡◌, ◌≢◌, ◌⊎◌, inl, inr, ℕ, ◌+◌, ◌*◌, ◌-◌, ◌^◌, ◌<◌, ◌≤◌, min, Bool, true, false, List, MatchOption, Option, None, Some, option_map, sym, ap, subst, ◌∙◌, refl, arith, if◌then◌else◌}
use Rattle.std.specs.Prelude.{nat_lt, slice_get, slice_set}
use Rattle.std.proofs.lemmas.Bool.{cases_eq, cases_lt}
use Rattle.relay_limits.specs.Pace.{IsHeld, ended_by, held_from, hold_end, next_hold, next_outage, probed, unknown_pace}
use Rattle.relay_limits.specs.declared.pace.Hold.{Hold}
use Rattle.relay_limits.specs.declared.pace.Pace.{Pace}
use Rattle.relay_lanes.specs.Paces.{AddsUnknown, IsHeldAt, changed_at, put_at}
use Rattle.relay_next_hops.specs.Waking.{IsByHolds}
use Rattle.relay_next_hops.proofs.ListingLemmas.{get_beside, get_own, same_found}

-- a hold that goes on ends so
end_is : (tick until : ℕ) (hold : Hold) → hold_end tick (Some hold) ≡ Some until → until ≡ hold.until
end_is tick until hold is = by (nat_lt tick hold.until) is where
  by : (on : Bool) → (if on then Some hold.until else None) ≡ Some until → until ≡ hold.until
  by true is = cc is
  by false is = absurd (cc is)

-- the pace of another lane stays, where one changes
pub changed_others : (change : Pace → Pace) (paces : List Pace) (number other : ℕ) → other ≢ number → slice_get (changed_at change paces number) other ≡ slice_get paces other
changed_others change paces number other apart = by (slice_get paces number) where
  by : (pace : Option Pace) → slice_get (put_at paces number (option_map change pace)) other ≡ slice_get paces other
  by None = refl
  by (Some pace) = get_beside paces number (change pace) other apart

pub changed_itself : (change : Pace → Pace) (paces : List Pace) (number : ℕ) → slice_get (changed_at change paces number) number ≡ option_map change (slice_get paces number)
changed_itself change paces number = by (slice_get paces number) refl where
  by : (pace : Option Pace) → slice_get paces number ≡ pace → slice_get (put_at paces number (option_map change pace)) number ≡ option_map change pace
  by None there = there
  by (Some pace) there = get_own paces number (change pace) pace there

-- one more lane is on hold: the first of all holds ends by its own end, too
pub holds_wake : (tick number seconds end : ℕ) (paces : List Pace) → Some seconds ≡ option_map (λ (pace : Pace). next_hold pace.hold) (slice_get paces number) → IsByHolds tick paces end → IsByHolds tick (changed_at (held_from tick) paces number) (min end (min (tick + seconds * 1000) (2 ^ 64 - 1)))
holds_wake tick number seconds end paces is before lane pace until there ends = by (cases_eq lane number) where
  other : lane ≢ number → min end (min (tick + seconds * 1000) (2 ^ 64 - 1)) ≤ until
  other apart = omega (arith, before lane pace until (sym (changed_others (held_from tick) paces number lane apart) ∙ there) ends)

  own : (found : Option Pace) → Some seconds ≡ option_map (λ (pace : Pace). next_hold pace.hold) found → option_map (held_from tick) found ≡ Some pace → min end (min (tick + seconds * 1000) (2 ^ 64 - 1)) ≤ until
  own None is held = absurd (cc is)
  own (Some it) is held =
      let same : held_from tick it ≡ pace = cc held in
      let long : seconds ≡ next_hold it.hold = cc is in
      let last : until ≡ min (tick + next_hold it.hold * 1000) (2 ^ 64 - 1) = end_is tick until (record { until = min (tick + next_hold it.hold * 1000) (2 ^ 64 - 1); seconds = next_hold it.hold; outage = next_outage tick it.hold }) (ap (λ (pace : Pace). hold_end tick pace.hold) same ∙ ends) in
      omega (arith, last, ap (λ (n : ℕ). n * 1000) long)

  by : (lane ≡ number) ⊎ (lane ≢ number) → min end (min (tick + seconds * 1000) (2 ^ 64 - 1)) ≤ until
  by (inl same) = own (slice_get paces number) is (sym (changed_itself (held_from tick) paces number) ∙ ap (slice_get (changed_at (held_from tick) paces number)) (sym same) ∙ there)
  by (inr apart) = other apart

-- a lane whose hold was ended is on hold no longer
pub probed_free : (tick number : ℕ) (paces : List Pace) → IsHeldAt tick (changed_at (probed tick) paces number) number → ⊥
probed_free tick number paces held = by (slice_get paces number) (subst (λ (pace : Option Pace). MatchOption pace ⊥ (λ pace. IsHeld pace.hold tick)) (changed_itself (probed tick) paces number) held) where
  in_hold : (hold : Option Hold) → IsHeld (ended_by tick hold) tick → ⊥
  in_hold None held = held
  in_hold (Some hold) held = absurd (omega (arith, held))

  by : (pace : Option Pace) → MatchOption (option_map (probed tick) pace) ⊥ (λ pace. IsHeld pace.hold tick) → ⊥
  by None held = held
  by (Some pace) held = in_hold pace.hold held

-- and no lane is that wasn't
pub probed_more : (at tick number : ℕ) (paces : List Pace) (other : ℕ) → IsHeldAt at (changed_at (probed tick) paces number) other → IsHeldAt at paces other
probed_more at tick number paces other held = by (cases_eq other number) where
  in_hold : (hold : Option Hold) → IsHeld (ended_by tick hold) at → IsHeld hold at
  in_hold None held = held
  in_hold (Some hold) held = omega (arith, held)

  own : (pace : Option Pace) → MatchOption (option_map (probed tick) pace) ⊥ (λ pace. IsHeld pace.hold at) → MatchOption pace ⊥ (λ pace. IsHeld pace.hold at)
  own None held = held
  own (Some pace) held = in_hold pace.hold held

  by : (other ≡ number) ⊎ (other ≢ number) → IsHeldAt at paces other
  by (inl same) = subst (λ (n : ℕ). IsHeldAt at paces n) (sym same) (own (slice_get paces number) (subst (λ (pace : Option Pace). MatchOption pace ⊥ (λ pace. IsHeld pace.hold at)) (changed_itself (probed tick) paces number) (subst (λ (n : ℕ). IsHeldAt at (changed_at (probed tick) paces number) n) same held)))
  by (inr apart) = subst (λ (pace : Option Pace). MatchOption pace ⊥ (λ pace. IsHeld pace.hold at)) (changed_others (probed tick) paces number other apart) held

-- lanes that were added aren't on hold
pub grown_free : (tick : ℕ) (old new : List Pace) → AddsUnknown old new → (number : ℕ) → IsHeldAt tick new number → IsHeldAt tick old number
grown_free tick old new grows number held = by (grows number) where
  by : (slice_get new number ≡ slice_get old number) ⊎ ((slice_get old number ≡ None) × (slice_get new number ≡ Some unknown_pace)) → IsHeldAt tick old number
  by (inl same) = subst (λ (pace : Option Pace). MatchOption pace ⊥ (λ pace. IsHeld pace.hold tick)) same held
  by (inr (none, own)) = absurd (subst (λ (pace : Option Pace). MatchOption pace ⊥ (λ pace. IsHeld pace.hold tick)) own held)

-- where there is no such lane, no pace changes
pub none_changed : (tick number seconds : ℕ) (paces : List Pace) → None ≡ option_map (λ (pace : Pace). next_hold pace.hold) (slice_get paces number) → changed_at (held_from tick) paces number ≡ paces
none_changed tick number seconds paces is = by (slice_get paces number) is where
  by : (found : Option Pace) → None ≡ option_map (λ (pace : Pace). next_hold pace.hold) found → put_at paces number (option_map (held_from tick) found) ≡ paces
  by None is = refl
  by (Some pace) is = absurd (cc is)

-- one lane more was gone over
pub ends_next : (tick index end less : ℕ) (paces : List Pace) (pace : Pace) → slice_get paces index ≡ Some pace → less ≤ end → ((until : ℕ) → hold_end tick pace.hold ≡ Some until → less ≤ until) → ((lane : ℕ) (other : Pace) (until : ℕ) → lane < index → slice_get paces lane ≡ Some other → hold_end tick other.hold ≡ Some until → end ≤ until) → (lane : ℕ) (other : Pace) (until : ℕ) → lane < index + 1 → slice_get paces lane ≡ Some other → hold_end tick other.hold ≡ Some until → less ≤ until
ends_next tick index end less paces pace is few own before lane other until below there ends = by (cases_lt lane index) where
  by : (lane < index) ⊎ (index ≤ lane) → less ≤ until
  by (inl low) = omega (arith, few, before lane other until low there ends)
  by (inr high) =
      let same : index ≡ lane = omega (arith, below, high) in
      let it : pace ≡ other = same_found (slice_get paces index) pace other is (ap (slice_get paces) same ∙ there) in
      own until (ap (λ (pace : Pace). hold_end tick pace.hold) it ∙ ends)
