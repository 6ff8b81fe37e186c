-- How many connections of a lane there are, where one is taken out of the table or put into it, and where those that stand go.
use Rattle.std.proofs.Common.{◌≡◌, ◌≢◌, ◌⊎◌, inl, inr, ℕ, ◌+◌, ◌-◌, ◌==◌, ◌<◌, ◌≤◌, ◌^◌, min, zero, suc, Bool, true, false, eqb, List, [], ◌∷◌, length, Option, None, Some, refl, sym, ap, subst, ◌∙◌, arith, if◌then◌else◌}
use Rattle.std.specs.Prelude.{slice_set}
use Rattle.std.proofs.lemmas.Bool.Decides.{eqb_tells}
use Rattle.relay_limits.specs.declared.pace.Pace.{Pace}
use Rattle.relay_routes.specs.Routes.{Route, place_of}
use Rattle.relay_slots.specs.Slots.{AreFree, OthersStay, slot_at}
use Rattle.relay_connections.specs.Table.{count_of, count_of_such, is_such}
use Rattle.relay_next_hops.specs.Counts.{CountsMatch, CountsMatchWith, is_in}
use Rattle.relay_next_hops.specs.Deliveries.{AreAimed, IsAimed, KeepsDelivery, left_of}
use Rattle.relay_lanes.specs.Paces.{RunAsBefore, RunsOneLess, RunsOneMore, running_at}
use Rattle.relay_next_hops.specs.declared.delivery.Aim.{Aim}
use Rattle.relay_next_hops.specs.declared.delivery.Course.{Course}
use Rattle.relay_next_hops.specs.declared.delivery.Course.TheVariants.{Stays, Ended, Lost, TurnedAway, Void}
use Rattle.relay_next_hops.specs.declared.hop.Hop.{Hop}

-- a slot in which something stands is one of the table's
pub some_within : {A : Type 0} (slots : List (Option A)) (number : ℕ) (value : A) → slot_at slots number ≡ Some value → number < length slots
some_within [] number value there = absurd (cc there)
some_within (slot ∷ slots) zero value there = omega arith
some_within (slot ∷ slots) (suc number) value there = omega (arith, some_within slots number value there)

-- what stands in a slot that was set
pub set_there : {A : Type 0} (slots : List (Option A)) (number : ℕ) (value : Option A) → number < length slots → slot_at (slice_set slots number value) number ≡ value
set_there [] number value low = absurd (omega (arith, low))
set_there (slot ∷ slots) zero value low = refl
set_there (slot ∷ slots) (suc number) value low = set_there slots number value (omega (arith, low))

-- the others are the same
pub set_beside : {A : Type 0} (slots : List (Option A)) (number : ℕ) (value : Option A) → OthersStay slots (slice_set slots number value) number
set_beside [] number value other apart = refl
set_beside (slot ∷ slots) zero value zero apart = absurd (apart refl)
set_beside (slot ∷ slots) zero value (suc other) apart = refl
set_beside (slot ∷ slots) (suc number) value zero apart = refl
set_beside (slot ∷ slots) (suc number) value (suc other) apart = set_beside slots number value other (λ same. apart (ap suc same))

pub length_set : {A : Type 0} (slots : List (Option A)) (number : ℕ) (value : Option A) → length (slice_set slots number value) ≡ length slots
length_set [] number value = refl
length_set (slot ∷ slots) zero value = refl
length_set (slot ∷ slots) (suc number) value = ap suc (length_set slots number value)

-- a slot is 1 where such a one stands in it
abbrev one : {A : Type 0} → (A → Bool) → Option A → ℕ
one such slot = if is_such such slot then 1 else 0

-- how many such stand, where a slot is set
pub count_set : {A : Type 0} (such : A → Bool) (slots : List (Option A)) (number : ℕ) (value : Option A) → number < length slots → one such (slot_at slots number) + count_of_such such (slice_set slots number value) ≡ one such value + count_of_such such slots
count_set such [] number value low = absurd (omega (arith, low))
count_set such (slot ∷ slots) zero value low = omega arith
count_set such (slot ∷ slots) (suc number) value low =
    omega (arith, count_set such slots number value (omega (arith, low)))

module _ {S : Type 0} (hops : List (Option (Hop S))) (number : ℕ) where
  -- one that is taken out is counted beside the table
  pub counts_taken : (hop : Hop S) (paces : List Pace) → slot_at hops number ≡ Some hop → CountsMatch hops paces → CountsMatchWith hop (slice_set hops number None) paces
  counts_taken hop paces there match_is lane =
      let set : one (is_in lane) (slot_at hops number) + count_of_such (is_in lane) (slice_set hops number None) ≡ 0 + count_of_such (is_in lane) hops = count_set (is_in lane) hops number None (some_within hops number hop there) in
      let own : one (is_in lane) (slot_at hops number) ≡ one (is_in lane) (Some hop) = ap (one (is_in lane)) there in
      let counted : running_at paces lane ≡ count_of_such (is_in lane) hops = match_is lane in
      omega (arith, set, own, counted)

  -- one that is put under a free number is counted in it
  pub counts_put : (hop : Hop S) (paces : List Pace) → slot_at hops number ≡ None → number < length hops → CountsMatchWith hop hops paces → CountsMatch (slice_set hops number (Some hop)) paces
  counts_put hop paces free low match_is lane =
      let set : one (is_in lane) (slot_at hops number) + count_of_such (is_in lane) (slice_set hops number (Some hop)) ≡ one (is_in lane) (Some hop) + count_of_such (is_in lane) hops = count_set (is_in lane) hops number (Some hop) low in
      let none : one (is_in lane) (slot_at hops number) ≡ 0 = ap (one (is_in lane)) free in
      let counted : running_at paces lane ≡ one (is_in lane) (Some hop) + count_of_such (is_in lane) hops =
      match_is lane in
      omega (arith, set, none, counted)

-- where as many run as before, the counts match as before
pub counts_stay : {S : Type 0} (hops : List (Option (Hop S))) (old new : List Pace) → RunAsBefore old new → CountsMatch hops old → CountsMatch hops new
counts_stay hops old new same match_is lane = same lane ∙ match_is lane

pub counts_with_stay : {S : Type 0} (hop : Hop S) (hops : List (Option (Hop S))) (old new : List Pace) → RunAsBefore old new → CountsMatchWith hop hops old → CountsMatchWith hop hops new
counts_with_stay hop hops old new same match_is lane = same lane ∙ match_is lane

-- where one is gone, one less of its lane runs
pub counts_ended : {S : Type 0} (hop : Hop S) (hops : List (Option (Hop S))) (old new : List Pace) → RunsOneLess hop.aim.lane old new → CountsMatchWith hop hops old → CountsMatch hops new
counts_ended hop hops old new less match_is lane = by (eqb_tells hop.aim.lane lane) where
  by : ((eqb hop.aim.lane lane ≡ true) × (hop.aim.lane ≡ lane)) ⊎ ((eqb hop.aim.lane lane ≡ false) × (hop.aim.lane ≢ lane)) → running_at new lane ≡ count_of_such (is_in lane) hops
  by (inl own) =
      let less_is : running_at new lane ≡ running_at old lane - 1 = subst (λ (lane : ℕ). running_at new lane ≡ running_at old lane - 1) own.1 less.own in
      let is : one (is_in lane) (Some hop) ≡ 1 = ap (λ (is : Bool). if is then 1 else 0) own.0 in
      let counted : running_at old lane ≡ one (is_in lane) (Some hop) + count_of_such (is_in lane) hops =
      match_is lane in
      omega (arith, less_is, is, counted)
  by (inr apart) =
      let same : running_at new lane ≡ running_at old lane = less.others lane (λ same. apart.1 (sym same)) in
      let is : one (is_in lane) (Some hop) ≡ 0 = ap (λ (is : Bool). if is then 1 else 0) apart.0 in
      let counted : running_at old lane ≡ one (is_in lane) (Some hop) + count_of_such (is_in lane) hops =
      match_is lane in
      omega (arith, same, is, counted)

-- there are at most as many such as slots
pub count_within : {A : Type 0} (such : A → Bool) (slots : List (Option A)) → count_of_such such slots ≤ length slots
count_within such [] = omega arith
count_within such (slot ∷ slots) = by (is_such such slot) (count_within such slots) where
  by : (is : Bool) → count_of_such such slots ≤ length slots → (if is then 1 else 0) + count_of_such such slots ≤ suc (length slots)
  by true rest = omega (arith, rest)
  by false rest = omega (arith, rest)

-- there are no more such than all
count_fewer : {A : Type 0} (such : A → Bool) (slots : List (Option A)) → count_of_such such slots ≤ count_of slots
count_fewer such [] = omega arith
count_fewer such (slot ∷ slots) = by slot (count_fewer such slots) where
  by : (slot : Option _) → count_of_such such slots ≤ count_of slots → count_of_such such (slot ∷ slots) ≤ count_of (slot ∷ slots)
  by None rest = omega (arith, rest)
  by (Some value) rest = by_such (such value) where
    by_such : (is : Bool) → (if is then 1 else 0) + count_of_such such slots ≤ 1 + count_of slots
    by_such true = omega (arith, rest)
    by_such false = omega (arith, rest)

-- slots that hold the same hold as many
same_count : {A : Type 0} (one other : List (Option A)) → ((number : ℕ) → slot_at one number ≡ slot_at other number) → count_of one ≡ count_of other
same_count [] [] same = refl
same_count [] (None ∷ other) same = omega (arith, same_count [] other (λ number. same (suc number)))
same_count [] (Some value ∷ other) same = absurd (cc (same zero))
same_count (None ∷ one) [] same = omega (arith, same_count one [] (λ number. same (suc number)))
same_count (Some value ∷ one) [] same = absurd (cc (same zero))
same_count (None ∷ one) (None ∷ other) same = omega (arith, same_count one other (λ number. same (suc number)))
same_count (None ∷ one) (Some value ∷ other) same = absurd (cc (same zero))
same_count (Some value ∷ one) (None ∷ other) same = absurd (cc (same zero))
same_count (Some value ∷ one) (Some value_2 ∷ other) same =
    omega (arith, same_count one other (λ number. same (suc number)))

-- there are as many as stand, and so at most as many as there are slots up to the last of these
pub few_stand : {A : Type 0} (slots standing : List (Option A)) → ((number : ℕ) → slot_at standing number ≡ slot_at slots number) → length standing ≤ 64 → count_of slots ≤ 64
few_stand slots standing same within = omega (arith, within, same_count standing slots same, count_within (λ value. true) standing)

-- where one was put, one more of its lane runs
pub counts_begun : {S : Type 0} (hop : Hop S) (hops : List (Option (Hop S))) (old new : List Pace) → count_of hops ≤ 64 → RunsOneMore hop.aim.lane old new → CountsMatch hops old → CountsMatchWith hop hops new
counts_begun hop hops old new within more match_is lane = by (eqb_tells hop.aim.lane lane) where
  by : ((eqb hop.aim.lane lane ≡ true) × (hop.aim.lane ≡ lane)) ⊎ ((eqb hop.aim.lane lane ≡ false) × (hop.aim.lane ≢ lane)) → running_at new lane ≡ one (is_in lane) (Some hop) + count_of_such (is_in lane) hops
  by (inl own) =
      let more_is : running_at new lane ≡ min (running_at old lane + 1) (2 ^ 64 - 1) = subst (λ (lane : ℕ). running_at new lane ≡ min (running_at old lane + 1) (2 ^ 64 - 1)) own.1 more.own in
      let is : one (is_in lane) (Some hop) ≡ 1 = ap (λ (is : Bool). if is then 1 else 0) own.0 in
      let counted : running_at old lane ≡ count_of_such (is_in lane) hops = match_is lane in
      omega (arith, more_is, is, counted, within, count_fewer (is_in lane) hops)
  by (inr apart) =
      let same : running_at new lane ≡ running_at old lane = more.others lane (λ same. apart.1 (sym same)) in
      let is : one (is_in lane) (Some hop) ≡ 0 = ap (λ (is : Bool). if is then 1 else 0) apart.0 in
      let counted : running_at old lane ≡ count_of_such (is_in lane) hops = match_is lane in
      omega (arith, same, is, counted)

-- those of a table are aimed where one is taken out
pub aimed_taken : {S : Type 0} (routes : List Route) (hops : List (Option (Hop S))) (number : ℕ) → AreAimed routes hops → AreAimed routes (slice_set hops number None)
aimed_taken routes hops number aimed other hop there = by (eqb_tells other number) where
  by : ((eqb other number ≡ true) × (other ≡ number)) ⊎ ((eqb other number ≡ false) × (other ≢ number))
      → IsAimed routes hop
  by (inl own) = absurd (cc (sym there ∙ ap (slot_at (slice_set hops number None)) own.1 ∙ set_there hops number None low)) where
    low : number < length hops
    low = subst (λ (length : ℕ). number < length) (length_set hops number None) (some_within (slice_set hops number None) number hop (ap (slot_at (slice_set hops number None)) (sym own.1) ∙ there))
  by (inr apart) = aimed other hop (sym (set_beside hops number None other apart.1) ∙ there)

-- and where one is put that is aimed
pub aimed_put : {S : Type 0} (routes : List Route) (hops : List (Option (Hop S))) (number : ℕ) (hop : Hop S) → IsAimed routes hop → AreAimed routes hops → AreAimed routes (slice_set hops number (Some hop))
aimed_put routes hops number hop is aimed other standing there = by (eqb_tells other number) where
  by : ((eqb other number ≡ true) × (other ≡ number)) ⊎ ((eqb other number ≡ false) × (other ≢ number)) → IsAimed routes standing
  by (inl own) = subst (IsAimed routes) same is where
    low : number < length hops
    low = subst (λ (length : ℕ). number < length) (length_set hops number (Some hop)) (some_within (slice_set hops number (Some hop)) number standing (ap (slot_at (slice_set hops number (Some hop))) (sym own.1) ∙ there))

    same : hop ≡ standing
    same = cc (sym (set_there hops number (Some hop) low) ∙ ap (slot_at (slice_set hops number (Some hop))) (sym own.1) ∙ there)
  by (inr apart) = aimed other standing (sym (set_beside hops number (Some hop) other apart.1) ∙ there)

-- what keeps its delivery is aimed as before
pub keeps_aim : {S : Type 0} (routes : List Route) (old new : Hop S) → KeepsDelivery old new → IsAimed routes old → IsAimed routes new
keeps_aim routes old new keeps is = subst (λ (name : List ℕ). place_of routes name ≡ Some new.aim.at) (sym keeps.name) (is ∙ ap (λ aim. Some aim.at) (sym keeps.aim))

-- in a free table none stands
pub free_at : {A : Type 0} (slots : List (Option A)) → AreFree slots → (number : ℕ) → slot_at slots number ≡ None
free_at [] free number = refl
free_at (None ∷ slots) free zero = refl
free_at (None ∷ slots) free (suc number) = free_at slots free number
free_at (Some value ∷ slots) free number = absurd free

pub none_counted : {A : Type 0} (such : A → Bool) (slots : List (Option A)) → AreFree slots
    → count_of_such such slots ≡ 0
none_counted such [] free = refl
none_counted such (None ∷ slots) free = omega (arith, none_counted such slots free)
none_counted such (Some value ∷ slots) free = absurd free

-- a connection that keeps its delivery counts as before
pub counts_keep : {S : Type 0} (old new : Hop S) (hops : List (Option (Hop S))) (paces : List Pace) → KeepsDelivery old new → CountsMatchWith old hops paces → CountsMatchWith new hops paces
counts_keep old new hops paces keeps match_is lane = match_is lane ∙ ap (λ (aim : Aim). (if aim.lane == lane then 1 else 0) + count_of_such (is_in lane) hops) (sym keeps.aim)

-- of one that doesn't stay nothing is left
pub left_none : {S : Type 0} (course : Course) (hop : Hop S) → course ≢ Stays → left_of course hop ≡ None
left_none Stays hop apart = absurd (apart refl)
left_none (Ended outbox noted) hop apart = refl
left_none (Lost loss) hop apart = refl
left_none TurnedAway hop apart = refl
left_none Void hop apart = refl

-- where nothing stands in any slot, the table is free
pub free_of : {A : Type 0} (slots : List (Option A)) → ((number : ℕ) → slot_at slots number ≡ None) → AreFree slots
free_of [] none = tt
free_of (None ∷ slots) none = free_of slots (λ number. none (suc number))
free_of (Some value ∷ slots) none = absurd (cc (none zero))

-- where nothing stands, taking it out changes nothing
pub none_taken : {A : Type 0} (slots : List (Option A)) (number : ℕ) → slot_at slots number ≡ None → slice_set slots number None ≡ slots
none_taken [] number there = refl
none_taken (slot ∷ slots) zero there = ap (λ slot. slot ∷ slots) (sym there)
none_taken (slot ∷ slots) (suc number) there = ap (λ slots. slot ∷ slots) (none_taken slots number there)

module _ {S : Type 0} (hops : List (Option (Hop S))) (number : ℕ) (hop : Hop S) (there : slot_at hops number ≡ Some hop) where
  pub taken_free : slot_at (slice_set hops number None) number ≡ None
  taken_free = set_there hops number None (some_within hops number hop there)

  pub taken_low : number < length (slice_set hops number None)
  taken_low = subst (λ (length : ℕ). number < length) (sym (length_set hops number None))
      (some_within hops number hop there)

  -- one that is taken out and put back with its delivery counts as before, and is aimed as before
  pub counts_back : (after : Hop S) (paces : List Pace) → KeepsDelivery hop after → CountsMatch hops paces → CountsMatch (slice_set (slice_set hops number None) number (Some after)) paces
  counts_back after paces keeps match_is =
      counts_put (slice_set hops number None) number after paces taken_free taken_low (counts_keep hop after (slice_set hops number None) paces keeps (counts_taken hops number hop paces there match_is))

  pub aimed_back : (routes : List Route) (after : Hop S) → KeepsDelivery hop after → AreAimed routes hops → AreAimed routes (slice_set (slice_set hops number None) number (Some after))
  aimed_back routes after keeps aimed = aimed_put routes (slice_set hops number None) number after (keeps_aim routes hop after keeps (aimed number hop there)) (aimed_taken routes hops number aimed)

  -- what is left of the counts while it is worked on, and it has its delivery
  pub counts_out : (after : Hop S) (old new : List Pace) → KeepsDelivery hop after → RunAsBefore old new → CountsMatch hops old → CountsMatchWith after (slice_set hops number None) new
  counts_out after old new keeps same match_is =
      counts_with_stay after (slice_set hops number None) old new same (counts_keep hop after (slice_set hops number None) old keeps (counts_taken hops number hop old there match_is))

below_or_after : (number next : ℕ) → (number < next) ⊎ (next ≤ number)
below_or_after zero zero = inr (omega arith)
below_or_after zero (suc next) = inl (omega arith)
below_or_after (suc number) zero = inr (omega arith)
below_or_after (suc number) (suc next) = by (below_or_after number next) where
  by : (number < next) ⊎ (next ≤ number) → (suc number < suc next) ⊎ (suc next ≤ suc number)
  by (inl below) = inl (omega (arith, below))
  by (inr afterwards) = inr (omega (arith, afterwards))

-- what a table says of a value that was put under a number
module _ {S : Type 0} (old new : List (Option (Hop S))) (number : ℕ) (hop : Hop S) (stands : number < length old → new ≡ slice_set old number (Some hop)) (past : length old ≤ number → new ≡ old) where
  pub put_beside : OthersStay old new number
  put_beside other apart = by (below_or_after number (length old)) where
    by : (number < length old) ⊎ (length old ≤ number) → slot_at new other ≡ slot_at old other
    by (inl low) = ap (λ hops. slot_at hops other) (stands low) ∙ set_beside old number (Some hop) other apart
    by (inr high) = ap (λ hops. slot_at hops other) (past high)

  pub put_there : number < length old → slot_at new number ≡ Some hop
  put_there low = ap (λ hops. slot_at hops number) (stands low) ∙ set_there old number (Some hop) low

  pub put_aimed : (routes : List Route) → IsAimed routes hop → AreAimed routes old → AreAimed routes new
  put_aimed routes is aimed = by (below_or_after number (length old)) where
    by : (number < length old) ⊎ (length old ≤ number) → AreAimed routes new
    by (inl low) = subst (AreAimed routes) (sym (stands low)) (aimed_put routes old number hop is aimed)
    by (inr high) = subst (AreAimed routes) (sym (past high)) aimed

  pub put_counts : (paces : List Pace) → slot_at old number ≡ None → number < length old → CountsMatchWith hop old paces → CountsMatch new paces
  put_counts paces free low match_is = subst (λ hops. CountsMatch hops paces) (sym (stands low)) (counts_put old number hop paces free low match_is)

pub set_none_there : {A : Type 0} (slots : List (Option A)) (number : ℕ) → slot_at (slice_set slots number None) number ≡ None
set_none_there [] number = refl
set_none_there (slot ∷ slots) zero = refl
set_none_there (slot ∷ slots) (suc number) = set_none_there slots number

pub none_stays : {A : Type 0} (slots : List (Option A)) (number other : ℕ) → slot_at slots other ≡ None → slot_at (slice_set slots number None) other ≡ None
none_stays [] number other there = there
none_stays (slot ∷ slots) zero zero there = refl
none_stays (slot ∷ slots) zero (suc other) there = there
none_stays (slot ∷ slots) (suc number) zero there = there
none_stays (slot ∷ slots) (suc number) (suc other) there = none_stays slots number other there

-- where nothing stood before a slot that is emptied, nothing stands in it, nor before it
pub cleared_more : {A : Type 0} (slots new : List (Option A)) (number : ℕ) → new ≡ slice_set slots number None → ((other : ℕ) → other < number → slot_at slots other ≡ None) → (other : ℕ) → other < number + 1 → slot_at new other ≡ None
cleared_more slots new number is before other low = by (below_or_after other number) where
  by : (other < number) ⊎ (number ≤ other) → slot_at new other ≡ None
  by (inl below) = ap (λ slots. slot_at slots other) is ∙ none_stays slots number other (before other below)
  by (inr afterwards) = ap (λ slots. slot_at slots other) is ∙ ap (slot_at (slice_set slots number None)) same ∙ set_none_there slots number where
    same : other ≡ number
    same = omega (arith, low, afterwards)

pub all_cleared : {A : Type 0} (slots : List (Option A)) (number count : ℕ) → count ≤ number → ((other : ℕ) → other < number → slot_at slots other ≡ None) → ((other : ℕ) → count ≤ other → slot_at slots other ≡ None) → AreFree slots
all_cleared slots number count past before afterwards =
    free_of slots (λ other. by other (below_or_after other number)) where
      by : (other : ℕ) → (other < number) ⊎ (number ≤ other) → slot_at slots other ≡ None
      by other (inl low) = before other low
      by other (inr high) = afterwards other (omega (arith, past, high))

-- One is taken out, and worked on; it keeps its delivery.
module _ {S : Type 0} (hops taken : List (Option (Hop S))) (number : ℕ) (hop after : Hop S) (there : Some hop ≡ slot_at hops number) (rest : taken ≡ slice_set hops number None) (keeps : KeepsDelivery hop after) where
  pub out_free : slot_at taken number ≡ None
  out_free = ap (λ hops. slot_at hops number) rest ∙ taken_free hops number hop (sym there)

  pub out_low : number < length taken
  out_low = subst (λ (hops : List (Option (Hop S))). number < length hops) (sym rest)
      (taken_low hops number hop (sym there))

  pub out_counts : (old new : List Pace) → RunAsBefore old new → CountsMatch hops old → CountsMatchWith after taken new
  out_counts old new same match_is = subst (λ (hops : List (Option (Hop S))). CountsMatchWith after hops new) (sym rest) (counts_out hops number hop (sym there) after old new keeps same match_is)

  pub out_aimed : (routes : List Route) → AreAimed routes hops → AreAimed routes taken
  out_aimed routes aimed = subst (AreAimed routes) (sym rest) (aimed_taken routes hops number aimed)

  pub out_aim : (routes : List Route) → AreAimed routes hops → IsAimed routes after
  out_aim routes aimed = keeps_aim routes hop after keeps (aimed number hop (sym there))

  module _ (new : List (Option (Hop S))) (stands : number < length taken → new ≡ slice_set taken number (Some after)) where
    pub back_counts : (paces : List Pace) → CountsMatch hops paces → CountsMatch new paces
    back_counts paces match_is = subst (λ (hops : List (Option (Hop S))). CountsMatch hops paces) (sym (stands out_low)) (counts_put taken number after paces out_free out_low (out_counts paces paces (λ lane. refl) match_is))

    pub back_aimed : (routes : List Route) → AreAimed routes hops → AreAimed routes new
    back_aimed routes aimed = subst (AreAimed routes) (sym (stands out_low)) (aimed_put routes taken number after (out_aim routes aimed) (out_aimed routes aimed))

-- what isn't there is none
pub is_none : {A : Type 0} (found : Option A) → ((value : A) → found ≡ Some value → ⊥) → found ≡ None
is_none None none = refl
is_none (Some value) none = absurd (none value refl)

pub counts_same : {S : Type 0} (hops taken : List (Option (Hop S))) (number : ℕ) (paces : List Pace) → slot_at hops number ≡ None → taken ≡ slice_set hops number None → CountsMatch hops paces → CountsMatch taken paces
counts_same {S} hops taken number paces none rest match_is = subst (λ (hops : List (Option (Hop S))). CountsMatch hops paces) (sym (rest ∙ none_taken hops number none)) match_is

-- a table without a connection matches lanes of which none runs
pub free_aimed : {S : Type 0} (routes : List Route) (hops : List (Option (Hop S))) → AreFree hops → AreAimed routes hops
free_aimed routes hops free number hop there = absurd (cc (sym there ∙ free_at hops free number))

pub free_counts : {S : Type 0} (hops : List (Option (Hop S))) (paces : List Pace) → AreFree hops → paces ≡ [] → CountsMatch hops paces
free_counts hops paces free none lane = ap (λ (paces : List Pace). running_at paces lane) none ∙ sym (none_counted (is_in lane) hops free)
