-- A flush goes over held places one by one: those that were listed stay so, and are counted.
use Rattle.std.proofs.Common.{◌≡◌, ◌⊎◌, inl, inr, ℕ, ◌+◌, ◌<◌, ◌≤◌, zero, suc, Bool, true, false, List, [], ◌∷◌, length, take, get_or, MatchOption, Option, None, Some, Result, Ok, Err, cond, sym, ap, subst, ◌∙◌, arith, if◌then◌else◌}
use Rattle.std.specs.Prelude.{IfErr, OnErr, count_by, slice_get}
use Rattle.std.proofs.lemmas.Bool.{cases_lt}
use Rattle.std.proofs.lemmas.List.Sums.{count_by_more_no, count_by_more_yes, sum_by-cons}
use Rattle.relay_control.specs.declared.held.Held.{Held}
use Rattle.relay_control.specs.declared.scope.Scope.{Scope}
use Rattle.relay_routes.specs.declared.hop.Hop.{Hop as NextHop}
use Rattle.relay_node.specs.Node.{NodeState}
use Rattle.relay_next_hops.specs.Lanes.{HoldsNoMore, ListsMore}
use Rattle.relay_next_hops.specs.Listing.{HasEarlyTurn, KeepsListed}
use Rattle.relay_next_hops.specs.Steering.{EndsHold, IsFlushed, IsOffHold, hop_of_mark, is_flushed}
use Rattle.relay_next_hops.specs.declared.hop.Hop.{Hop}
use Rattle.relay_next_hops.specs.declared.lanes.Lanes.{Lanes}
use Rattle.relay_next_hops.proofs.ListingLemmas.{early_kept, same_found}

-- the same where the same mail is held
pub flushed_same : {D : Type 0} (node : NodeState D) (scope : Option Scope) (mark : ℕ × ℕ) (held other : Held) (flushed : Bool) → other ≡ held → flushed ≡ is_flushed node other scope mark → flushed ≡ is_flushed node held scope mark
flushed_same node scope mark held other flushed same is = is ∙ ap (λ (held : Held). is_flushed node held scope mark) same

-- what is found has a place among the others
pub low_of : {A : Type 0} (xs : List A) (n : ℕ) (x : A) → slice_get xs n ≡ Some x → n < length xs
low_of [] n x there = absurd (cc there)
low_of (y ∷ ys) zero x there = omega arith
low_of (y ∷ ys) (suc n) x there = omega (arith, low_of ys n x there)

-- one more is counted, if it passes
pub counted_next : {A : Type 0} (test : A → Bool) (marks : List A) (n count : ℕ) (d : A) (passes : Bool) → n < length marks → passes ≡ test (get_or marks n d) → count ≡ count_by test (take n marks) → (if passes then count + 1 else count) ≡ count_by test (take (n + 1) marks)
counted_next test marks n count d true low is before = ap (λ (k : ℕ). k + 1) before ∙ sym (count_by_more_yes test marks n d low (sym is))
counted_next test marks n count d false low is before = before ∙ sym (count_by_more_no test marks n d low (sym is))

module _ {D S : Type 0} (node : NodeState D) (hops : List (Option (Hop S))) (old new : Lanes) (more : ListsMore old new) (kept : KeepsListed old new) where
  pub flushed_kept : (mark : ℕ × ℕ) → IsFlushed node hops mark old → IsFlushed node hops mark new
  flushed_kept mark listed = by (hop_of_mark node mark) listed where
    by : (hop : Option NextHop) → MatchOption hop ⊥ (λ hop. HasEarlyTurn hops mark.0 hop.name hop.at old) → MatchOption hop ⊥ (λ hop. HasEarlyTurn hops mark.0 hop.name hop.at new)
    by None listed = listed
    by (Some hop) listed = early_kept old new more kept hops mark.0 hop.name hop.at listed

  -- one more was gone over
  pub each_next : (held : Held) (scope : Option Scope) (marks : List (ℕ × ℕ)) (n : ℕ) (mark : ℕ × ℕ) → slice_get marks n ≡ Some mark → (is_flushed node held scope mark ≡ true → IsFlushed node hops mark new) → ((step : ℕ) (other : ℕ × ℕ) → step < n → slice_get marks step ≡ Some other → is_flushed node held scope other ≡ true → IsFlushed node hops other old) → (step : ℕ) (other : ℕ × ℕ) → step < n + 1 → slice_get marks step ≡ Some other → is_flushed node held scope other ≡ true → IsFlushed node hops other new
  each_next held scope marks n mark is own before step other below there flushed = by (cases_lt step n) where
    by : (step < n) ⊎ (n ≤ step) → IsFlushed node hops other new
    by (inl low) = flushed_kept other (before step other low there flushed)
    by (inr high) = subst (λ (mark : ℕ × ℕ). is_flushed node held scope mark ≡ true → IsFlushed node hops mark new) same own flushed where
      place : n ≡ step
      place = omega (arith, below, high)

      same : mark ≡ other
      same = same_found (slice_get marks n) mark other is (ap (slice_get marks) place ∙ there)

-- A lane that isn't on hold stays so, where none is that wasn't.
module _ {D : Type 0} (node : NodeState D) (tick : ℕ) (old new : Lanes) (more : ListsMore old new) (holds : HoldsNoMore old new) where
  pub off_kept : (mark : ℕ × ℕ) → EndsHold node tick mark old → EndsHold node tick mark new
  off_kept mark off = by (hop_of_mark node mark) off where
    by : (hop : Option NextHop) → MatchOption hop ⊥ (λ hop. IsOffHold tick hop.at old) → MatchOption hop ⊥ (λ hop. IsOffHold tick hop.at new)
    by None off = off
    by (Some hop) off = (off.0, more.places off.0 hop.at off.1, λ held. off.2 (holds tick off.0 held))

  -- one more was gone over
  pub off_next : (held : Held) (scope : Option Scope) (marks : List (ℕ × ℕ)) (n : ℕ) (mark : ℕ × ℕ) → slice_get marks n ≡ Some mark → (is_flushed node held scope mark ≡ true → EndsHold node tick mark new) → ((step : ℕ) (other : ℕ × ℕ) → step < n → slice_get marks step ≡ Some other → is_flushed node held scope other ≡ true → EndsHold node tick other old) → (step : ℕ) (other : ℕ × ℕ) → step < n + 1 → slice_get marks step ≡ Some other → is_flushed node held scope other ≡ true → EndsHold node tick other new
  off_next held scope marks n mark is own before step other below there flushed = by (cases_lt step n) where
    by : (step < n) ⊎ (n ≤ step) → EndsHold node tick other new
    by (inl low) = off_kept other (before step other low there flushed)
    by (inr high) = subst (λ (mark : ℕ × ℕ). is_flushed node held scope mark ≡ true → EndsHold node tick mark new) same own flushed where
      place : n ≡ step
      place = omega (arith, below, high)

      same : mark ≡ other
      same = same_found (slice_get marks n) mark other is (ap (slice_get marks) place ∙ there)

-- some are counted, if one passes
pub counts_some : {A : Type 0} (test : A → Bool) (xs : List A) (n : ℕ) (x : A) → slice_get xs n ≡ Some x → test x ≡ true → 0 < count_by test xs
counts_some test [] n x there passes = absurd (cc there)
counts_some test (y ∷ ys) zero x there passes =
    let own : test y ≡ true = cc (there, passes) in
    let grown : count_by test (y ∷ ys) ≡ 1 + count_by test ys = sum_by-cons (λ it. cond (test it) 1 0) y ys ∙ ap (λ (b : Bool). cond b 1 0 + count_by test ys) own in
    omega (arith, grown)
counts_some test (y ∷ ys) (suc n) x there passes =
    let more : 0 < count_by test ys = counts_some test ys n x there passes in omega (arith, more, sum_by-cons (λ it. cond (test it) 1 0) y ys)

pub if_err_at : {A E : Type 0} (result : Result A E) (P : E → Type 0) (why : E) → result ≡ Err why → IfErr result P → P why
if_err_at (Ok value) P why is p = absurd (cc is)
if_err_at (Err other) P why is p = let same : other ≡ why = cc is in subst P same p

pub on_err : {A E : Type 0} (result : Result A E) (P : Type 0) → P → OnErr result P
on_err (Ok value) P p = tt
on_err (Err why) P p = p
