-- How many attempts run, where the paces of lanes change.
use Rattle.std.proofs.Common.{◌≡◌, ◌≢◌, ◌⊎◌, inl, inr, ℕ, ◌+◌, ◌-◌, ◌^◌, min, zero, suc, List, [], ◌∷◌, ◌++◌, Option, None, Some, option_map, refl, sym, ap, ◌∙◌}
use Rattle.std.specs.Prelude.{slice_get, slice_set}
use Rattle.std.specs.Option.{option_map_or}
use Rattle.relay_limits.specs.declared.pace.Pace.{Pace}
use Rattle.relay_limits.specs.Pace.{unknown_pace}
use Rattle.relay_lanes.specs.Paces.{AddsUnknown, HasLane, RunAsBefore, RunsOneLess, RunsOneMore, begun, changed_at, ended, put_at, running_at}

-- of a lane that is new none runs
pub runs_none_more : (paces : List Pace) (number : ℕ) → running_at (paces ++ unknown_pace ∷ []) number ≡ running_at paces number
runs_none_more [] zero = refl
runs_none_more [] (suc number) = refl
runs_none_more (pace ∷ paces) zero = refl
runs_none_more (pace ∷ paces) (suc number) = runs_none_more paces number

running_set : (paces : List Pace) (lane : ℕ) (pace before : Pace) → slice_get paces lane ≡ Some before → running_at (slice_set paces lane pace) lane ≡ pace.running
running_set [] lane pace before there = absurd (cc there)
running_set (first ∷ paces) zero pace before there = refl
running_set (first ∷ paces) (suc lane) pace before there = running_set paces lane pace before there

running_beside : (paces : List Pace) (lane : ℕ) (pace : Pace) (number : ℕ) → number ≢ lane → running_at (slice_set paces lane pace) number ≡ running_at paces number
running_beside [] lane pace number apart = refl
running_beside (first ∷ paces) zero pace zero apart = absurd (apart refl)
running_beside (first ∷ paces) zero pace (suc number) apart = refl
running_beside (first ∷ paces) (suc lane) pace zero apart = refl
running_beside (first ∷ paces) (suc lane) pace (suc number) apart = running_beside paces lane pace number (λ same. apart (ap suc same))

module _ (change : Pace → Pace) (paces : List Pace) (lane : ℕ) where
  -- another lane's attempts run on
  pub changed_beside : (number : ℕ) → number ≢ lane → running_at (changed_at change paces lane) number ≡ running_at paces number
  changed_beside number apart = by (slice_get paces lane) where
    by : (pace : Option Pace) → running_at (put_at paces lane (option_map change pace)) number ≡ running_at paces number
    by None = refl
    by (Some pace) = running_beside paces lane (change pace) number apart

  -- of the lane itself as many run as its changed pace says
  pub changed_own : (count : ℕ → ℕ) → count 0 ≡ 0 → ((pace : Pace) → (change pace).running ≡ count pace.running) → running_at (changed_at change paces lane) lane ≡ count (running_at paces lane)
  changed_own count none runs = by (slice_get paces lane) refl where
    by : (pace : Option Pace) → slice_get paces lane ≡ pace → running_at (put_at paces lane (option_map change pace)) lane ≡ count (running_at paces lane)
    by None there = ap (λ (pace : Option Pace). option_map_or (λ (pace : Pace). pace.running) pace 0) there ∙ sym none ∙ ap (λ (pace : Option Pace). count (option_map_or (λ (pace : Pace). pace.running) pace 0)) (sym there)
    by (Some pace) there = running_set paces lane (change pace) pace there ∙ runs pace ∙ ap (λ (pace : Option Pace). count (option_map_or (λ (pace : Pace). pace.running) pace 0)) (sym there)

  -- a change that leaves the attempts
  pub changed_as_before : ((pace : Pace) → (change pace).running ≡ pace.running) → (number : ℕ) → running_at (changed_at change paces lane) number ≡ running_at paces number
  changed_as_before runs number = by (slice_get paces lane) refl where
    same : (paces : List Pace) (lane number : ℕ) (pace : Pace) → slice_get paces lane ≡ Some pace → running_at (slice_set paces lane (change pace)) number ≡ running_at paces number
    same [] lane number pace there = refl
    same (first ∷ paces) zero zero pace there = runs pace ∙ ap (λ (pace : Option Pace). option_map_or (λ (pace : Pace). pace.running) pace 0) (sym there)
    same (first ∷ paces) zero (suc number) pace there = refl
    same (first ∷ paces) (suc lane) zero pace there = refl
    same (first ∷ paces) (suc lane) (suc number) pace there = same paces lane number pace there

    by : (pace : Option Pace) → slice_get paces lane ≡ pace → running_at (put_at paces lane (option_map change pace)) number ≡ running_at paces number
    by None there = refl
    by (Some pace) there = same paces lane number pace there

pub ended_runs : (paces : List Pace) (lane : ℕ) → RunsOneLess lane paces (changed_at ended paces lane)
ended_runs paces lane = record {
  own = changed_own ended paces lane (λ (count : ℕ). count - 1) refl (λ pace. refl);
  others = changed_beside ended paces lane;
}

pub begun_runs : (paces : List Pace) (lane : ℕ) → HasLane paces lane → RunsOneMore lane paces (changed_at begun paces lane)
begun_runs paces lane has = record { own = by (slice_get paces lane) refl; others = changed_beside begun paces lane } where
  by : (pace : Option Pace) → slice_get paces lane ≡ pace → running_at (put_at paces lane (option_map begun pace)) lane ≡ min (running_at paces lane + 1) (2 ^ 64 - 1)
  by None there = absurd (has there)
  by (Some pace) there = running_set paces lane (begun pace) pace there ∙ ap (λ (pace : Option Pace). min (option_map_or (λ (pace : Pace). pace.running) pace 0 + 1) (2 ^ 64 - 1)) (sym there)

-- one less runs, where as many run from then on
pub less_then_same : (lane : ℕ) (old between new : List Pace) → RunsOneLess lane old between → RunAsBefore between new → RunsOneLess lane old new
less_then_same lane old between new less same = record {
  own = same lane ∙ less.own;
  others = λ number apart. same number ∙ less.others number apart;
}

-- of lanes that were added nothing is known
pub adds_none : (paces : List Pace) → AddsUnknown paces paces
adds_none paces number = inl refl

-- one lane more was added
pub adds_one : (paces : List Pace) (number : ℕ) → (slice_get (paces ++ unknown_pace ∷ []) number ≡ slice_get paces number) ⊎ ((slice_get paces number ≡ None) × (slice_get (paces ++ unknown_pace ∷ []) number ≡ Some unknown_pace))
adds_one [] zero = inr (refl, refl)
adds_one [] (suc number) = inl refl
adds_one (pace ∷ paces) zero = inl refl
adds_one (pace ∷ paces) (suc number) = adds_one paces number

pub adds_then : (old between new : List Pace) → AddsUnknown old between → AddsUnknown between new → AddsUnknown old new
adds_then old between new one other number = by (one number) (other number) where
  Adds : List Pace → List Pace → Type 0
  Adds old new = (slice_get new number ≡ slice_get old number) ⊎ ((slice_get old number ≡ None) × (slice_get new number ≡ Some unknown_pace))

  by : Adds old between → Adds between new → Adds old new
  by (inl first) (inl second) = inl (second ∙ first)
  by (inl first) (inr second) = inr (sym first ∙ second.0, second.1)
  by (inr first) (inl second) = inr (first.0, second ∙ first.1)
  by (inr first) (inr second) = absurd (cc (first.1, second.0))
