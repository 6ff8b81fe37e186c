-- A turn over the lanes: what is done of one stays so while the others have their turn, and each has one.
use Rattle.std.proofs.Common.{◌≡◌, ◌≢◌, ◌⊎◌, inl, inr, ℕ, ◌+◌, ◌-◌, ◌<◌, ◌≤◌, zero, suc, true, false, List, [], length, MatchOption, Option, refl, sym, ap, subst, ◌∙◌, add-one, arith}
use Rattle.std.specs.Option.{option_map_or}
use Rattle.std.proofs.lemmas.Bool.{cases_eq, cases_lt, false≢true}
use Rattle.relay_limits.specs.declared.pace.Pace.{Pace}
use Rattle.relay_limits.specs.Pace.{MayBegin}
use Rattle.relay_slots.specs.declared.slots.TheConstants.{SLOT_COUNT}
use Rattle.relay_next_hops.specs.Counts.{unanswered_of}
use Rattle.relay_next_hops.specs.Lanes.{IsNth, OnlyLane, tasks_at}
use Rattle.relay_lanes.specs.Paces.{MayBeginAt, has_answered_at}
use Rattle.relay_next_hops.specs.Starting.{IsBegun, IsDone, IsStoppedBy}
use Rattle.relay_next_hops.specs.Turns.{IsGoneOver, IsStopped}
use Rattle.relay_next_hops.specs.declared.hop.Hop.{Hop}
use Rattle.relay_lanes.specs.declared.lane.Task.{Task}
use Rattle.relay_next_hops.specs.declared.lanes.Lanes.{Lanes}
use Rattle.relay_next_hops.specs.declared.starting.Begun.{Begun}
use Rattle.relay_next_hops.specs.declared.starting.Begun.TheVariants.{AllDone, Crowded, HasMore, Full, Wanting}
use Rattle.relay_next_hops.specs.declared.starting.TheConstants.{MOST_UNANSWERED}

-- Another lane had its turn.
module _ {S : Type 0} (tick lane : ℕ) (hops_old hops_new : List (Option (Hop S))) (old new : Lanes) (only : OnlyLane lane old new) (more : unanswered_of hops_old old.paces ≤ unanswered_of hops_new new.paces) (other : ℕ) (apart : other ≢ lane) where
  pub done_kept : IsDone tick hops_old old other → IsDone tick hops_new new other
  done_kept done may = by (done may_old) where
    may_old : MayBeginAt old.most tick old.paces other
    may_old = subst (λ (most : ℕ). MayBeginAt most tick old.paces other) only.most (subst (λ (pace : Option Pace). MatchOption pace ⊥ (MayBegin new.most tick)) (only.paces other apart) may)

    by : (tasks_at old other ≡ []) ⊎ ((has_answered_at old.paces other ≡ false) × (MOST_UNANSWERED ≤ unanswered_of hops_old old.paces)) → (tasks_at new other ≡ []) ⊎ ((has_answered_at new.paces other ≡ false) × (MOST_UNANSWERED ≤ unanswered_of hops_new new.paces))
    by (inl none) = inl (only.tasks other apart ∙ none)
    by (inr crowded) = inr (ap (λ (pace : Option Pace). option_map_or (λ (pace : Pace). pace.has_answered) pace false) (only.paces other apart) ∙ crowded.0, omega (arith, crowded.1, more))

  pub gone_kept : (spares : ℕ) (first : Lanes) → IsGoneOver tick spares first hops_old old other → IsGoneOver tick spares first hops_new new other
  gone_kept spares first (inl done) = inl (done_kept done)
  gone_kept spares first (inr tried) = inr (subst (λ (tasks : List Task). length tasks + SLOT_COUNT ≤ length (tasks_at first other) + spares) (sym (only.tasks other apart)) tried)

-- its own turn
module _ {S : Type 0} (tick kept spares lane : ℕ) (hops : List (Option (Hop S))) (first old new : Lanes) (held : ℕ) where
  pub gone_own : (begun : Begun) → IsStoppedBy begun false → IsBegun tick kept old hops new held lane begun → kept ≤ spares → length (tasks_at old lane) ≤ length (tasks_at first lane) → IsGoneOver tick spares first hops new lane
  gone_own AllDone goes is few fewer = inl is
  gone_own Crowded goes is few fewer = inl is
  gone_own HasMore goes is few fewer = inr (omega (arith, is, few, fewer))
  gone_own Full goes is few fewer = absurd (false≢true goes)
  gone_own Wanting goes is few fewer = absurd (false≢true goes)

  pub done_own : (begun : Begun) → IsStoppedBy begun false → begun ≢ HasMore → IsBegun tick kept old hops new held lane begun → IsDone tick hops new lane
  done_own AllDone goes no_more is = is
  done_own Crowded goes no_more is = is
  done_own HasMore goes no_more is = absurd (no_more refl)
  done_own Full goes no_more is = absurd (false≢true goes)
  done_own Wanting goes no_more is = absurd (false≢true goes)

  pub stopped : (begun : Begun) → IsStoppedBy begun true → IsBegun tick kept old hops new held lane begun → IsStopped hops held
  stopped AllDone stops is = absurd (false≢true (sym stops))
  stopped Crowded stops is = absurd (false≢true (sym stops))
  stopped HasMore stops is = absurd (false≢true (sym stops))
  stopped Full stops is = inl is
  stopped Wanting stops is = inr is

-- no lane has more tasks than before
pub fewer_then : (first old new : Lanes) (lane : ℕ) → OnlyLane lane old new → length (tasks_at new lane) ≤ length (tasks_at old lane) → ((other : ℕ) → length (tasks_at old other) ≤ length (tasks_at first other)) → (other : ℕ) → length (tasks_at new other) ≤ length (tasks_at first other)
fewer_then first old new lane only own before other = by (cases_eq other lane) where
  by : (other ≡ lane) ⊎ (other ≡ lane → ⊥) → length (tasks_at new other) ≤ length (tasks_at first other)
  by (inl same) = subst (λ (lane : ℕ). length (tasks_at new lane) ≤ length (tasks_at first lane)) (sym same) (omega (arith, own, before lane))
  by (inr apart) = subst (λ (tasks : List Task). length tasks ≤ length (tasks_at first other)) (sym (only.tasks other apart)) (before other)

-- another lane that has come by a lane's step has come before it
earlier : (first count lane other step past : ℕ) → lane < count → other < count → past < step + 1 → other ≢ lane → IsNth first count step lane → IsNth first count past other → past < step
earlier first count lane other step past low within below apart (inl here) (inl there) = omega (arith, apart, here, there, below, low, within)
earlier first count lane other step past low within below apart (inl here) (inr there) = omega (arith, apart, here, there, below, low, within)
earlier first count lane other step past low within below apart (inr here) (inl there) = omega (arith, apart, here, there, below, low, within)
earlier first count lane other step past low within below apart (inr here) (inr there) = omega (arith, apart, here, there, below, low, within)

-- The lanes have their turns one after another, from the first on, after the one that waits for room. Before the step
-- P is true of each that had its turn, and after it Q.
module _ (P Q : ℕ → Type 0) (first count lane : ℕ) (kept : (other : ℕ) → other ≢ lane → P other → Q other) (own : Q lane) where
  pub round_next : (step : ℕ) → ((past : ℕ) → step ≡ past + 1 → past < count → IsNth first count past lane × (lane < count)) → step < count + 1 → ((other past : ℕ) → past + 1 < step → other < count → IsNth first count past other → P other) → (other past : ℕ) → past + 1 < step + 1 → other < count → IsNth first count past other → Q other
  round_next zero visits short before other past below within nth = absurd (omega (arith, below))
  round_next (suc turn) visits short before other past below within nth = by (cases_eq other lane) where
    here : IsNth first count turn lane × (lane < count)
    here = visits turn (sym (add-one turn)) (omega (arith, short, add-one turn))

    by : (other ≡ lane) ⊎ (other ≡ lane → ⊥) → Q other
    by (inl same) = subst Q (sym same) own
    by (inr apart) = kept other apart (before other past (omega (arith, add-one turn, earlier first count lane other turn past here.1 within (omega (arith, below, add-one turn)) apart here.0 nth)) within nth)

-- and then each has had one
pub round_all : (P : ℕ → Type 0) (first count step : ℕ) → first ≤ count → count < step → ((other past : ℕ) → past + 1 < step → other < count → IsNth first count past other → P other) → (other : ℕ) → other < count → P other
round_all P first count step within over before other low = by (cases_lt other first) where
  by : (other < first) ⊎ (first ≤ other) → P other
  by (inl below) = before other (other + count - first) (omega (arith, low, below, within, over)) low (inr (omega (arith, low, below, within)))
  by (inr beyond) = before other (other - first) (omega (arith, low, beyond, over)) low (inl (omega (arith, beyond)))
