-- What a task that was tried does to the counts of lanes, and where its connection goes.
use Rattle.std.proofs.Common.{◌≡◌, ◌≢◌, ◌⊎◌, inl, inr, ℕ, ◌+◌, ◌<◌, ◌≤◌, true, false, eqb, List, ◌∷◌, length, Option, None, Some, sym, ap, subst, ◌∙◌, add-one, arith}
use Rattle.std.specs.Prelude.{slice_set}
use Rattle.std.proofs.lemmas.Bool.Decides.{eqb_tells}
use Rattle.std.specs.declared.net.socket_addr.SocketAddrV4.{SocketAddrV4}
use Rattle.relay_disk.specs.Device.{DiskWords}
use Rattle.relay_routes.specs.Routes.{place_of}
use Rattle.relay_slots.specs.Slots.{slot_at}
use Rattle.relay_control.specs.Held.{holds}
use Rattle.relay_control.specs.declared.held.Held.{Held}
use Rattle.relay_loop.specs.Relay.{RelayState}
use Rattle.relay_connections.specs.Table.{count_of}
use Rattle.relay_connections.specs.declared.channel.Channel.{Channel}
use Rattle.relay_connections.specs.declared.clocks.Now.{Now}
use Rattle.relay_next_hops.specs.Counts.{CountsMatch, unanswered_of}
use Rattle.relay_next_hops.specs.Deliveries.{AreAimed, IsAimed}
use Rattle.relay_next_hops.specs.Lanes.{OnlyLane, tasks_at}
use Rattle.relay_lanes.specs.Paces.{RunsOneMore}
use Rattle.relay_next_hops.specs.Starting.{ConnectsFor, IsBegun, IsEndOf, IsStep, IsTried, OpensUnheld, TriesNext, back_of, step_after}
use Rattle.relay_next_hops.specs.declared.delivery.Aim.{Aim}
use Rattle.relay_next_hops.specs.declared.hop.Hop.{Hop}
use Rattle.relay_lanes.specs.declared.lane.Task.{Task}
use Rattle.relay_next_hops.specs.declared.lanes.Lanes.{Lanes}
use Rattle.relay_next_hops.specs.declared.starting.Begun.{Begun}
use Rattle.relay_next_hops.specs.declared.starting.Begun.TheVariants.{AllDone, Crowded, Full, Wanting}
use Rattle.relay_next_hops.specs.declared.starting.Step.{Step}
use Rattle.relay_next_hops.specs.declared.starting.Step.TheVariants.{Left, Back, Over, NoRoom, NoSlot}
use Rattle.relay_next_hops.specs.declared.starting.Tried.{Tried}
use Rattle.relay_next_hops.specs.declared.starting.Tried.TheVariants.{Connects, Wants, Fails, HasNoPlace}
use Rattle.relay_next_hops.proofs.SlotLemmas.{aimed_put, counts_begun, counts_put, counts_stay, length_set, set_beside, set_there, some_within}
use Rattle.relay_next_hops.proofs.TurnLemmas.{unanswered_put, unanswered_stay}

module _ {D S : Type 0} (words : DiskWords D) (Opened : SocketAddrV4 → Channel S → Type 0) (now : Now) (lane number : ℕ) (task : Task) (hops_old hops_new : List (Option (Hop S))) (lanes_old lanes_new : Lanes) (old new : RelayState D) where
  -- of each lane as many attempts run as it has connections, as before
  pub tried_counts : (tried : Tried) → IsTried words Opened now lane number task hops_old hops_new lanes_old lanes_new old new tried → slot_at hops_old number ≡ None → number < length hops_old → count_of hops_old ≤ 64 → CountsMatch hops_old lanes_old.paces → CountsMatch hops_new lanes_new.paces
  tried_counts Connects is free low few match_is =
      let connects : ConnectsFor Opened lane number task hops_old hops_new lanes_old lanes_new old = is.0 in
      let its_lane : connects.puts.hop.aim.lane ≡ lane = ap (λ (aim : Aim). aim.lane) connects.puts.its_aim ∙ connects.its_lane in
      subst (λ (hops : List (Option (Hop S))). CountsMatch hops lanes_new.paces) (sym connects.puts.put)
      (counts_put hops_old number connects.puts.hop lanes_new.paces free low
      (counts_begun connects.puts.hop hops_old lanes_old.paces lanes_new.paces few (subst (λ (lane : ℕ). RunsOneMore lane lanes_old.paces lanes_new.paces) (sym its_lane) connects.runs) match_is))
  tried_counts Wants is free low few match_is = subst (λ (hops : List (Option (Hop S))). CountsMatch hops lanes_new.paces) (sym is.2) (counts_stay hops_old lanes_old.paces lanes_new.paces is.1.runs match_is)
  tried_counts Fails is free low few match_is = subst (λ (hops : List (Option (Hop S))). CountsMatch hops lanes_new.paces) (sym is.2) (counts_stay hops_old lanes_old.paces lanes_new.paces is.1.runs match_is)
  tried_counts HasNoPlace is free low few match_is =
      subst (λ (hops : List (Option (Hop S))). CountsMatch hops lanes_new.paces) (sym is.2)
      (subst (λ (lanes : Lanes). CountsMatch hops_old lanes.paces) (sym is.1) match_is)

  -- each connection goes to the place that the routes give for its next hop, as before
  pub tried_aimed : (tried : Tried) → IsTried words Opened now lane number task hops_old hops_new lanes_old lanes_new old new tried → AreAimed old.node.config.routes.routes hops_old → AreAimed old.node.config.routes.routes hops_new
  tried_aimed Connects is aimed =
      let connects : ConnectsFor Opened lane number task hops_old hops_new lanes_old lanes_new old = is.0 in
      let goes : IsAimed old.node.config.routes.routes connects.puts.hop =
      ap (place_of old.node.config.routes.routes) connects.puts.its_name ∙ connects.its_place ∙ ap (λ (aim : Aim). Some aim.at) (sym connects.puts.its_aim) in
      subst (AreAimed old.node.config.routes.routes) (sym connects.puts.put) (aimed_put old.node.config.routes.routes hops_old number connects.puts.hop goes aimed)
  tried_aimed Wants is aimed = subst (AreAimed old.node.config.routes.routes) (sym is.2) aimed
  tried_aimed Fails is aimed = subst (AreAimed old.node.config.routes.routes) (sym is.2) aimed
  tried_aimed HasNoPlace is aimed = subst (AreAimed old.node.config.routes.routes) (sym is.2) aimed

  -- no fewer are unanswered than before
  pub tried_unanswered : (tried : Tried) → IsTried words Opened now lane number task hops_old hops_new lanes_old lanes_new old new tried → slot_at hops_old number ≡ None → number < length hops_old → OnlyLane lane lanes_old lanes_new → unanswered_of hops_old lanes_old.paces ≤ unanswered_of hops_new lanes_new.paces
  tried_unanswered Connects is free low only =
      let connects : ConnectsFor Opened lane number task hops_old hops_new lanes_old lanes_new old = is.0 in
      subst (λ (hops : List (Option (Hop S))). unanswered_of hops_old lanes_old.paces ≤ unanswered_of hops lanes_new.paces) (sym connects.puts.put)
      (omega (arith, unanswered_stay hops_old lane lanes_old lanes_new only, unanswered_put lanes_new.paces hops_old number connects.puts.hop free low))
  tried_unanswered Wants is free low only = subst (λ (hops : List (Option (Hop S))). unanswered_of hops_old lanes_old.paces ≤ unanswered_of hops lanes_new.paces) (sym is.2) (unanswered_stay hops_old lane lanes_old lanes_new only)
  tried_unanswered Fails is free low only = subst (λ (hops : List (Option (Hop S))). unanswered_of hops_old lanes_old.paces ≤ unanswered_of hops lanes_new.paces) (sym is.2) (unanswered_stay hops_old lane lanes_old lanes_new only)
  tried_unanswered HasNoPlace is free low only = subst (λ (hops : List (Option (Hop S))). unanswered_of hops_old lanes_old.paces ≤ unanswered_of hops lanes_new.paces) (sym is.2) (unanswered_stay hops_old lane lanes_old lanes_new only)

-- a connection for mail that no postmaster holds
put_unheld : {S : Type 0} (held : Held) (hops : List (Option (Hop S))) (number : ℕ) (hop : Hop S) → holds hop.name hop.message held ≡ false → OpensUnheld held hops (slice_set hops number (Some hop))
put_unheld {S} held hops number hop unheld other standing there = by (eqb_tells other number) where
  by : ((eqb other number ≡ true) × (other ≡ number)) ⊎ ((eqb other number ≡ false) × (other ≢ number)) → (slot_at hops other ≡ Some standing) ⊎ (holds standing.name standing.message held ≡ false)
  by (inl own) = inr (subst (λ (hop : Hop S). holds hop.name hop.message held ≡ false) same unheld) where
    low : number < length hops
    low = subst (λ (length : ℕ). number < length) (length_set hops number (Some hop)) (some_within (slice_set hops number (Some hop)) number standing (ap (slot_at (slice_set hops number (Some hop))) (sym own.1) ∙ there))

    same : hop ≡ standing
    same = cc (sym (set_there hops number (Some hop) low) ∙ ap (slot_at (slice_set hops number (Some hop))) (sym own.1) ∙ there)
  by (inr apart) = inl (sym (set_beside hops number (Some hop) other apart.1) ∙ there)

-- the same connections
pub same_unheld : {S : Type 0} (held : Held) (old new : List (Option (Hop S))) → new ≡ old → OpensUnheld held old new
same_unheld {S} held old new same number hop there = inl (ap (λ (hops : List (Option (Hop S))). slot_at hops number) (sym same) ∙ there)

-- two calls after one another, with the same held mail
pub unheld_then : {S : Type 0} (held between : Held) (old middle new : List (Option (Hop S))) → between ≡ held → OpensUnheld held old middle → OpensUnheld between middle new → OpensUnheld held old new
unheld_then {S} held between old middle new same one other number hop there = by (other number hop there) where
  by : (slot_at middle number ≡ Some hop) ⊎ (holds hop.name hop.message between ≡ false) → (slot_at old number ≡ Some hop) ⊎ (holds hop.name hop.message held ≡ false)
  by (inl stood) = one number hop stood
  by (inr unheld) = inr (ap (holds hop.name hop.message) (sym same) ∙ unheld)

module _ {D S : Type 0} (words : DiskWords D) (Opened : SocketAddrV4 → Channel S → Type 0) (now : Now) (lane number : ℕ) (task : Task) (hops_old hops_new : List (Option (Hop S))) (lanes_old lanes_new : Lanes) (old new : RelayState D) where
  -- a task that no postmaster holds was tried
  pub tried_unheld : (held : Held) (tried : Tried) → holds task.hop task.message held ≡ false → IsTried words Opened now lane number task hops_old hops_new lanes_old lanes_new old new tried → OpensUnheld held hops_old hops_new
  tried_unheld held Connects unheld is =
      let connects : ConnectsFor Opened lane number task hops_old hops_new lanes_old lanes_new old = is.0 in
      let its : holds connects.puts.hop.name connects.puts.hop.message held ≡ false =
      ap (λ name. holds name connects.puts.hop.message held) connects.puts.its_name ∙ ap (λ message. holds task.hop message held) connects.puts.its_message ∙ unheld in
      subst (OpensUnheld held hops_old) (sym connects.puts.put) (put_unheld held hops_old number connects.puts.hop its)
  tried_unheld held Wants unheld is = same_unheld held hops_old hops_new is.2
  tried_unheld held Fails unheld is = same_unheld held hops_old hops_new is.2
  tried_unheld held HasNoPlace unheld is = same_unheld held hops_old hops_new is.2

same_begun : (one other : Begun) → Some one ≡ Some other → one ≡ other
same_begun one other same = cc

pub back_few : (tried : Tried) → back_of tried ≤ 1
back_few Connects = omega arith
back_few Wants = omega arith
back_few Fails = omega arith
back_few HasNoPlace = omega arith

-- a list that lost its first, and what is left of it
one_less : (old between new : List Task) (task : Task) → old ≡ task ∷ between → (length old ≡ length between + 1 → length new ≤ length between + 0) → length new + 1 ≤ length old
one_less old between new task first fewer =
    let longer : length old ≡ length between + 1 = ap length first ∙ sym (add-one (length between)) in
    omega (arith, longer, fewer longer)

one_more : (old between new : List Task) (task : Task) → old ≡ task ∷ between → (length old ≡ length between + 1 → length new ≤ length between + 1) → length new ≤ length old
one_more old between new task first fewer =
    let longer : length old ≡ length between + 1 = ap length first ∙ sym (add-one (length between)) in
    omega (arith, longer, fewer longer)

-- The task was the next of its lane: what has come of it is what its step says.
module _ {D S : Type 0} (words : DiskWords D) (Opened : SocketAddrV4 → Channel S → Type 0) (now : Now) (lane : ℕ) (hops_old hops_new : List (Option (Hop S))) (lanes_old lanes_new : Lanes) (old new : RelayState D) where
  pub step_is : (tried : Tried) → TriesNext words Opened now lane hops_old hops_new lanes_old lanes_new old new tried → ((before : ℕ) → length (tasks_at lanes_old lane) ≡ before + 1 → length (tasks_at lanes_new lane) ≤ before + back_of tried) → IsStep words Opened now lane hops_old hops_new lanes_old lanes_new old new (step_after tried)
  step_is Connects tries fewer = (inl (Connects, tries), one_less (tasks_at lanes_old lane) (tasks_at tries.between lane) (tasks_at lanes_new lane) tries.task tries.first (fewer (length (tasks_at tries.between lane))))
  step_is Wants tries fewer = (tries, one_more (tasks_at lanes_old lane) (tasks_at tries.between lane) (tasks_at lanes_new lane) tries.task tries.first (fewer (length (tasks_at tries.between lane))))
  step_is Fails tries fewer = (inl (Fails, tries), one_less (tasks_at lanes_old lane) (tasks_at tries.between lane) (tasks_at lanes_new lane) tries.task tries.first (fewer (length (tasks_at tries.between lane))))
  step_is HasNoPlace tries fewer = (inl (HasNoPlace, tries), one_less (tasks_at lanes_old lane) (tasks_at tries.between lane) (tasks_at lanes_new lane) tries.task tries.first (fewer (length (tasks_at tries.between lane))))

  -- a step that isn't the lane's last
  pub step_goes_on : (step : Step) (begun : Option Begun) (kept_old kept_new : ℕ) → IsStep words Opened now lane hops_old hops_new lanes_old lanes_new old new step → IsEndOf step kept_old kept_new begun → ((last : Begun) → begun ≡ Some last → ⊥) → (length (tasks_at lanes_new lane) + 1 + kept_new ≤ length (tasks_at lanes_old lane) + kept_old) × (kept_old ≤ kept_new + 1) × (kept_new ≤ kept_old)
  step_goes_on Left begun kept_old kept_new is ends none = (omega (arith, is.1, ends.1), omega (arith, ends.1), omega (arith, ends.1))
  step_goes_on Back begun kept_old kept_new is (inl ends) none = (omega (arith, is.1, ends.1), omega (arith, ends.1), omega (arith, ends.1))
  step_goes_on Back begun kept_old kept_new is (inr ends) none = absurd (none Wanting ends.0)
  step_goes_on Over begun kept_old kept_new is ends none = absurd (none AllDone ends.0)
  step_goes_on NoRoom begun kept_old kept_new is ends none = absurd (none Crowded ends.0)
  step_goes_on NoSlot begun kept_old kept_new is ends none = absurd (none Full ends.0)

  -- and one that is
  pub step_ends : (step : Step) (begun : Begun) (kept : ℕ) (lanes_first : Lanes) (kept_old left : ℕ) → IsStep words Opened now lane hops_old hops_new lanes_old lanes_new old new step → IsEndOf step kept_old left (Some begun) → IsBegun now.tick kept lanes_first hops_new lanes_new left lane begun
  step_ends Left begun kept lanes_first kept_old left is ends = absurd (cc ends.0)
  step_ends Back begun kept lanes_first kept_old left is (inl ends) = absurd (cc ends.0)
  step_ends Back begun kept lanes_first kept_old left is (inr ends) = subst (IsBegun now.tick kept lanes_first hops_new lanes_new left lane) (same_begun Wanting begun (sym ends.0)) ends.2
  step_ends Over begun kept lanes_first kept_old left is ends = subst (IsBegun now.tick kept lanes_first hops_new lanes_new left lane) (same_begun AllDone begun (sym ends.0)) is
  step_ends NoRoom begun kept lanes_first kept_old left is ends = subst (IsBegun now.tick kept lanes_first hops_new lanes_new left lane) (same_begun Crowded begun (sym ends.0)) is
  step_ends NoSlot begun kept lanes_first kept_old left is ends = subst (IsBegun now.tick kept lanes_first hops_new lanes_new left lane) (same_begun Full begun (sym ends.0)) is
