-- What giving up leaves of lanes, before what is listed begins.
use Rattle.std.proofs.Common.{◌≡◌, ◌<◌, ◌≤◌, ◌+◌, inl, inr, ℕ, Bool, true, false, List, [], Option, length, sym, ap, ◌∙◌, subst}
use Rattle.std.specs.Prelude.{slice_get}
use Rattle.std.specs.Option.{option_map_or}
use Rattle.relay_disk.specs.Device.{DiskWords}
use Rattle.relay_slots.specs.declared.slots.TheConstants.{SLOT_COUNT}
use Rattle.relay_lanes.specs.Lane.{tasks_of}
use Rattle.relay_loop.specs.Relay.{RelayState}
use Rattle.relay_control.specs.declared.held.Held.{Held}
use Rattle.relay_next_hops.specs.Expiry.{EndsFirst}
use Rattle.relay_next_hops.specs.Lanes.{tasks_at}
use Rattle.relay_next_hops.specs.Starting.{IsGivenUp}
use Rattle.relay_next_hops.specs.Turns.{BeginsAll, IsGoneOver}
use Rattle.relay_next_hops.specs.declared.hop.Hop.{Hop}
use Rattle.relay_next_hops.specs.declared.lanes.Lanes.{Lanes}

-- a lane is gone over, whether its tasks are counted before or after that
gone_from : {S : Type 0} (tick spares : ℕ) (old between new : Lanes) (hops : List (Option (Hop S))) (lane : ℕ) → between.lanes ≡ old.lanes → IsGoneOver tick spares between hops new lane → IsGoneOver tick spares old hops new lane
gone_from tick spares old between new hops lane same (inl done) = inl done
gone_from tick spares old between new hops lane same (inr tried) =
    inr (subst (λ lanes. length (tasks_at new lane) + SLOT_COUNT ≤ length (option_map_or tasks_of (slice_get lanes.items lane) []) + spares) same tried)

-- what may begin has begun
pub begins_from : {S : Type 0} (tick paused_until spares left : ℕ) (old between new : Lanes) (hops : List (Option (Hop S))) → between.lanes ≡ old.lanes → BeginsAll tick paused_until spares left between new hops → BeginsAll tick paused_until spares left old new hops
begins_from tick paused_until spares left old between new hops same (inl early) = inl early
begins_from tick paused_until spares left old between new hops same (inr (inl stopped)) = inr (inl stopped)
begins_from tick paused_until spares left old between new hops same (inr (inr gone)) =
    inr (inr (λ lane low. gone_from tick spares old between new hops lane same (gone lane (subst (λ lanes. lane < length lanes.items) (sym same) low))))

-- a listing that was requested stays so
given_later : {D : Type 0} (words : DiskWords D) (at message : ℕ) (old between : RelayState D) (lanes later : Lanes) (gave_up : Bool) → (lanes.is_stale ≡ true → later.is_stale ≡ true) → IsGivenUp words at message old between lanes gave_up → IsGivenUp words at message old between later gave_up
given_later words at message old between lanes later true stale gives = gives
given_later words at message old between lanes later false stale (inl unknown) = inl unknown
given_later words at message old between lanes later false stale (inr (inl undue)) = inr (inl undue)
given_later words at message old between lanes later false stale (inr (inr is)) = inr (inr (stale is))

-- where later lanes have the same messages to be given up, the first has ended so
pub first_later : {D : Type 0} (words : DiskWords D) (at number : ℕ) (rest : List ℕ) (held : Held) (old between : RelayState D) (lanes later : Lanes) (ended : Bool) → (lanes.is_stale ≡ true → later.is_stale ≡ true) → later.unroutable ≡ lanes.unroutable
    → EndsFirst words at number rest held old between lanes ended → EndsFirst words at number rest held old between later ended
first_later words at number rest held old between lanes later ended stale same (inl expires) = inl (record {
  delivery = expires.delivery;
  over = expires.over;
  lost = expires.lost;
  left = ap (λ queue. queue.items) same ∙ expires.left;
})
first_later words at number rest held old between lanes later ended stale same (inr (inl none)) =
    inr (inl (none.0, given_later words at number old between lanes later ended stale none.1, ap (λ queue. queue.items) same ∙ none.2))
first_later words at number rest held old between lanes later ended stale same (inr (inr wants)) =
    inr (inr (wants.0, wants.1, stale wants.2, ap (λ queue. queue.items) same ∙ wants.3))
