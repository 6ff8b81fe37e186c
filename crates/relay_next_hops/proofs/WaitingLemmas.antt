-- How long connections wait, and what is left in the table after a turn: a connection in time, and one without an attempt
-- if it had none.
use Rattle.std.proofs.Common.{◌≡◌, ◌⊎◌, inl, inr, ◌<◌, ◌≤◌, ◌+◌, ℕ, Bool, List, Option, None, Some, false, refl, sym, ap, ◌∙◌, subst, arith}
use Rattle.std.specs.Prelude.{min}
use Rattle.std.proofs.lemmas.Bool.{cases_eq}
use Rattle.relay_slots.specs.Slots.{slot_at}
use Rattle.relay_loop.specs.Relay.{RelayState}
use Rattle.relay_connections.proofs.Theorems.{same_value}
use Rattle.relay_next_hops.specs.Deliveries.{left_of}
use Rattle.relay_connections.specs.Renewal.{tick_after}
use Rattle.relay_next_hops.specs.Waiting.{HearsOrIsInTime, IdlesFrom, IsInTime, WaitsAfterWrite, writes_to}
use Rattle.relay_next_hops.specs.declared.delivery.Course.{Course}
use Rattle.relay_next_hops.specs.declared.delivery.Course.TheVariants.{Stays, Ended, Lost, TurnedAway, Void}
use Rattle.relay_next_hops.specs.declared.hop.Hop.{Hop}
use Rattle.relay_next_hops.specs.declared.phase.Phase.{Phase}
use Rattle.relay_next_hops.specs.Phases.{patience}

-- what is left of a connection is the connection, and it stays
pub left_stays : {S : Type 0} (course : Course) (hop new : Hop S) (slot : Option (Hop S)) → slot ≡ left_of course hop
    → slot ≡ Some new → (course ≡ Stays) × (hop ≡ new)
left_stays Stays hop new slot own is = (refl, same_value hop new (sym own ∙ is))
left_stays (Ended outbox noted) hop new slot own is = absurd (cc (sym own ∙ is))
left_stays (Lost loss) hop new slot own is = absurd (cc (sym own ∙ is))
left_stays TurnedAway hop new slot own is = absurd (cc (sym own ∙ is))
left_stays Void hop new slot own is = absurd (cc (sym own ∙ is))

pub stays_in_time : {S : Type 0} (tick number : ℕ) (hops : List (Option (Hop S))) (hop : Hop S) (course : Course)
    → slot_at hops number ≡ left_of course hop → (course ≡ Stays → hop.hears ≡ false → IsInTime tick hop)
    → HearsOrIsInTime tick hops number
stays_in_time tick number hops hop course own in_time = λ new is quiet.
    let stays = left_stays course hop new (slot_at hops number) own is in
    subst (λ (it : Hop _). IsInTime tick it) stays.1
    (in_time stays.0 (ap (λ (it : Hop _). it.hears) stays.1 ∙ quiet))

-- none is there
pub none_in_time : {S : Type 0} (tick number : ℕ) (hops : List (Option (Hop S))) → slot_at hops number ≡ None
    → HearsOrIsInTime tick hops number
none_in_time tick number hops free = λ new is quiet. absurd (cc (sym free ∙ is))

-- without an attempt before and after, the relay is as before
pub idle_there : {D S : Type 0} (taken old hop new : Hop S) (course : Course) (before between after : RelayState D)
    (was is : Option (Hop S)) → Some taken ≡ was → was ≡ Some old → is ≡ left_of course hop → is ≡ Some new
    → (taken.attempt ≡ None → hop.attempt ≡ None → between ≡ before) → (course ≡ Stays → after ≡ between)
    → old.attempt ≡ None → new.attempt ≡ None → after ≡ before
idle_there taken old hop new course before between after was is had out came left idle same none gone =
    let stays = left_stays course hop new is came left in
    let there : taken ≡ old = same_value taken old (had ∙ out) in
    same stays.0
    ∙ idle (ap (λ (it : Hop _). it.attempt) there ∙ none) (ap (λ (it : Hop _). it.attempt) stays.1 ∙ gone)

-- it has begun anew, and then some octets were written, or none
pub idles_flushed : {D S : Type 0} (tick attempt : ℕ) (relay_old relay_new : RelayState D) (mid after : Hop S)
    → IdlesFrom tick (writes_to relay_old attempt) mid
    → WaitsAfterWrite tick attempt relay_old relay_new mid after → IdlesFrom tick (writes_to relay_new attempt) after
idles_flushed {D} {S} tick attempt relay_old relay_new mid after idle (phase, inl (on, same)) =
    on.idle ∙ idle
    ∙ ap (λ (p : Phase). tick_after tick (patience p (writes_to relay_old attempt))) (sym phase)
    ∙ ap (λ (relay : RelayState D). tick_after tick (patience after.phase (writes_to relay attempt))) (sym same)
idles_flushed tick attempt relay_old relay_new mid after idle (phase, inr anew) = anew.idle

-- the least deadline so far, of the connections that were passed over, and of the next one
pub least_more : {S : Type 0} (hops : List (Option (Hop S))) (index old new : ℕ) → new ≤ old
    → ((number : ℕ) → number < index → (hop : Hop S) → slot_at hops number ≡ Some hop
    → old ≤ min hop.idle_deadline hop.answer_deadline)
    → ((hop : Hop S) → slot_at hops index ≡ Some hop → new ≤ min hop.idle_deadline hop.answer_deadline)
    → (number : ℕ) → number < index + 1 → (hop : Hop S) → slot_at hops number ≡ Some hop
    → new ≤ min hop.idle_deadline hop.answer_deadline
least_more {S} hops index old new less before here number below hop there = by (cases_eq number index)
  where
    by : (number ≡ index) ⊎ (number ≡ index → ⊥) → new ≤ min hop.idle_deadline hop.answer_deadline
    by (inl same) = here hop (subst (λ (n : ℕ). slot_at hops n ≡ Some hop) same there)
    by (inr apart) =
        let low : number < index = omega (arith, below, apart) in
        let earlier : old ≤ min hop.idle_deadline hop.answer_deadline = before number low hop there in
        omega (arith, less, earlier)
