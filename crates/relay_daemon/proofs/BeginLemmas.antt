-- A relay that begins without connections.
use Rattle.std.proofs.Common.{◌≡◌, ℕ, zero, suc, List, [], ◌∷◌, Option, None, Some, refl}
use Rattle.relay_slots.specs.Slots.{AreFree, slot_at}
use Rattle.relay_daemon.specs.Events.{BeginningRuns}
use Rattle.relay_daemon.proofs.MoveLemmas.{not_both}

free_slot : {A : Type 0} (slots : List (Option A)) (number : ℕ) → AreFree slots → slot_at slots number ≡ None
free_slot [] number free = refl
free_slot (None ∷ slots) zero free = refl
free_slot (None ∷ slots) (suc number) free = free_slot slots number free
free_slot (Some value ∷ slots) number free = absurd free

module _ {D : Type 0} where
  pub beginning : BeginningRuns D
  beginning world node host config relay at up idle clients hops = record {
    host = host;
    host_at = at;
    up = up;
    clients = λ session waiting is.
        absurd (not_both (slot_at relay.clients session) waiting (free_slot relay.clients session clients) is);
    hops = λ slot waiting is. absurd (not_both (slot_at relay.hops slot) waiting (free_slot relay.hops slot hops) is);
    seats = λ session none. free_slot relay.node.seats session idle.free;
    runs = λ slot none. free_slot relay.node.attempts slot idle.none_runs;
  }
