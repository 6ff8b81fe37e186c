-- How long clients may be idle, through the calls of a turn: from its tick on, or for as long as before.
use Rattle.std.proofs.Common.{◌≡◌, ℕ, Option, None, Some, Box, inl, inr, refl, sym, ap, subst, ◌∙◌}
use Rattle.std.specs.Global.{Global}
use Rattle.relay_slots.specs.Slots.{slot_at}
use Rattle.relay_connections.specs.Readiness.{clients_of}
use Rattle.relay_connections.specs.Renewal.{AllWait, SlotWaits, WaitsAnew, WaitsAnewOrOn, WaitsOn}
use Rattle.relay_connections.specs.Welcome.{KeepsTurn}
use Rattle.relay_connections.specs.declared.client.Client.{Client}
use Rattle.relay_connections.specs.declared.clients.Clients.{Clients}

on_same : {S : Type 0} (client : Client S) → WaitsOn client client
on_same client = record { idle = refl; crowded = refl }

on_then : {S : Type 0} (one two three : Client S) → WaitsOn one two → WaitsOn two three → WaitsOn one three
on_then one two three first second = record { idle = second.idle ∙ first.idle; crowded = second.crowded ∙ first.crowded }

anew_on : {S : Type 0} (timeout tick : ℕ) (two three : Client S) → WaitsAnew timeout tick two → WaitsOn two three → WaitsAnew timeout tick three
anew_on timeout tick two three anew on = record { idle = on.idle ∙ anew.idle; crowded = on.crowded ∙ anew.crowded }

waits_then : {S : Type 0} (timeout tick : ℕ) (one two three : Client S) → WaitsAnewOrOn timeout tick one two → WaitsAnewOrOn timeout tick two three → WaitsAnewOrOn timeout tick one three
waits_then timeout tick one two three first (inl anew) = inl anew
waits_then timeout tick one two three (inl anew) (inr on) = inl (anew_on timeout tick two three anew on)
waits_then timeout tick one two three (inr first) (inr second) = inr (on_then one two three first second)

slot_same : {S : Type 0} (timeout tick : ℕ) (slot : Option (Box (Client S) Global)) → SlotWaits timeout tick slot slot
slot_same timeout tick None = tt
slot_same timeout tick (Some client) = inr (on_same client.value)

slot_then : {S : Type 0} (timeout tick : ℕ) (one two three : Option (Box (Client S) Global)) → SlotWaits timeout tick one two → SlotWaits timeout tick two three → (two ≡ None → three ≡ None) → SlotWaits timeout tick one three
slot_then timeout tick None two three first second none = tt
slot_then timeout tick (Some one) None three first second none = subst (SlotWaits timeout tick (Some one)) (sym (none refl)) tt
slot_then timeout tick (Some one) (Some two) None first second none = tt
slot_then timeout tick (Some one) (Some two) (Some three) first second none = waits_then timeout tick one.value two.value three.value first second

pub all_same : {S : Type 0} (tick : ℕ) (clients : Clients S) → AllWait tick clients clients
all_same tick clients = λ number. (slot_same clients.timeout tick (slot_at (clients_of clients) number), λ none. none)

pub all_then : {S : Type 0} (tick : ℕ) (old mid new : Clients S) → KeepsTurn old mid → AllWait tick old mid → AllWait tick mid new → AllWait tick old new
all_then tick old mid new turn first second = λ number.
    let one = first number in
    let two = second number in
    let timeout : mid.timeout ≡ old.timeout = ap (λ held. held.rules.timeout) turn in (
      slot_then old.timeout tick (slot_at (clients_of old) number) (slot_at (clients_of mid) number) (slot_at (clients_of new) number) one.0
          (subst (λ (seconds : ℕ). SlotWaits seconds tick (slot_at (clients_of mid) number) (slot_at (clients_of new) number)) timeout two.0) two.1,
      λ none. two.1 (one.1 none),
    )
