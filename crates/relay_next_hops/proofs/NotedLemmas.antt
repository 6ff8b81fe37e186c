-- A connection that was taken out is put back, with what it has noted.
use Rattle.std.proofs.Common.{◌≡◌, ◌<◌, ℕ, List, Option, None, Some, refl, sym, ap, ◌∙◌, subst, length, arith}
use Rattle.std.specs.Prelude.{slice_set}
use Rattle.relay_slots.specs.Slots.{slot_at}
use Rattle.relay_connections.specs.Channel.{noted}
use Rattle.relay_connections.specs.declared.channel.Channel.{Channel}
use Rattle.relay_connections.specs.declared.channel.Readiness.{Readiness}
use Rattle.relay_next_hops.specs.Readiness.{IsNoted}
use Rattle.relay_next_hops.specs.declared.hop.Hop.{Hop}
use Rattle.relay_next_hops.proofs.SlotLemmas.{length_set, set_there, some_within}

pub noted_there : {S : Type 0} (ready : Readiness) (old taken new : List (Option (Hop S))) (number : ℕ) (hop : Hop S)
    (channel : Channel S) → Some hop ≡ slot_at old number → taken ≡ slice_set old number None
    → (number < length taken → new ≡ slice_set taken number (Some (record hop { channel = channel })))
    → channel ≡ noted ready hop.channel → IsNoted ready (slot_at old number) (slot_at new number)
noted_there {S} ready old taken new number hop channel was out puts is =
    subst (λ (slot : Option (Hop S)). IsNoted ready slot (slot_at new number)) was
    (there ∙ ap (λ (it : Channel S). Some (record hop { channel = it })) is)
  where
    low : number < length taken
    low =
        let within : number < length old = some_within old number hop (sym was) in
        let same : length taken ≡ length old = ap length out ∙ length_set old number None in
        omega (arith, within, same)

    there : slot_at new number ≡ Some (record hop { channel = channel })
    there = ap (λ (l : List (Option (Hop S))). slot_at l number) (puts low)
        ∙ set_there taken number (Some (record hop { channel = channel })) low
