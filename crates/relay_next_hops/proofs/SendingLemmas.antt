-- What is sent to a next hop stays the same when some of it is written, and when octets are read.
use Rattle.std.proofs.Common.{◌≡◌, ℕ, List, [], ◌++◌, Option, None, Some, take, drop, option_map, refl, sym, ap, ◌∙◌, subst, take-append-drop, append_assoc}
use Rattle.std.proofs.Math.Seq.{drop-nil}
use Rattle.std.specs.Io.KnownBytes.{Appends, Keeps, append_known}
use Rattle.relay_slots.specs.Slots.{slot_at}
use Rattle.relay_loop.specs.Outboxes.{octets_of, unwritten_at}
use Rattle.relay_loop.specs.Relay.{RelayState}
use Rattle.relay_connections.specs.Channel.{KeepsOutput, held_of, output_of}
use Rattle.relay_connections.specs.declared.channel.Channel.{Channel}
use Rattle.relay_next_hops.specs.Sending.{sent_by}

keeps_itself : (known : Option (List ℕ)) → Keeps known known
keeps_itself None = tt
keeps_itself (Some octets) = refl

keeps_then : (one two three : Option (List ℕ)) → Keeps one two → Keeps two three → Keeps one three
keeps_then None two three first second = tt
keeps_then (Some one) None three first second = absurd first
keeps_then (Some one) (Some two) None first second = absurd second
keeps_then (Some one) (Some two) (Some three) first second = second ∙ first

-- the first of these octets were taken
moved : (one two : Option (List ℕ)) (front rest all : List ℕ) → Appends one two front → all ≡ front ++ rest
    → Keeps (append_known one all) (append_known two rest)
moved None two front rest all appends parts = tt
moved (Some one) None front rest all appends parts = absurd appends
moved (Some one) (Some two) front rest all appends parts =
    ap (λ (l : List ℕ). l ++ rest) appends ∙ append_assoc one front rest ∙ ap (λ (l : List ℕ). one ++ l) (sym parts)

-- what is unwritten after some of it was written
unwritten_after : {D : Type 0} (attempt count : ℕ) (old new : RelayState D)
    → slot_at new.hops attempt ≡ option_map (drop count) (slot_at old.hops attempt)
    → unwritten_at new.hops attempt ≡ drop count (unwritten_at old.hops attempt)
unwritten_after attempt count old new left = ap octets_of left ∙ by (slot_at old.hops attempt)
  where
    by : (slot : Option (List ℕ)) → octets_of (option_map (drop count) slot) ≡ drop count (octets_of slot)
    by None = sym (drop-nil count)
    by (Some octets) = refl

module _ {D S : Type 0} (remaining contents : S → Option (List ℕ)) (attempt : ℕ) where
  pub sends_same : (relay : RelayState D) (channel : Channel S)
      → Keeps (sent_by remaining contents attempt relay channel) (sent_by remaining contents attempt relay channel)
  sends_same relay channel = keeps_itself (sent_by remaining contents attempt relay channel)

  pub sends_then : (one two three : RelayState D) (before between after : Channel S)
      → Keeps (sent_by remaining contents attempt one before) (sent_by remaining contents attempt two between)
      → Keeps (sent_by remaining contents attempt two between) (sent_by remaining contents attempt three after)
      → Keeps (sent_by remaining contents attempt one before) (sent_by remaining contents attempt three after)
  sends_then one two three before between after first second =
      keeps_then (sent_by remaining contents attempt one before) (sent_by remaining contents attempt two between)
      (sent_by remaining contents attempt three after) first second

  -- the channel took some of the unwritten octets, and these count as written
  pub sends_more : (count : ℕ) (octets : List ℕ) (one two : RelayState D) (before after last : Channel S)
      → last ≡ after → octets ≡ unwritten_at one.hops attempt
      → Appends (output_of remaining contents before) (output_of remaining contents after) (take count octets)
      → slot_at two.hops attempt ≡ option_map (drop count) (slot_at one.hops attempt)
      → Keeps (sent_by remaining contents attempt one before) (sent_by remaining contents attempt two last)
  sends_more count octets one two before after last same is appends left =
      let rest : List ℕ = unwritten_at two.hops attempt in
      let all : List ℕ = unwritten_at one.hops attempt in
      let parts : all ≡ take count octets ++ rest =
      sym (take-append-drop count all) ∙ ap (λ (l : List ℕ). take count l ++ drop count all) (sym is)
      ∙ ap (λ (l : List ℕ). take count octets ++ l) (sym (unwritten_after attempt count one two left)) in
      subst
      (λ (it : Channel S). Keeps (sent_by remaining contents attempt one before) (sent_by remaining contents attempt two it))
      (sym same)
      (moved (output_of remaining contents before) (output_of remaining contents after) (take count octets) rest all
      appends parts)

  -- it took none
  pub sends_none : (count : ℕ) (octets : List ℕ) (relay : RelayState D) (before after : Channel S) → count ≡ 0
      → Appends (output_of remaining contents before) (output_of remaining contents after) (take count octets)
      → Keeps (sent_by remaining contents attempt relay before) (sent_by remaining contents attempt relay after)
  sends_none count octets relay before after none appends =
      let all : List ℕ = unwritten_at relay.hops attempt in
      moved (output_of remaining contents before) (output_of remaining contents after) (take count octets) all all
      appends (ap (λ (n : ℕ). take n octets ++ all) (sym none))

  -- nothing was written
  pub sends_on : (relay : RelayState D) (before after last : Channel S) → last ≡ after
      → KeepsOutput remaining contents before after
      → Keeps (sent_by remaining contents attempt relay before) (sent_by remaining contents attempt relay last)
  sends_on relay before after last is output =
      let all : List ℕ = unwritten_at relay.hops attempt in
      let same : sent_by remaining contents attempt relay after ≡ sent_by remaining contents attempt relay before =
      ap (λ (held : List ℕ). append_known (append_known (contents after.stream) held) all) output.held
      ∙ ap (λ (taken : Option (List ℕ)). append_known (append_known taken (held_of before)) all) output.taken in
      subst (λ (known : Option (List ℕ)). Keeps (sent_by remaining contents attempt relay before) known)
      (sym (ap (λ (it : Channel S). sent_by remaining contents attempt relay it) is ∙ same))
      (keeps_itself (sent_by remaining contents attempt relay before))
