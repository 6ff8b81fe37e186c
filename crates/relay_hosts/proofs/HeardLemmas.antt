-- A link on which a node has heard octets, and answered.
use Rattle.std.proofs.Common.{◌≡◌, ◌+◌, ◌++◌, ℕ, Bool, true, false, List, [], ◌∷◌, length, refl, sym, ap, ◌∙◌, arith}
use Rattle.std.specs.Prelude.{if◌then◌else◌}
use Rattle.std.specs.Option.{option_map}
use Rattle.std.proofs.lemmas.List.{append-nil}
use Rattle.relay_node.specs.declared.receive.Received.{Received}
use Rattle.relay_world.specs.declared.link.Link.{Link}
use Rattle.relay_world.specs.HangUp.{broken_link}
use Rattle.relay_hosts.specs.Heard.{end_after, heard_on}

module _ (link one two : Link) (received : Received) (down : List ℕ)
    (one_is : one ≡ record link { up_read = link.up_read + received.used })
    (two_is : two ≡ record one { server = option_map (end_after received.close) one.server }) where
  -- the link that was read, with its server end after the call
  abbrev moved : Link
  moved = record link {
    server = option_map (end_after received.close) link.server;
    up_read = link.up_read + received.used;
  }

  both_is : two ≡ moved
  both_is =
      two_is
      ∙ ap (λ (l : Link). let next : Link = record l { server = option_map (end_after received.close) l.server } in next) one_is

  pub answered : link.broken ≡ false → down ≡ two.down ++ received.out.items → record two { down = down } ≡ heard_on link received
  answered whole written =
      ap (λ (l : Link). let next : Link = record l { down = down } in next) both_is
      ∙ ap (λ (d : List ℕ). let next : Link = record moved { down = d } in next)
      (written ∙ ap (λ (l : Link). l.down ++ received.out.items) both_is
      ∙ ap (λ (b : Bool). link.down ++ (if b then [] else received.out.items)) (sym whole))

  -- there was nothing to write
  pub answered_nothing : link.broken ≡ false → length received.out.items ≡ 0 → two ≡ heard_on link received
  answered_nothing whole none =
      both_is
      ∙ ap (λ (d : List ℕ). let next : Link = record moved { down = d } in next)
      (sym (append-nil link.down) ∙ ap (λ (l : List ℕ). link.down ++ l)
      (sym (ap (λ (b : Bool). if b then [] else received.out.items) whole ∙ no_octets received.out.items none)))
    where
      no_octets : (octets : List ℕ) → length octets ≡ 0 → octets ≡ []
      no_octets [] none = refl
      no_octets (octet ∷ octets) none = let never : ⊥ = omega (arith, none) in absurd never

  pub unanswered : down ≡ two.down → record two { down = down; broken = true } ≡ heard_on (broken_link link) received
  unanswered unwritten =
      ap (λ (l : Link). let next : Link = record l { down = down; broken = true } in next) both_is
      ∙ ap (λ (d : List ℕ). let next : Link = record moved { down = d; broken = true } in next)
      (unwritten ∙ ap (λ (l : Link). l.down) both_is ∙ sym (append-nil link.down))
