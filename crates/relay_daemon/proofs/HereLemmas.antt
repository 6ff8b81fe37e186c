-- Sessions and attempts of a relay, as the ends of links that an event names.
use Rattle.std.proofs.Common.{◌≡◌, ◌≢◌, ℕ, List, Option, None, Some, refl, sym, ap, ◌∙◌}
use Rattle.std.specs.Prelude.{slice_get}
use Rattle.std.proofs.lemmas.Option.{same_Some}
use Rattle.relay_world.specs.declared.attempt.Attempt.{Attempt}
use Rattle.relay_world.specs.declared.link.Link.{Link}
use Rattle.relay_world.specs.declared.link.ServerEnd.{ServerEnd}
use Rattle.relay_world.specs.Bound.{HasSession}
use Rattle.relay_world.specs.Steps.{AttemptOf, SessionOf}
use Rattle.relay_world.specs.World.{World, link_at}
use Rattle.relay_daemon.specs.Runs.{ReachesHop}
use Rattle.relay_daemon.proofs.LoseLemmas.{one_running}

-- a connection that is open has unwritten octets, or none
pub some_slot : (slot : Option (List ℕ)) → slot ≢ None → (waiting : List ℕ) × (slot ≡ Some waiting)
some_slot None is = absurd (is refl)
some_slot (Some waiting) is = (waiting, refl)

module _ {D : Type 0} where
  -- the session of a link is at the node whose session the link has
  pub session_here : (world : World D) (number node session : ℕ) (link : Link) (of : SessionOf world number)
      → link_at world.links number ≡ Some link → HasSession link node session → of.end.node ≡ node
  session_here world number node session link of is has =
      let same : of.link ≡ link = same_Some of.link link (sym of.link_is ∙ is) in
      let end : of.end ≡ has.end = same_Some of.end has.end
      (sym of.serves ∙ ap (λ (l : Link). l.server) same ∙ has.serves) in
      ap (λ (e : ServerEnd). e.node) end ∙ has.its_node

  -- the attempt of a link is the one whose link it is, and is at its node
  pub place_here : (world : World D) (node slot : ℕ) (waiting : List ℕ) (reaches : ReachesHop world node slot waiting)
      (of : AttemptOf world reaches.attempt.link) → of.place ≡ reaches.place
  place_here world node slot waiting reaches of =
      let link : of.link ≡ reaches.link = same_Some of.link reaches.link (sym of.link_is ∙ reaches.link_is) in
      same_Some of.place reaches.place (sym of.client ∙ ap (λ (l : Link). l.client) link ∙ reaches.client)

  pub attempt_here : (world : World D) (node slot : ℕ) (waiting : List ℕ) (reaches : ReachesHop world node slot waiting)
      (of : AttemptOf world reaches.attempt.link) → of.attempt.node ≡ node
  attempt_here world node slot waiting reaches of =
      let place : of.place ≡ reaches.place = place_here world node slot waiting reaches of in
      let attempt : of.attempt ≡ reaches.attempt = same_Some of.attempt reaches.attempt
      (sym of.attempt_at ∙ ap (λ n. slice_get world.attempts n) place ∙ reaches.attempt_at) in
      ap (λ (a : Attempt). a.node) attempt ∙ reaches.has.its_node

  -- connections to hops of two attempts have two links
  pub other_link : (world : World D) (node one other : ℕ) (waiting octets : List ℕ)
      (first : ReachesHop world node one waiting) (second : ReachesHop world node other octets) → one ≢ other
      → first.attempt.link ≢ second.attempt.link
  other_link world node one other waiting octets first second off same =
      let link : first.link ≡ second.link = same_Some first.link second.link
      (sym first.link_is ∙ ap (λ n. link_at world.links n) same ∙ second.link_is) in
      off (one_running world node one other waiting octets first second
      (same_Some first.place second.place (sym first.client ∙ ap (λ (l : Link). l.client) link ∙ second.client)))
