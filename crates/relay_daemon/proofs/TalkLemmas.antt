-- What is known of a connection of a relay that runs in a bound world.
use Rattle.std.proofs.Common.{◌≡◌, ◌∷◌, ℕ, List, [], Option, None, Some, refl, sym, subst, ap, ◌∙◌}
use Rattle.std.specs.Prelude.{slice_get}
use Rattle.std.specs.List.{AllByRecursion}
use Rattle.std.proofs.lemmas.Option.{same_Some}
use Rattle.relay_disk.specs.Device.{DiskWords}
use Rattle.relay_lines.specs.Reply.{Reply}
use Rattle.relay_routes.specs.declared.config.Config.{Config}
use Rattle.relay_server.specs.Dialogue.{Offered, Said}
use Rattle.relay_book.specs.declared.change.Change.{Change}
use Rattle.relay_meeting.specs.Joined.{output_with}
use Rattle.relay_node.specs.Node.{NodeState, SeatHasSaid}
use Rattle.relay_node.specs.Queued.{queued_in}
use Rattle.relay_loop.specs.Accepted.{AreAcceptedAs}
use Rattle.relay_loop.specs.Relay.{RelayState}
use Rattle.relay_world.specs.Bound.{IsBound, IsStored, MayHaveClosed, NodeKeeps, SaysThere, StateKeeps}
use Rattle.relay_world.specs.World.{Host, World}
use Rattle.relay_daemon.specs.Events.{ConnectionsTalk}
use Rattle.relay_daemon.specs.Runs.{RunsAt, ServesClient}
use Rattle.relay_daemon.proofs.LoseLemmas.{one_node}

not_closed : (session : ℕ) (closing : Option Reply) → MayHaveClosed (Some session) closing → closing ≡ None
not_closed session None may = refl
not_closed session (Some reply) may = absurd may

all_accepted : (config : Config) (peer : List ℕ) (changes : List Change) (queued : List (ℕ × Offered))
    → AllByRecursion (IsStored config peer changes) queued → AreAcceptedAs config peer changes queued
all_accepted config peer changes [] stored = tt
all_accepted config peer changes (one ∷ queued) stored = (
  record { at = stored.0.at; accept = stored.0.accept; is_accept = stored.0.is; change_is = stored.0.found },
  all_accepted config peer changes queued stored.1,
)

module _ {D : Type 0} (honest : Type 0) (words : DiskWords D) where
  -- what was said on the session of a client's link
  pub says_there : (world : World D) (lists : List (List Change)) (node session : ℕ) (waiting : List ℕ)
      (relay : RelayState D) → RunsAt world node relay → IsBound honest words world lists
      → ServesClient world node session waiting
      → (peer : List ℕ) × (said : Said) × SeatHasSaid relay.node.config relay.node.seats session peer said
  says_there world lists node session waiting relay runs bound serves =
      let served = bound.servers serves.number serves.link serves.has.end serves.link_is serves.has.serves in
      let there : SaysThere served.host (Some session) serves.has.end.peer served.serves.said =
      subst (λ s. SaysThere served.host s serves.has.end.peer served.serves.said) serves.has.its_session
      served.serves.live in
      let host : served.host ≡ runs.host = same_Some served.host runs.host
      (sym served.stands.host_at ∙ ap (λ n. slice_get world.hosts n) serves.has.its_node ∙ runs.host_at) in
      let same : there.0 ≡ relay.node = one_node served.host.state there.0 relay.node there.1
      (ap (λ (h : Host D). h.state) host ∙ runs.up) in
      let kept : NodeKeeps honest words served.host.config there.0 served.changes =
      subst (λ s. StateKeeps honest words served.host.config s served.changes) there.1
      (bound.hosts serves.has.end.node served.host served.changes served.stands).holds in (
        serves.has.end.peer,
        served.serves.said,
        subst (λ (n : NodeState D). SeatHasSaid n.config n.seats session serves.has.end.peer served.serves.said) same
            (subst (λ (c : Config). SeatHasSaid c there.0.seats session serves.has.end.peer served.serves.said)
            (sym kept.config_is) there.2),
      )

  pub talking : ConnectionsTalk honest words
  talking world lists node session waiting relay bound runs serves connected whole =
      let served = bound.servers serves.number serves.link serves.has.end serves.link_is serves.has.serves in
      let there : SaysThere served.host (Some session) serves.has.end.peer served.serves.said =
      subst (λ s. SaysThere served.host s serves.has.end.peer served.serves.said) serves.has.its_session
      served.serves.live in
      let host : served.host ≡ runs.host = same_Some served.host runs.host
      (sym served.stands.host_at ∙ ap (λ n. slice_get world.hosts n) serves.has.its_node ∙ runs.host_at) in
      let same : there.0 ≡ relay.node = one_node served.host.state there.0 relay.node there.1
      (ap (λ (h : Host D). h.state) host ∙ runs.up) in
      let kept : NodeKeeps honest words served.host.config there.0 served.changes =
      subst (λ s. StateKeeps honest words served.host.config s served.changes) there.1
      (bound.hosts serves.has.end.node served.host served.changes served.stands).holds in
      let config : served.host.config ≡ relay.node.config =
      sym kept.config_is ∙ ap (λ (n : NodeState D). n.config) same in
      let none : served.serves.closing ≡ None = not_closed session served.serves.closing
      (subst (λ s. MayHaveClosed s served.serves.closing) serves.has.its_session served.serves.closed) in
      let down : serves.link.down ≡ served.serves.said.output = served.serves.whole whole
      ∙ ap (λ c. output_with served.serves.said.output c) none in
      let written = serves.unwritten whole in
      record {
        changes = served.changes;
        said = served.serves.said;
        written = written.0;
        keeps = subst (λ (h : Host D). NodeKeeps honest words h.config relay.node served.changes) host
            (subst (λ (n : NodeState D). NodeKeeps honest words served.host.config n served.changes) same kept);
        talks = record {
          seat = subst (λ (c : Config). SeatHasSaid c relay.node.seats session serves.has.end.peer served.serves.said)
              config
              (subst (λ (n : NodeState D). SeatHasSaid served.host.config n.seats session serves.has.end.peer
              served.serves.said) same there.2);
          waiting = waiting;
          connection = connected;
          output = sym down ∙ written.1;
          accepted = subst
              (λ (c : Config). AreAcceptedAs c serves.has.end.peer served.changes (queued_in served.serves.said)) config
              (all_accepted served.host.config serves.has.end.peer served.changes (queued_in served.serves.said)
              served.serves.stored);
        };
        read = served.serves.input;
        wrote = written.1;
      }
