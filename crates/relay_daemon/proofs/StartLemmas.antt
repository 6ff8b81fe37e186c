-- An attempt that a relay has begun.
use Rattle.std.proofs.Common.{inl, inr, ◌≡◌, ◌≢◌, ℕ, List, [], Option, None, Some, length, refl, sym, ap, ◌∙◌, arith}
use Rattle.std.specs.Prelude.{slice_get}
use Rattle.std.proofs.lemmas.Bool.Decides.{eqb_tells}
use Rattle.std.proofs.lemmas.List.{length-set}
use Rattle.std.proofs.lemmas.Option.{same_Some}
use Rattle.relay_disk.specs.Device.{DiskWords}
use Rattle.relay_routes.specs.declared.config.Config.{Config}
use Rattle.relay_slots.specs.Slots.{slot_at}
use Rattle.relay_attempts.specs.declared.start.Started.{Started}
use Rattle.relay_loop.specs.Calls.{StartSays}
use Rattle.relay_loop.specs.Relay.{RelayState}
use Rattle.relay_world.specs.declared.attempt.Attempt.{Attempt}
use Rattle.relay_world.specs.declared.link.Link.{Link}
use Rattle.relay_world.specs.HopLinks.{IsLinkedToHop, LeadsTo}
use Rattle.relay_world.specs.Steps.{HasStarted, IsBlank, IsPut, IsPutAt}
use Rattle.relay_world.specs.World.{Host, World, link_at}
use Rattle.relay_daemon.specs.Events.{LeadsToHop, StartingStarts, begun, begun_attempt}
use Rattle.relay_daemon.specs.Runs.{ReachesHop, RunsAt, ServesClient, host_with}
use Rattle.relay_daemon.proofs.AcceptLemmas.{not_next}
use Rattle.relay_daemon.proofs.MoveLemmas.{client_beside, client_moved, hop_beside, not_both}
use Rattle.relay_daemon.proofs.PutLemmas.{get_within, put_push, value_put}

-- a place of a value isn't the one after the last
not_after : {A : Type 0} (xs : List A) (place : ℕ) (x : A) → slice_get xs place ≡ Some x → place ≢ length xs
not_after xs place x is same = let within = get_within xs place x is in absurd (omega (arith, within, same))

module _ {D : Type 0} (honest : Type 0) (words : DiskWords D) where
  module _ (world : World D) (node message number : ℕ) (hop : List ℕ) (started : Started) (old new : RelayState D)
      (runs : RunsAt world node old) (blank : Link) (links : List Link)
      (says : StartSays honest words old new message hop world.clock started) (is_blank : IsBlank world number blank)
      (leads : LeadsToHop world runs.host hop blank)
      (put : IsPutAt world.links links number (record blank { client = Some (length world.attempts) })) where
    abbrev its_world : World D
    its_world = begun world node old new runs message hop started number links

    abbrev its_host : Host D
    its_host = host_with runs.host new.node

    abbrev its_link : Link
    its_link = record blank { client = Some (length world.attempts) }

    abbrev its_attempt : Attempt
    its_attempt = begun_attempt world node old new runs message hop started number

    host_put : IsPut world.hosts its_world.hosts node its_host
    host_put = value_put world.hosts node runs.host its_host runs.host_at

    attempt_put : IsPut world.attempts its_world.attempts (length world.attempts) its_attempt
    attempt_put = put_push world.attempts its_attempt

    -- each host has the configuration that it had
    was_there : (at : ℕ) (host : Host D) → slice_get its_world.hosts at ≡ Some host
        → (was : Host D) × (slice_get world.hosts at ≡ Some was) × (was.config ≡ host.config)
    was_there at host is =
        elim (eqb_tells at node) [
          | inl same ↦ (
            runs.host,
            ap (λ n. slice_get world.hosts n) same.1 ∙ runs.host_at,
            ap (λ (h : Host D). h.config)
                (same_Some its_host host (sym host_put.at ∙ ap (λ n. slice_get its_world.hosts n) (sym same.1) ∙ is)),
          )
          | inr off ↦ (host, sym (host_put.others at off.1) ∙ is, refl)
        ]

    is_there : (at : ℕ) (was : Host D) → slice_get world.hosts at ≡ Some was
        → (host : Host D) × (slice_get its_world.hosts at ≡ Some host) × (host.config ≡ was.config)
    is_there at was is =
        elim (eqb_tells at node) [
          | inl same ↦ (
            its_host,
            ap (λ n. slice_get its_world.hosts n) same.1 ∙ host_put.at,
            ap (λ (h : Host D). h.config)
                (same_Some runs.host was (sym runs.host_at ∙ ap (λ n. slice_get world.hosts n) (sym same.1) ∙ is)),
          )
          | inr off ↦ (was, host_put.others at off.1 ∙ is, refl)
        ]

    leads_to : (to : ℕ) (host : Host D) → slice_get its_world.hosts to ≡ Some host → host.config.host ≡ hop
        → LeadsTo its_world its_attempt its_link to
    leads_to to host is named =
        let was = was_there to host is in
        let there = leads.to_node to was.0 was.1 (ap (λ (c : Config). c.host) was.2 ∙ named) in
        record {
          end = there.0;
          serves = there.1;
          its_node = there.2;
          from = λ opener opens.
              there.3
              ∙ ap (λ (h : Host D). h.config.listen.ip.octets) (same_Some its_host opener (sym host_put.at ∙ opens));
        }

    linked : IsLinkedToHop its_world its_attempt
    linked = record {
      link = its_link;
      its_link = put.at;
      to_node = leads_to;
      to_outside = λ none. leads.to_outside (λ at was is named.
          let host = is_there at was is in
          none at host.0 host.1 (ap (λ (c : Config). c.host) host.2 ∙ named));
    }

    started_event : HasStarted honest words world its_world number message hop
    started_event = record {
      attempt = its_attempt;
      host = runs.host;
      host_at = runs.host_at;
      before = old.node;
      up = runs.up;
      after = new.node;
      started = started;
      begins = λ changes keeps. (says.starts changes keeps).begins;
      records = says.records;
      config = says.only.config;
      seats = says.only.seats;
      is_attempt = (refl, refl, refl, refl, refl, refl);
      blank = blank;
      is_blank = is_blank;
      hosts = host_put;
      links = put;
      attempts = attempt_put;
      linked = linked;
      rest = (refl, refl, length-set world.hosts node its_host);
    }

    client_old : (session : ℕ) (waiting : List ℕ) → ServesClient world node session waiting
        → ServesClient its_world node session waiting
    client_old session waiting serves =
        elim is_blank.there [
          | inl there ↦
              client_moved world its_world node session waiting number blank its_link there put refl refl refl serves
          | inr next ↦
              client_beside world its_world node session waiting number its_link put serves (λ same.
              not_next world.links serves.number serves.link serves.link_is (same ∙ next.0))
        ]

    -- no attempt was on the link yet
    off_link : (slot : ℕ) (waiting : List ℕ) (reaches : ReachesHop world node slot waiting)
        → reaches.attempt.link ≢ number
    off_link slot waiting reaches same =
        elim is_blank.there [
          | inl there ↦
              not_both blank.client reaches.place is_blank.client
              (ap (λ (l : Link). l.client)
              (same_Some blank reaches.link
              (sym there ∙ ap (λ n. link_at world.links n) (sym same) ∙ reaches.link_is)) ∙ reaches.client)
          | inr next ↦
              not_next world.links reaches.attempt.link reaches.link reaches.link_is (same ∙ next.0)
        ]

    hop_old : (slot : ℕ) (waiting : List ℕ) → ReachesHop world node slot waiting
        → ReachesHop its_world node slot waiting
    hop_old slot waiting reaches =
        hop_beside world its_world node slot waiting number its_link put reaches
        (attempt_put.others reaches.place (not_after world.attempts reaches.place reaches.attempt reaches.attempt_at))
        (off_link slot waiting reaches)

    hop_new : (slot : ℕ) (waiting : List ℕ) → slot ≡ started.attempt → slot_at new.hops slot ≡ Some waiting
        → ReachesHop its_world node slot waiting
    hop_new slot waiting same is = record {
      place = length world.attempts;
      attempt = its_attempt;
      attempt_at = attempt_put.at;
      has = record {
        its_node = refl;
        runs = ap (λ n. (begun_attempt world node old new runs message hop (record started { attempt = n }) number).fate)
            (sym same);
      };
      link = its_link;
      link_is = put.at;
      client = refl;
      unwritten = λ whole. (
        [],
        is_blank.up
            ∙ same_Some [] waiting (sym says.connection ∙ ap (λ n. slot_at new.hops n) (sym same) ∙ is),
      );
    }

    hop_there : (slot : ℕ) (waiting : List ℕ) → slot_at new.hops slot ≡ Some waiting
        → ReachesHop its_world node slot waiting
    hop_there slot waiting is =
        elim (eqb_tells slot started.attempt) [
          | inl same ↦ hop_new slot waiting same.1 is
          | inr off ↦ hop_old slot waiting (runs.hops slot waiting (sym (says.only.hops slot off.1) ∙ is))
        ]

    run_there : (slot : ℕ) → slot_at new.hops slot ≡ None → slot_at new.node.attempts slot ≡ None
    run_there slot none =
        elim (eqb_tells slot started.attempt) [
          | inl same ↦
              absurd (not_both (slot_at new.hops started.attempt) []
              (ap (λ n. slot_at new.hops n) (sym same.1) ∙ none) says.connection)
          | inr off ↦
              says.only.attempts slot off.1 ∙ runs.runs slot (sym (says.only.hops slot off.1) ∙ none)
        ]

    started_runs : RunsAt its_world node new
    started_runs = record {
      host = its_host;
      host_at = host_put.at;
      up = refl;
      clients = λ session waiting is.
          client_old session waiting
          (runs.clients session waiting
          (ap (λ (t : List (Option (List ℕ))). slot_at t session) (sym says.only.clients) ∙ is));
      hops = hop_there;
      seats = λ session none.
          ap (λ (t : List (Option _)). slot_at t session) says.only.seats
          ∙ runs.seats session
          (ap (λ (t : List (Option (List ℕ))). slot_at t session) (sym says.only.clients) ∙ none);
      runs = run_there;
    }

  pub starting : StartingStarts honest words
  starting world node message number hop started old new runs blank links says is_blank leads put = (
    started_event world node message number hop started old new runs blank links says is_blank leads put,
    started_runs world node message number hop started old new runs blank links says is_blank leads put,
  )
