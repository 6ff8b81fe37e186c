-- Attempts that a relay has dropped, and octets that it has written out.
use Rattle.std.proofs.Common.{inl, inr, ◌≡◌, ◌≢◌, ℕ, List, Option, None, Some, refl, sym, subst, ap, ◌∙◌}
use Rattle.std.specs.Prelude.{slice_get}
use Rattle.std.proofs.lemmas.Bool.Decides.{eqb_tells}
use Rattle.std.proofs.lemmas.List.{length-set}
use Rattle.relay_slots.specs.Slots.{slot_at}
use Rattle.relay_loop.specs.Calls.{DropSays}
use Rattle.relay_loop.specs.Relay.{RelayState}
use Rattle.relay_world.specs.declared.attempt.Attempt.{Attempt}
use Rattle.relay_world.specs.declared.attempt.Fate.TheVariants.{Dropped}
use Rattle.relay_world.specs.Steps.{DropsAttempt, IsPut}
use Rattle.relay_world.specs.World.{Host, World}
use Rattle.relay_daemon.specs.Events.{RefusingDrops, dropped_in}
use Rattle.relay_daemon.specs.Runs.{ReachesHop, RunsAt, host_with}
use Rattle.relay_daemon.proofs.LoseLemmas.{one_running}
use Rattle.relay_daemon.proofs.MoveLemmas.{not_both}
use Rattle.relay_daemon.proofs.PutLemmas.{value_put}
use Rattle.relay_daemon.proofs.StayLemmas.{client_stays}

module _ {D : Type 0} where
  module _ (world : World D) (node slot : ℕ) (waiting : List ℕ) (old new : RelayState D) (runs : RunsAt world node old)
      (reaches : ReachesHop world node slot waiting) (says : DropSays old new slot) where
    abbrev its_host : Host D
    its_host = host_with runs.host new.node

    abbrev its_attempt : Attempt
    its_attempt = record reaches.attempt { fate = Dropped }

    abbrev its_world : World D
    its_world = dropped_in world node old new runs reaches.place reaches.attempt

    attempt_put : IsPut world.attempts its_world.attempts reaches.place its_attempt
    attempt_put = value_put world.attempts reaches.place reaches.attempt its_attempt reaches.attempt_at

    dropped_event : DropsAttempt world its_world reaches.attempt.link
    dropped_event = record {
      of = record {
        link = reaches.link;
        link_is = reaches.link_is;
        place = reaches.place;
        client = reaches.client;
        attempt = reaches.attempt;
        attempt_at = reaches.attempt_at;
        slot = slot;
        runs = reaches.has.runs;
        host = runs.host;
        host_at = subst (λ n. slice_get world.hosts n ≡ Some runs.host) (sym reaches.has.its_node) runs.host_at;
        before = old.node;
        up = runs.up;
      };
      after = new.node;
      records = says.dropped.records;
      gone = says.dropped.attempt;
      others = says.only.attempts;
      config = says.only.config;
      seats = says.only.seats;
      hosts = subst (λ n. IsPut world.hosts its_world.hosts n its_host) (sym reaches.has.its_node)
          (value_put world.hosts node runs.host its_host runs.host_at);
      attempts = attempt_put;
      links = refl;
      ledger = refl;
      rest = (refl, length-set world.hosts node its_host);
    }

    hop_beside : (other : ℕ) (octets : List ℕ) → other ≢ slot → ReachesHop world node other octets
        → ReachesHop its_world node other octets
    hop_beside other octets off first = record {
      place = first.place;
      attempt = first.attempt;
      attempt_at = attempt_put.others first.place
          (λ same. off (one_running world node other slot octets waiting first reaches same)) ∙ first.attempt_at;
      has = first.has;
      link = first.link;
      link_is = first.link_is;
      client = first.client;
      unwritten = first.unwritten;
    }

    hop_there : (other : ℕ) (octets : List ℕ) → slot_at new.hops other ≡ Some octets
        → ReachesHop its_world node other octets
    hop_there other octets is =
        elim (eqb_tells other slot) [
          | inl same ↦
              absurd (not_both (slot_at new.hops slot) octets says.gone
              (ap (λ n. slot_at new.hops n) (sym same.1) ∙ is))
          | inr off ↦
              hop_beside other octets off.1 (runs.hops other octets (sym (says.only.hops other off.1) ∙ is))
        ]

    run_there : (other : ℕ) → slot_at new.hops other ≡ None → slot_at new.node.attempts other ≡ None
    run_there other none =
        elim (eqb_tells other slot) [
          | inl same ↦ ap (λ n. slot_at new.node.attempts n) same.1 ∙ says.dropped.attempt
          | inr off ↦
              says.only.attempts other off.1 ∙ runs.runs other (sym (says.only.hops other off.1) ∙ none)
        ]

    dropped_runs : RunsAt its_world node new
    dropped_runs = record {
      host = its_host;
      host_at = (value_put world.hosts node runs.host its_host runs.host_at).at;
      up = refl;
      clients = λ session octets is.
          client_stays world its_world node session octets refl
          (runs.clients session octets
          (ap (λ (t : List (Option (List ℕ))). slot_at t session) (sym says.only.clients) ∙ is));
      hops = hop_there;
      seats = λ session none.
          ap (λ (t : List (Option _)). slot_at t session) says.only.seats
          ∙ runs.seats session
          (ap (λ (t : List (Option (List ℕ))). slot_at t session) (sym says.only.clients) ∙ none);
      runs = run_there;
    }

  pub dropping : RefusingDrops D
  dropping world node slot waiting old new runs reaches says = (
    dropped_event world node slot waiting old new runs reaches says,
    dropped_runs world node slot waiting old new runs reaches says,
  )
