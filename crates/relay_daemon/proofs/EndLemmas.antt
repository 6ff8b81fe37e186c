-- A session that a relay has ended.
use Rattle.std.proofs.Common.{inl, inr, ◌≡◌, ◌≢◌, ◌++◌, ℕ, List, Option, None, Some, refl, sym, subst, ap, ◌∙◌}
use Rattle.std.specs.Prelude.{slice_get}
use Rattle.std.proofs.lemmas.Bool.Decides.{eqb_tells}
use Rattle.std.proofs.lemmas.List.{length-set}
use Rattle.relay_slots.specs.Slots.{slot_at}
use Rattle.relay_lines.specs.Reply.{Reply, one_line}
use Rattle.relay_loop.proofs.Theorems.{closing_is_reply}
use Rattle.relay_loop.specs.Calls.{EndSays}
use Rattle.relay_loop.specs.Closing.{text_of}
use Rattle.relay_loop.specs.Relay.{RelayState}
use Rattle.relay_world.specs.declared.link.Link.{Link}
use Rattle.relay_world.specs.Steps.{EndsWith, IsPut, IsPutAt, ended_link}
use Rattle.relay_world.specs.World.{Host, World}
use Rattle.relay_daemon.specs.Events.{CuttingOffCloses, EndingEnds, ended}
use Rattle.relay_daemon.specs.Runs.{RunsAt, ServesClient, host_with}
use Rattle.relay_daemon.proofs.MoveLemmas.{client_beside, hop_moved, not_both, one_session}
use Rattle.relay_daemon.proofs.PutLemmas.{link_put, value_put}

module _ {D : Type 0} where
  module _ (world : World D) (node session : ℕ) (last : List ℕ) (old new : RelayState D) (runs : RunsAt world node old)
      (says : EndSays old new session last) (serves : ServesClient world node session last)
      (closing : Option Reply) where
    abbrev its_world : World D
    its_world = ended world node old new runs serves.number serves.link serves.has.end closing

    abbrev its_host : Host D
    its_host = host_with runs.host new.node

    abbrev its_link : Link
    its_link = ended_link serves.link serves.has.end closing

    put : IsPutAt world.links its_world.links serves.number its_link
    put = link_put world.links serves.number serves.link its_link serves.link_is

    pub ended_event : EndsWith world its_world serves.number closing
    ended_event = record {
      of = record {
        link = serves.link;
        link_is = serves.link_is;
        end = serves.has.end;
        serves = serves.has.serves;
        session = session;
        goes_on = serves.has.its_session;
        host = runs.host;
        host_at = subst (λ n. slice_get world.hosts n ≡ Some runs.host) (sym serves.has.its_node) runs.host_at;
        before = old.node;
        up = runs.up;
      };
      after = new.node;
      records = says.records;
      gone = says.seat;
      others = says.only.seats;
      config = says.only.config;
      attempts = says.only.attempts;
      hosts = subst (λ n. IsPut world.hosts its_world.hosts n its_host) (sym serves.has.its_node)
          (value_put world.hosts node runs.host its_host runs.host_at);
      links = put;
      rest = (refl, refl, refl, length-set world.hosts node its_host);
    }

    -- another session's link is another one
    beside : (other : ℕ) (waiting : List ℕ) → other ≢ session → ServesClient world node other waiting
        → ServesClient its_world node other waiting
    beside other waiting off first =
        client_beside world its_world node other waiting serves.number its_link put first
        (λ same. off (one_session world node other session waiting last first serves same))

    client_there : (other : ℕ) (waiting : List ℕ) → slot_at new.clients other ≡ Some waiting
        → ServesClient its_world node other waiting
    client_there other waiting is =
        elim (eqb_tells other session) [
          | inl same ↦
              absurd (not_both (slot_at new.clients session) waiting says.gone
              (ap (λ n. slot_at new.clients n) (sym same.1) ∙ is))
          | inr off ↦
              beside other waiting off.1 (runs.clients other waiting (sym (says.only.clients other off.1) ∙ is))
        ]

    seat_there : (other : ℕ) → slot_at new.clients other ≡ None → slot_at new.node.seats other ≡ None
    seat_there other none =
        elim (eqb_tells other session) [
          | inl same ↦ ap (λ n. slot_at new.node.seats n) same.1 ∙ says.seat
          | inr off ↦
              says.only.seats other off.1 ∙ runs.seats other (sym (says.only.clients other off.1) ∙ none)
        ]

    pub ended_runs : RunsAt its_world node new
    ended_runs = record {
      host = its_host;
      host_at = (value_put world.hosts node runs.host its_host runs.host_at).at;
      up = refl;
      clients = client_there;
      hops = λ slot waiting is. hop_moved world its_world node slot waiting serves.number serves.link its_link
          serves.link_is put refl refl refl
          (runs.hops slot waiting (ap (λ (t : List (Option (List ℕ))). slot_at t slot) (sym says.only.hops) ∙ is)) refl;
      seats = seat_there;
      runs = λ slot none.
          ap (λ (t : List (Option _)). slot_at t slot) says.only.attempts
          ∙ runs.runs slot (ap (λ (t : List (Option (List ℕ))). slot_at t slot) (sym says.only.hops) ∙ none);
    }

  pub ending : EndingEnds D
  ending world node session last old new runs says serves = (
    ended_event world node session last old new runs says serves None,
    ended_runs world node session last old new runs says serves None,
  )

  pub cutting_off : CuttingOffCloses D
  cutting_off world node session last why old new runs named says serves =
      let reply = one_line 421 (old.node.config.host ++ text_of why) in (
        record {
          formed = closing_is_reply old.node.config.host why named;
          code = refl;
          ends = ended_event world node session last old new runs says serves (Some reply);
        },
        ended_runs world node session last old new runs says serves (Some reply),
      )
