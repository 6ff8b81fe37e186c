-- A client that a relay has accepted.
use Rattle.std.proofs.Common.{inl, inr, ◌≡◌, ◌≢◌, ℕ, zero, suc, List, [], Option, None, Some, length, refl, sym, subst, ap, ◌∙◌, arith}
use Rattle.std.specs.Global.{Vec}
use Rattle.std.specs.Option.{is_none}
use Rattle.std.proofs.lemmas.Bool.{true≢false}
use Rattle.std.proofs.lemmas.Bool.Decides.{eqb_tells}
use Rattle.std.proofs.lemmas.List.{length-set}
use Rattle.relay_routes.specs.declared.config.Config.{Config}
use Rattle.relay_slots.specs.Slots.{slot_at}
use Rattle.relay_node.specs.Node.{SeatHasSaid, greeted_by}
use Rattle.relay_loop.specs.Calls.{AcceptSays}
use Rattle.relay_loop.specs.Clients.{TalksTo}
use Rattle.relay_loop.specs.Outboxes.{octets_of, unwritten_at}
use Rattle.relay_loop.specs.Relay.{RelayState}
use Rattle.relay_world.specs.declared.link.Link.{Link}
use Rattle.relay_world.specs.Steps.{HasOpened, IsPutAt}
use Rattle.relay_world.specs.World.{Host, World, link_at}
use Rattle.relay_daemon.specs.Events.{AcceptingOpens, greeted_link, opened}
use Rattle.relay_daemon.specs.Runs.{ReachesHop, RunsAt, ServesClient, host_with}
use Rattle.relay_daemon.proofs.MoveLemmas.{client_beside, hop_beside, not_both}
use Rattle.relay_daemon.proofs.PutLemmas.{get_within, put_at_push, value_put}

-- a link that exists has a number that isn't the next one
pub not_next : (links : List Link) (number : ℕ) (link : Link) → link_at links number ≡ Some link
    → number ≢ suc (length links)
not_next links zero link is same = absurd (true≢false (ap is_none is))
not_next links (suc n) link is same = let within = get_within links n link is in absurd (omega (arith, within, same))

module _ {D : Type 0} where
  module _ (world : World D) (node session : ℕ) (peer : List ℕ) (old new : RelayState D)
      (runs : RunsAt world node old) (says : AcceptSays old new peer session) where
    abbrev its_world : World D
    its_world = opened world node old new runs peer session

    abbrev its_host : Host D
    its_host = host_with runs.host new.node

    abbrev its_link : Link
    its_link = greeted_link world node old new runs peer session

    abbrev greeting : List ℕ
    greeting = unwritten_at new.clients session

    talk : TalksTo [] new session peer (greeted_by greeting) []
    talk = says.talks []

    abbrev out : Vec ℕ
    out = record {
      ptr = talk.seat.seat.session.ptr;
      len = length greeting;
      cap = length greeting;
      alloc = talk.seat.seat.session.alloc;
      items = greeting;
      ok = (refl, omega arith);
      small = says.short;
    }

    put : IsPutAt world.links its_world.links (suc (length world.links)) its_link
    put = put_at_push world.links its_link

    opened_event : HasOpened world its_world node peer
    opened_event = record {
      host = runs.host;
      host_at = runs.host_at;
      before = old.node;
      up = runs.up;
      after = new.node;
      connected = record { session = session; out = out };
      connects = record {
        free = says.free;
        says = subst (λ (c : Config). SeatHasSaid c new.node.seats session peer (greeted_by greeting))
            says.only.config talk.seat;
        others = says.only.seats;
      };
      records = says.records;
      config = says.only.config;
      attempts = says.only.attempts;
      hosts = value_put world.hosts node runs.host its_host runs.host_at;
      links = put;
      rest = (refl, refl, refl, length-set world.hosts node its_host);
    }

    client_new : (other : ℕ) (waiting : List ℕ) → other ≡ session → slot_at new.clients other ≡ Some waiting
        → ServesClient its_world node other waiting
    client_new other waiting same is = record {
      number = suc (length world.links);
      link = its_link;
      link_is = put.at;
      has = record {
        end = record { node = node; peer = peer; session = Some session };
        serves = refl;
        its_node = refl;
        its_session = ap (λ (n : ℕ). Some n) (sym same);
      };
      unwritten = λ whole. ([], ap octets_of (ap (λ n. slot_at new.clients n) (sym same) ∙ is));
    }

    client_old : (other : ℕ) (waiting : List ℕ) → ServesClient world node other waiting
        → ServesClient its_world node other waiting
    client_old other waiting serves =
        client_beside world its_world node other waiting (suc (length world.links)) its_link put serves
        (not_next world.links serves.number serves.link serves.link_is)

    hop_old : (slot : ℕ) (waiting : List ℕ) → ReachesHop world node slot waiting
        → ReachesHop its_world node slot waiting
    hop_old slot waiting reaches =
        hop_beside world its_world node slot waiting (suc (length world.links)) its_link put reaches refl
        (not_next world.links reaches.attempt.link reaches.link reaches.link_is)

    client_there : (other : ℕ) (waiting : List ℕ) → slot_at new.clients other ≡ Some waiting
        → ServesClient its_world node other waiting
    client_there other waiting is =
        elim (eqb_tells other session) [
          | inl same ↦ client_new other waiting same.1 is
          | inr off ↦
              client_old other waiting (runs.clients other waiting (sym (says.only.clients other off.1) ∙ is))
        ]

    seat_there : (other : ℕ) → slot_at new.clients other ≡ None → slot_at new.node.seats other ≡ None
    seat_there other none =
        elim (eqb_tells other session) [
          | inl same ↦
              absurd (not_both (slot_at new.clients session) talk.waiting
              (ap (λ n. slot_at new.clients n) (sym same.1) ∙ none) talk.connection)
          | inr off ↦
              says.only.seats other off.1 ∙ runs.seats other (sym (says.only.clients other off.1) ∙ none)
        ]

    opened_runs : RunsAt its_world node new
    opened_runs = record {
      host = its_host;
      host_at = (value_put world.hosts node runs.host its_host runs.host_at).at;
      up = refl;
      clients = client_there;
      hops = λ slot waiting is.
          hop_old slot waiting
          (runs.hops slot waiting (ap (λ (t : List (Option (List ℕ))). slot_at t slot) (sym says.only.hops) ∙ is));
      seats = seat_there;
      runs = λ slot none.
          ap (λ (t : List (Option _)). slot_at t slot) says.only.attempts
          ∙ runs.runs slot (ap (λ (t : List (Option (List ℕ))). slot_at t slot) (sym says.only.hops) ∙ none);
    }

  pub accepting : AcceptingOpens D
  accepting world node session peer old new runs says =
      (opened_event world node session peer old new runs says, opened_runs world node session peer old new runs says)
