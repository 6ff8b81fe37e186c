-- A client that a relay has heard by itself: its octets were used, and the accept of its mail is recorded.
use Rattle.std.proofs.Common.{inl, inr, ◌≡◌, ◌≤◌, ◌-◌, ◌++◌, ◌∷◌, ℕ, List, [], Option, None, Some, length, refl, sym}
use Rattle.std.proofs.Common.{subst, ap, ◌∙◌}
use Rattle.std.specs.Prelude.{slice_get, slice_set}
use Rattle.std.proofs.lemmas.Bool.Decides.{eqb_tells}
use Rattle.std.proofs.lemmas.List.{length-set}
use Rattle.relay_disk.specs.Device.{DiskWords}
use Rattle.relay_slots.specs.Slots.{slot_at}
use Rattle.relay_routes.specs.declared.config.Config.{Config}
use Rattle.relay_server.specs.Dialogue.{Offered, Said}
use Rattle.relay_book.specs.declared.change.Change.{Change}
use Rattle.relay_records.specs.declared.noted.Noted.{Noted}
use Rattle.relay_records.specs.Records.{Kept}
use Rattle.relay_node.specs.declared.receive.Received.{Received}
use Rattle.relay_node.specs.Node.{Makes, Receives, SessionGoesOn}
use Rattle.relay_loop.specs.declared.clients.Heard.{Heard}
use Rattle.relay_loop.specs.Called.{told_of}
use Rattle.relay_loop.specs.Calls.{HearSays}
use Rattle.relay_loop.specs.Relay.{RelayState}
use Rattle.relay_world.specs.declared.line.Line.{Line}
use Rattle.relay_world.specs.declared.line.Line.TheVariants.{Accepted}
use Rattle.relay_world.specs.declared.link.Link.{Link}
use Rattle.relay_world.specs.Bound.{IsBound}
use Rattle.relay_world.specs.Steps.{HasHeard, IsPut, IsPutAt, RecordsHeard, SessionOf, heard_link, session_after}
use Rattle.relay_world.specs.World.{Host, Up, World}
use Rattle.relay_daemon.specs.Events.{HearingHears}
use Rattle.relay_daemon.specs.Given.{ClientWrote}
use Rattle.relay_daemon.specs.Runs.{ReachesHop, RunsAt, ServesClient, host_with, host_with_note}
use Rattle.relay_daemon.proofs.HearLemmas.{after_open, set_closed, set_open, whole_written}
use Rattle.relay_daemon.proofs.KeepLemmas.{its_changes, its_keeps}
use Rattle.relay_daemon.proofs.MoveLemmas.{client_beside, hop_moved, one_session}
use Rattle.relay_daemon.proofs.PutLemmas.{link_put, value_put}
use Rattle.relay_daemon.proofs.TalkLemmas.{says_there}

-- the note of the change that a call has recorded, if it has recorded one
abbrev NoteOf : {D : Type 0} → Kept D → Option ℕ → Type 0
NoteOf new None = Unit {0}
NoteOf new (Some change) = (noted : Noted) × (new.noted ≡ Some noted)

module _ {D : Type 0} (honest : Type 0) (words : DiskWords D) where
  note_of : (config : Config) (changes : List Change) (peer : List ℕ) (at : ℕ) (said later : Said)
      (refused : List Offered) (used : ℕ) (old new : Kept D) (change : Option ℕ)
      → Makes honest words config changes peer at said later refused used old new change → NoteOf new change
  note_of config changes peer at said later refused used old new None makes = tt
  note_of config changes peer at said later refused used old new (Some change) makes =
      (makes.adds.noted.note, makes.adds.noted.is)

  module _ (world : World D) (lists : List (List Change)) (node session : ℕ) (octets : List ℕ) (heard : Heard)
      (old new : RelayState D) (runs : RunsAt world node old) (bound : IsBound honest words world lists)
      (wrote : ClientWrote world node session octets)
      (says : HearSays honest words old new world.clock session octets heard) where
    abbrev serves : ServesClient world node session []
    serves = wrote.serves

    abbrev received : Received
    received = says.hears.received

    abbrev its_link : Link
    its_link = heard_link serves.link serves.has.end session received

    abbrev its : SessionOf world serves.number
    its = record {
      link = serves.link;
      link_is = serves.link_is;
      end = serves.has.end;
      serves = serves.has.serves;
      session = session;
      goes_on = serves.has.its_session;
      host = runs.host;
      host_at = subst (λ n. slice_get world.hosts n ≡ Some runs.host) (sym serves.has.its_node) runs.host_at;
      before = old.node;
      up = runs.up;
    }

    abbrev next_world : Host D → List Line → World D
    next_world host ledger = record world {
      hosts = slice_set world.hosts node host;
      links = slice_set world.links (serves.number - 1) its_link;
      ledger = ledger;
    }

    -- what becomes of the host and the ledger by what was recorded
    record Made (change : Option ℕ) : Type 0 where
      host : Host D
      up : host.state ≡ Up (told_of change new).node
      ledger : List Line
      records : RecordsHeard world (next_world host ledger) its.end.node serves.number its.host new.node change

    host_put : (host : Host D) → IsPut world.hosts (slice_set world.hosts node host) its.end.node host
    host_put host =
        subst (λ n. IsPut world.hosts (slice_set world.hosts node host) n host) (sym serves.has.its_node)
        (value_put world.hosts node runs.host host runs.host_at)

    made : (change : Option ℕ) → NoteOf new.node.records change → Made change
    made None note = record {
      host = host_with runs.host new.node;
      up = refl;
      ledger = world.ledger;
      records = (host_put (host_with runs.host new.node), refl);
    }
    made (Some change) note = record {
      host = host_with_note runs.host new.node note.0;
      up = refl;
      ledger = world.ledger ++ Accepted its.end.node change note.0.accepted serves.number ∷ [];
      records = (note.0, note.1, host_put (host_with_note runs.host new.node note.0), refl);
    }

    abbrev changes : List Change
    changes = its_changes honest words world lists node old runs bound

    abbrev peer : List ℕ
    peer = (says_there honest words world lists node session [] old runs bound serves).0

    abbrev said : Said
    said = (says_there honest words world lists node session [] old runs bound serves).1

    -- what was said on the session after the call
    heard_so : Receives honest words old.node.config changes peer world.clock session said octets old.node new.node
        received
    heard_so =
        says.hears.receives changes peer said (its_keeps honest words world lists node old runs bound)
        (says_there honest words world lists node session [] old runs bound serves).2

    it : Made received.change
    it =
        made received.change
        (note_of old.node.config changes peer world.clock said heard_so.later heard_so.talks.refused received.used
        old.node.records new.node.records received.change heard_so.talks.makes)

    abbrev its_world : World D
    its_world = next_world it.host it.ledger

    put : IsPutAt world.links its_world.links serves.number its_link
    put = link_put world.links serves.number serves.link its_link serves.link_is

    heard_event : HasHeard honest words world its_world serves.number (length octets)
    heard_event = record {
      of = its;
      after = new.node;
      received = received;
      receives = λ list exchange keeps seat.
          subst (λ o. Receives honest words old.node.config list serves.has.end.peer world.clock session exchange o
          old.node new.node received) (sym wrote.unread)
          (says.hears.receives list serves.has.end.peer exchange keeps seat);
      used = subst (λ o. received.used ≤ length o) (sym wrote.unread)
          (subst (λ n. n ≤ length octets) says.hears.heard_is.used says.within);
      others = says.only.seats;
      config = says.only.config;
      attempts = says.only.attempts;
      links = put;
      records = it.records;
      rest = (refl, refl, length-set world.hosts node it.host);
    }

    client_new : (other : ℕ) (waiting : List ℕ) → other ≡ session → slot_at new.clients other ≡ Some waiting
        → ServesClient its_world node other waiting
    client_new other waiting same is =
        let set = set_open received.close session received.out.items heard.last new.clients says.hears.set waiting
        (ap (λ n. slot_at new.clients n) (sym same) ∙ is) in
        record {
          number = serves.number;
          link = its_link;
          link_is = put.at;
          has = record {
            end = record serves.has.end { session = session_after received.close session };
            serves = refl;
            its_node = serves.has.its_node;
            its_session = after_open received.close session set.0 ∙ ap (λ (n : ℕ). Some n) (sym same);
          };
          unwritten = λ whole. (
            serves.link.down,
            ap (λ (o : List ℕ). serves.link.down ++ o)
                (whole_written serves.link received.out.items whole ∙ set.1),
          );
        }

    client_there : (other : ℕ) (waiting : List ℕ) → slot_at new.clients other ≡ Some waiting
        → ServesClient its_world node other waiting
    client_there other waiting is =
        elim (eqb_tells other session) [
          | inl same ↦ client_new other waiting same.1 is
          | inr off ↦
              let first = runs.clients other waiting (sym (says.only.clients other off.1) ∙ is) in
              client_beside world its_world node other waiting serves.number its_link put first
              (λ same. off.1 (one_session world node other session waiting [] first serves same))
        ]

    hop_there : (slot : ℕ) (waiting : List ℕ) → slot_at new.hops slot ≡ Some waiting
        → ReachesHop its_world node slot waiting
    hop_there slot waiting is =
        hop_moved world its_world node slot waiting serves.number serves.link its_link serves.link_is put refl refl refl
        (runs.hops slot waiting (ap (λ (t : List (Option (List ℕ))). slot_at t slot) (sym says.only.hops) ∙ is)) refl

    seat_there : (other : ℕ) → slot_at new.clients other ≡ None → slot_at new.node.seats other ≡ None
    seat_there other none =
        elim (eqb_tells other session) [
          | inl same ↦
              ap (λ n. slot_at new.node.seats n) same.1
              ∙ (subst (λ c. SessionGoesOn old.node.config new.node.seats session peer heard_so.later c)
              (set_closed received.close session received.out.items heard.last new.clients says.hears.set
              (ap (λ n. slot_at new.clients n) (sym same.1) ∙ none)) heard_so.goes_on).0
          | inr off ↦
              says.only.seats other off.1 ∙ runs.seats other (sym (says.only.clients other off.1) ∙ none)
        ]

    run_there : (slot : ℕ) → slot_at new.hops slot ≡ None → slot_at new.node.attempts slot ≡ None
    run_there slot none =
        ap (λ (t : List (Option _)). slot_at t slot) says.only.attempts
        ∙ runs.runs slot (ap (λ (t : List (Option (List ℕ))). slot_at t slot) (sym says.only.hops) ∙ none)

    runs_told : (change : Option ℕ) (host : Host D) → slice_get its_world.hosts node ≡ Some host
        → host.state ≡ Up (told_of change new).node → RunsAt its_world node (told_of change new)
    runs_told None host at up = record {
      host = host;
      host_at = at;
      up = up;
      clients = client_there;
      hops = hop_there;
      seats = seat_there;
      runs = run_there;
    }
    runs_told (Some change) host at up = record {
      host = host;
      host_at = at;
      up = up;
      clients = client_there;
      hops = hop_there;
      seats = seat_there;
      runs = run_there;
    }

    pub heard_there : (next : World D) × HasHeard honest words world next serves.number (length octets)
        × RunsAt next node (told_of heard.change new)
    heard_there = (
      its_world,
      heard_event,
      subst (λ c. RunsAt its_world node (told_of c new)) (sym says.hears.heard_is.change)
          (runs_told received.change it.host (value_put world.hosts node runs.host it.host runs.host_at).at it.up),
    )

  pub hearing_one : HearingHears honest words
  hearing_one world lists node session octets heard old new runs bound wrote says =
      heard_there world lists node session octets heard old new runs bound wrote says
