-- A client that a relay has heard in a group: its octets were used, and the accept of its mail is staged.
use Rattle.std.proofs.Common.{inl, inr, ◌≡◌, ◌≤◌, ◌-◌, ◌++◌, ◌∷◌, ℕ, Bool, true, false, List, [], Option, None, Some, length, refl, sym, subst, ap, ◌∙◌}
use Rattle.std.specs.Prelude.{if◌then◌else◌, slice_get, slice_set}
use Rattle.std.proofs.lemmas.Bool.Decides.{eqb_tells}
use Rattle.std.proofs.lemmas.List.{length-set}
use Rattle.std.proofs.lemmas.Option.{same_Some}
use Rattle.relay_disk.specs.Device.{DiskWords}
use Rattle.relay_slots.specs.Slots.{slot_at}
use Rattle.relay_routes.specs.declared.config.Config.{Config}
use Rattle.relay_server.specs.Dialogue.{Offered, Said}
use Rattle.relay_book.specs.declared.change.Change.{Change}
use Rattle.relay_records.specs.declared.noted.Noted.{Noted}
use Rattle.relay_records.specs.Records.{Kept}
use Rattle.relay_records.specs.Staged.{Row}
use Rattle.relay_node.specs.Node.{SessionGoesOn}
use Rattle.relay_node.specs.Staging.{MakesInto, ReceivesAfter, ReceivesInto}
use Rattle.relay_loop.specs.declared.clients.Heard.{Heard}
use Rattle.relay_loop.specs.declared.group.Piece.{Piece}
use Rattle.relay_loop.specs.Clients.{IsSetTo}
use Rattle.relay_loop.specs.GroupCalls.{TakesPiece}
use Rattle.relay_loop.specs.Relay.{OnlyClient, RelayState}
use Rattle.relay_world.specs.declared.line.Line.{Line}
use Rattle.relay_world.specs.declared.line.Line.TheVariants.{Accepted}
use Rattle.relay_world.specs.declared.link.Link.{Link}
use Rattle.relay_world.specs.Groups.{AcceptsInto, HasHeardInto}
use Rattle.relay_world.specs.Steps.{IsPut, IsPutAt, SessionOf, heard_link, session_after, unless_broken}
use Rattle.relay_world.specs.World.{Host, Up, World}
use Rattle.relay_daemon.specs.Events.{HearingIntoHears}
use Rattle.relay_daemon.specs.Given.{ClientWrote, KnowsSession}
use Rattle.relay_daemon.specs.Runs.{RunsAt, ServesClient, host_with}
use Rattle.relay_daemon.proofs.MoveLemmas.{client_beside, hop_moved, not_both, one_session}
use Rattle.relay_daemon.proofs.PutLemmas.{link_put, value_put}

-- what is said of a session that goes on, or has closed
pub set_open : (close : Bool) (session : ℕ) (out : List ℕ) (last : Option (List ℕ)) (clients : List (Option (List ℕ)))
    → IsSetTo close session out last clients → (waiting : List ℕ) → slot_at clients session ≡ Some waiting
    → (close ≡ false) × (out ≡ waiting)
set_open true session out last clients set waiting is = absurd (not_both (slot_at clients session) waiting set.0 is)
set_open false session out last clients set waiting is = (refl, same_Some out waiting (sym set.0 ∙ is))

pub set_closed : (close : Bool) (session : ℕ) (out : List ℕ) (last : Option (List ℕ)) (clients : List (Option (List ℕ)))
    → IsSetTo close session out last clients → slot_at clients session ≡ None → close ≡ true
set_closed true session out last clients set none = refl
set_closed false session out last clients set none = absurd (not_both (slot_at clients session) out none set.0)

pub after_open : (close : Bool) (session : ℕ) → close ≡ false → session_after close session ≡ Some session
after_open close session is = ap (λ c. session_after c session) is

pub whole_written : (link : Link) (octets : List ℕ) → link.broken ≡ false → unless_broken link octets ≡ octets
whole_written link octets whole = ap (λ b. if b then [] else octets) whole

-- the note of what a call has staged, if it staged something
abbrev NoteAfter : Row → Row → Option ℕ → Type 0
NoteAfter row left None = Unit {0}
NoteAfter row left (Some change) = (noted : Noted) × (left.notes ≡ row.notes ++ noted ∷ [])

module _ {D : Type 0} (honest : Type 0) (words : DiskWords D) where
  note_after : (config : Config) (changes pending : List Change) (peer : List ℕ) (at : ℕ) (said later : Said)
      (refused : List Offered) (used : ℕ) (old new : Kept D) (row left : Row) (more : List Change) (change : Option ℕ)
      → MakesInto config changes pending peer at said later refused used old row new left more change
      → NoteAfter row left change
  note_after config changes pending peer at said later refused used old new row left more None makes = tt
  note_after config changes pending peer at said later refused used old new row left more (Some change) makes =
      (makes.note, makes.noted)

  module _ (world : World D) (node at : ℕ) (piece : Piece) (row left : Row) (heard : Heard) (old new : RelayState D)
      (runs : RunsAt world node old) (wrote : ClientWrote world node piece.session piece.octets.now)
      (knows : KnowsSession honest words old row piece.session)
      (says : TakesPiece honest words at old row new left piece heard) (only : OnlyClient old new piece.session) where
    abbrev session : ℕ
    session = piece.session

    abbrev octets : List ℕ
    octets = piece.octets.now

    abbrev serves : ServesClient world node session []
    serves = wrote.serves

    abbrev its_link : Link
    its_link = heard_link serves.link serves.has.end session says.received

    abbrev its : SessionOf world serves.number
    its = record {
      link = serves.link;
      link_is = serves.link_is;
      end = serves.has.end;
      serves = serves.has.serves;
      session = session;
      goes_on = serves.has.its_session;
      host = runs.host;
      host_at = subst (λ n. slice_get world.hosts n ≡ Some runs.host) (sym serves.has.its_node) runs.host_at;
      before = old.node;
      up = runs.up;
    }

    abbrev next_world : Host D → List Line → World D
    next_world host ledger = record world {
      hosts = slice_set world.hosts node host;
      links = slice_set world.links (serves.number - 1) its_link;
      ledger = ledger;
    }

    -- what becomes of the host and the ledger by what was staged
    record Made (change : Option ℕ) : Type 0 where
      host : Host D
      up : host.state ≡ Up new.node
      ledger : List Line
      accepts : AcceptsInto honest words world (next_world host ledger) serves.number its new.node row left change

    host_put : (host : Host D) → IsPut world.hosts (slice_set world.hosts node host) its.end.node host
    host_put host =
        subst (λ n. IsPut world.hosts (slice_set world.hosts node host) n host) (sym serves.has.its_node)
        (value_put world.hosts node runs.host host runs.host_at)

    made : (change : Option ℕ) → NoteAfter row left change → Made change
    made None note = record {
      host = host_with runs.host new.node;
      up = refl;
      ledger = world.ledger;
      accepts = (host_put (host_with runs.host new.node), refl);
    }
    made (Some change) note = record {
      host = record (host_with runs.host new.node) { records = runs.host.records ++ note.0.octets ∷ [] };
      up = refl;
      ledger = world.ledger ++ Accepted its.end.node change note.0.accepted serves.number ∷ [];
      accepts = (
        note.0,
        (λ changes pending awaits. note.1),
        host_put (record (host_with runs.host new.node) { records = runs.host.records ++ note.0.octets ∷ [] }),
        refl,
      );
    }

    -- what was said on the session after the call
    heard_so : ReceivesInto old.node.config knows.changes knows.pending knows.peer at session knows.said octets old.node
        row new.node left (says.receives knows.changes knows.pending knows.awaits).more says.received
    heard_so = (says.receives knows.changes knows.pending knows.awaits).receives knows.peer knows.said knows.says

    it : Made says.received.change
    it =
        made says.received.change
        (note_after old.node.config knows.changes knows.pending knows.peer at knows.said heard_so.later
        heard_so.talks.refused says.received.used old.node.records new.node.records row left
        (says.receives knows.changes knows.pending knows.awaits).more says.received.change heard_so.talks.makes)

    abbrev its_world : World D
    its_world = next_world it.host it.ledger

    put : IsPutAt world.links its_world.links serves.number its_link
    put = link_put world.links serves.number serves.link its_link serves.link_is

    heard_event : HasHeardInto honest words at world its_world node
        (record { number = serves.number; count = length octets }) row left
    heard_event = record {
      of = its;
      its_node = serves.has.its_node;
      after = new.node;
      received = says.received;
      receives = λ changes pending awaits.
          subst (λ o. ReceivesAfter honest words old.node.config changes pending at session o old.node row new.node left
          says.received) (sym wrote.unread) (says.receives changes pending awaits);
      used = subst (λ o. says.received.used ≤ length o) (sym wrote.unread) says.uses.within;
      others = only.seats;
      config = only.config;
      attempts = only.attempts;
      links = put;
      accepts = it.accepts;
      rest = (refl, refl, length-set world.hosts node it.host);
    }

    client_new : (other : ℕ) (waiting : List ℕ) → other ≡ session → slot_at new.clients other ≡ Some waiting
        → ServesClient its_world node other waiting
    client_new other waiting same is =
        let set = set_open says.received.close session says.received.out.items heard.last new.clients says.set waiting
        (ap (λ n. slot_at new.clients n) (sym same) ∙ is) in
        record {
          number = serves.number;
          link = its_link;
          link_is = put.at;
          has = record {
            end = record serves.has.end { session = session_after says.received.close session };
            serves = refl;
            its_node = serves.has.its_node;
            its_session = after_open says.received.close session set.0 ∙ ap (λ (n : ℕ). Some n) (sym same);
          };
          unwritten = λ whole. (
            serves.link.down,
            ap (λ (o : List ℕ). serves.link.down ++ o)
                (whole_written serves.link says.received.out.items whole ∙ set.1),
          );
        }

    client_there : (other : ℕ) (waiting : List ℕ) → slot_at new.clients other ≡ Some waiting
        → ServesClient its_world node other waiting
    client_there other waiting is =
        elim (eqb_tells other session) [
          | inl same ↦ client_new other waiting same.1 is
          | inr off ↦
              let first = runs.clients other waiting (sym (only.clients other off.1) ∙ is) in
              client_beside world its_world node other waiting serves.number its_link put first
              (λ same. off.1 (one_session world node other session waiting [] first serves same))
        ]

    seat_there : (other : ℕ) → slot_at new.clients other ≡ None → slot_at new.node.seats other ≡ None
    seat_there other none =
        elim (eqb_tells other session) [
          | inl same ↦
              ap (λ n. slot_at new.node.seats n) same.1
              ∙ (subst
              (λ c. SessionGoesOn old.node.config new.node.seats session knows.peer heard_so.later c)
              (set_closed says.received.close session says.received.out.items heard.last new.clients says.set
              (ap (λ n. slot_at new.clients n) (sym same.1) ∙ none)) heard_so.goes_on).0
          | inr off ↦
              only.seats other off.1 ∙ runs.seats other (sym (only.clients other off.1) ∙ none)
        ]

    heard_runs : RunsAt its_world node new
    heard_runs = record {
      host = it.host;
      host_at = (value_put world.hosts node runs.host it.host runs.host_at).at;
      up = it.up;
      clients = client_there;
      hops = λ slot waiting is. hop_moved world its_world node slot waiting serves.number serves.link its_link
          serves.link_is put refl refl refl
          (runs.hops slot waiting (ap (λ (t : List (Option (List ℕ))). slot_at t slot) (sym only.hops) ∙ is)) refl;
      seats = seat_there;
      runs = λ slot none.
          ap (λ (t : List (Option _)). slot_at t slot) only.attempts
          ∙ runs.runs slot (ap (λ (t : List (Option (List ℕ))). slot_at t slot) (sym only.hops) ∙ none);
    }

    pub heard_there : (next : World D)
        × HasHeardInto honest words at world next node (record { number = serves.number; count = length octets }) row
        left
        × RunsAt next node new
    heard_there = (its_world, heard_event, heard_runs)

  pub hearing : HearingIntoHears honest words
  hearing world node at piece row left heard old new runs wrote knows says only =
      heard_there world node at piece row left heard old new runs wrote knows says only
