-- One piece of a client, or one reply of a hop, that a relay was given in a group: it is a part of the event, or none.
use Rattle.std.proofs.Common.{inl, inr, ◌≡◌, ◌≢◌, ◌⊎◌, ◌+◌, ◌++◌, ◌∷◌, ℕ, Bool, true, false, List, [], Option, None}
use Rattle.std.proofs.Common.{Some, Result, Ok, Err, length, refl, sym, subst, ap, ◌∙◌, append-nil}
use Rattle.std.specs.Prelude.{slice_get}
use Rattle.std.proofs.lemmas.Bool.{true≢false}
use Rattle.std.proofs.lemmas.Bool.Decides.{eqb_tells}
use Rattle.relay_disk.specs.Device.{DiskWords}
use Rattle.relay_slots.specs.Slots.{slot_at}
use Rattle.relay_server.specs.Dialogue.{Said}
use Rattle.relay_book.specs.declared.change.Change.{Change}
use Rattle.relay_records.specs.declared.fault.NodeFault.{NodeFault}
use Rattle.relay_records.specs.declared.fault.NodeFault.TheVariants.{Busy, Full, NoMemory, NoSecond, NotDue, Open}
use Rattle.relay_records.specs.declared.fault.NodeFault.TheVariants.{Stopped, TooMany, Unknown}
use Rattle.relay_records.specs.Staged.{Awaits, Row}
use Rattle.relay_report.specs.Report.{reporter_of}
use Rattle.relay_attempts.specs.Reply.{Told}
use Rattle.relay_node.specs.Attempts.{Tells}
use Rattle.relay_node.specs.Node.{IsGone, NodeState, SeatHasSaid}
use Rattle.relay_node.specs.StagedReplies.{IsDroppedAfter}
use Rattle.relay_loop.specs.declared.clients.Heard.{Heard}
use Rattle.relay_loop.specs.declared.group.Piece.{Piece}
use Rattle.relay_loop.specs.declared.hops.Answered.{Answered}
use Rattle.relay_loop.specs.declared.replying.ReplyPiece.{ReplyPiece}
use Rattle.relay_loop.specs.Calls.{DropSays, EndSays}
use Rattle.relay_loop.specs.GroupCalls.{HearsPiece, LeavesPiece, LeavesReply, ReadsReply, RefusesPiece, RefusesReply}
use Rattle.relay_loop.specs.GroupCalls.{TakesPiece, TakesReply}
use Rattle.relay_loop.specs.Relay.{OnlyClient, OnlyHop, RelayState}
use Rattle.relay_world.specs.declared.attempt.Attempt.{Attempt}
use Rattle.relay_world.specs.Groups.{AttemptDropped, HasHeardEach, HasTurnedTo, Heard as HeardBy}
use Rattle.relay_world.specs.Groups.{OutcomeInto, Piece as Carried, Read as ReadBy, SessionEnded}
use Rattle.relay_world.specs.Steps.{AttemptOf, ended_link, heard_link, read_link, unless_broken}
use Rattle.relay_world.specs.World.{Up, World}
use Rattle.relay_daemon.specs.Events.{dropped_in, ended}
use Rattle.relay_daemon.specs.Given.{ClientWrote, HopWrote}
use Rattle.relay_daemon.specs.Runs.{RunsAt}
use Rattle.relay_daemon.proofs.DropLemmas.{dropping}
use Rattle.relay_daemon.proofs.EndLemmas.{ending}
use Rattle.relay_daemon.proofs.GrownLemmas.{AtMostOne, awaits_still, one_staged, read_more}
use Rattle.relay_daemon.proofs.HearLemmas.{hearing}
use Rattle.relay_daemon.proofs.HereLemmas.{attempt_here, other_link, place_here, session_here, some_slot}
use Rattle.relay_daemon.proofs.LoseLemmas.{one_running}
use Rattle.relay_daemon.proofs.MoveLemmas.{not_both, one_session}
use Rattle.relay_daemon.proofs.ReadLemmas.{reading}
use Rattle.relay_daemon.proofs.WroteLemmas.{client_wrote_beside, hop_wrote_beside, hop_wrote_moved, hop_wrote_still}

abbrev is_unknown : NodeFault → Bool
is_unknown Unknown = true
is_unknown _ = false

module _ {D : Type 0} where
  -- A relay that has dropped the connection of a client without a session, and changed nothing else, runs on.
  runs_without_client : (world : World D) (node session : ℕ) (old new : RelayState D) → RunsAt world node old
      → OnlyClient old new session → slot_at new.clients session ≡ None → new.node ≡ old.node
      → slot_at old.node.seats session ≡ None → RunsAt world node new
  runs_without_client world node session old new runs only gone same free = record {
    host = runs.host;
    host_at = runs.host_at;
    up = runs.up ∙ ap (λ (n : NodeState D). Up n) (sym same);
    clients = λ other waiting is.
        elim (eqb_tells other session) [
          | inl at ↦
              absurd (not_both (slot_at new.clients session) waiting gone
              (ap (λ n. slot_at new.clients n) (sym at.1) ∙ is))
          | inr off ↦ runs.clients other waiting (sym (only.clients other off.1) ∙ is)
        ];
    hops = λ slot waiting is.
        runs.hops slot waiting (ap (λ (t : List (Option (List ℕ))). slot_at t slot) (sym only.hops) ∙ is);
    seats = λ other none.
        elim (eqb_tells other session) [
          | inl at ↦
              ap (λ (n : NodeState D). slot_at n.seats other) same ∙ ap (λ n. slot_at old.node.seats n) at.1 ∙ free
          | inr off ↦ only.seats other off.1 ∙ runs.seats other (sym (only.clients other off.1) ∙ none)
        ];
    runs = λ slot none.
        ap (λ (n : NodeState D). slot_at n.attempts slot) same
        ∙ runs.runs slot (ap (λ (t : List (Option (List ℕ))). slot_at t slot) (sym only.hops) ∙ none);
  }

  -- The same, of the connection of an attempt that doesn't run.
  runs_without_hop : (world : World D) (node slot : ℕ) (old new : RelayState D) → RunsAt world node old
      → OnlyHop old new slot → slot_at new.hops slot ≡ None → new.node ≡ old.node
      → slot_at old.node.attempts slot ≡ None → RunsAt world node new
  runs_without_hop world node slot old new runs only gone same free = record {
    host = runs.host;
    host_at = runs.host_at;
    up = runs.up ∙ ap (λ (n : NodeState D). Up n) (sym same);
    clients = λ session waiting is.
        runs.clients session waiting (ap (λ (t : List (Option (List ℕ))). slot_at t session) (sym only.clients) ∙ is);
    hops = λ other waiting is.
        elim (eqb_tells other slot) [
          | inl at ↦
              absurd (not_both (slot_at new.hops slot) waiting gone
              (ap (λ n. slot_at new.hops n) (sym at.1) ∙ is))
          | inr off ↦ runs.hops other waiting (sym (only.hops other off.1) ∙ is)
        ];
    seats = λ session none.
        ap (λ (n : NodeState D). slot_at n.seats session) same
        ∙ runs.seats session (ap (λ (t : List (Option (List ℕ))). slot_at t session) (sym only.clients) ∙ none);
    runs = λ other none.
        elim (eqb_tells other slot) [
          | inl at ↦
              ap (λ (n : NodeState D). slot_at n.attempts other) same ∙ ap (λ n. slot_at old.node.attempts n) at.1
              ∙ free
          | inr off ↦ only.attempts other off.1 ∙ runs.runs other (sym (only.hops other off.1) ∙ none)
        ];
  }

  -- a session without a connection, or without a seat, has no seat
  no_seat : (world : World D) (node session : ℕ) (relay : RelayState D) → RunsAt world node relay
      → (slot_at relay.clients session ≡ None) ⊎ (slot_at relay.node.seats session ≡ None)
      → slot_at relay.node.seats session ≡ None
  no_seat world node session relay runs (inl none) = runs.seats session none
  no_seat world node session relay runs (inr none) = none

  no_run : (world : World D) (node slot : ℕ) (relay : RelayState D) → RunsAt world node relay
      → (slot_at relay.hops slot ≡ None) ⊎ (slot_at relay.node.attempts slot ≡ None)
      → slot_at relay.node.attempts slot ≡ None
  no_run world node slot relay runs (inl none) = runs.runs slot none
  no_run world node slot relay runs (inr none) = none

module _ {D : Type 0} (honest : Type 0) (words : DiskWords D) (node at : ℕ) where
  -- the octets of a piece are unread on its client's link, and an exchange of its session is known
  pub record IsReady (world : World D) (relay : RelayState D) (piece : Piece) : Type 0 where
    pub wrote : ClientWrote world node piece.session piece.octets.now
    pub peer : List ℕ
    pub said : Said
    pub says : SeatHasSaid relay.node.config relay.node.seats piece.session peer said

  -- the octets of a reply are unread on the link of its attempt, of which this is told
  pub record IsTold (world : World D) (relay : RelayState D) (list : List Change) (reply : ReplyPiece) : Type 0 where
    pub wrote : HopWrote world node reply.attempt reply.octets.now
    pub told : Told
    pub tells : Tells relay.node.config.host list relay.node.attempts reply.attempt told

  -- what was given is a part of the event, or none
  pub record Step (world : World D) (old new : RelayState D) (row left : Row) (changes pending : List Change)
      : Type 0 where
    pub carried : List Carried
    pub next : World D
    pub each : HasHeardEach honest words at world next node carried row left
    pub there : RunsAt next node new
    pub more : List Change
    pub few : AtMostOne more
    pub awaits : Awaits honest words new.node.records changes (pending ++ more) left

  -- After a piece of a session, what other clients and all hops have written is still unread.
  pub record ClientStep (world : World D) (old new : RelayState D) (row left : Row) (changes pending : List Change)
      (session : ℕ) : Type 0 where
    pub step : Step world old new row left changes pending
    pub clients_on : (other : ℕ) (octets : List ℕ) → other ≢ session → ClientWrote world node other octets
        → ClientWrote step.next node other octets
    pub hops_on : (slot : ℕ) (octets : List ℕ) → HopWrote world node slot octets → HopWrote step.next node slot octets

  -- After a reply to an attempt, what other hops have written is still unread.
  pub record HopStep (world : World D) (old new : RelayState D) (row left : Row) (changes pending : List Change)
      (slot : ℕ) : Type 0 where
    pub step : Step world old new row left changes pending
    pub hops_on : (other : ℕ) (octets : List ℕ) → other ≢ slot → HopWrote world node other octets
        → HopWrote step.next node other octets

  module _ (world : World D) (changes pending : List Change) (old new : RelayState D) (row left : Row)
      (awaits : Awaits honest words old.node.records changes pending row) where
    abbrev still : RunsAt world node new → new.node.records ≡ old.node.records → left ≡ row
        → Step world old new row left changes pending
    still there same unmoved = record {
      carried = [];
      next = world;
      each = (refl, unmoved);
      there = there;
      more = [];
      few = inl refl;
      awaits = awaits_still honest words changes pending old.node.records new.node.records row left same unmoved awaits;
    }

    abbrev turned : (next : World D) (piece : Carried) → HasTurnedTo honest words at world next node piece row left
        → RunsAt next node new → (more : List Change) → AtMostOne more
        → Awaits honest words new.node.records changes (pending ++ more) left
        → Step world old new row left changes pending
    turned next piece turns there more few awaited = record {
      carried = piece ∷ [];
      next = next;
      each = (next, left, turns, (refl, refl));
      there = there;
      more = more;
      few = few;
      awaits = awaited;
    }

  module _ (world : World D) (changes pending : List Change) (old new : RelayState D) (row left : Row) (piece : Piece)
      (runs : RunsAt world node old) (awaits : Awaits honest words old.node.records changes pending row)
      (only : OnlyClient old new piece.session) where
    client_still : RunsAt world node new → new.node.records ≡ old.node.records → left ≡ row
        → ClientStep world old new row left changes pending piece.session
    client_still there same unmoved = record {
      step = still world changes pending old new row left awaits there same unmoved;
      clients_on = λ other octets off wrote. wrote;
      hops_on = λ slot octets wrote. wrote;
    }

    client_left : (heard : Heard) → LeavesPiece honest words at old row new left piece heard
        → ClientStep world old new row left changes pending piece.session
    client_left heard says =
        client_still (subst (λ (r : RelayState D). RunsAt world node r) (sym says.same) runs)
        (ap (λ (r : RelayState D). r.node.records) says.same) says.row_is

    client_heard : (heard : Heard) → IsReady world old piece
        → TakesPiece honest words at old row new left piece heard
        → ClientStep world old new row left changes pending piece.session
    client_heard heard ready says =
        let is = hearing honest words world node at piece row left heard old new runs ready.wrote (record {
          changes = changes;
          pending = pending;
          awaits = awaits;
          peer = ready.peer;
          said = ready.said;
          says = ready.says;
        }) says only in
        let event = is.1 in
        let after = says.receives changes pending awaits in
        let link = heard_link event.of.link event.of.end event.of.session event.received in
        record {
          step = turned world changes pending old new row left awaits is.0
              (record { number = ready.wrote.serves.number; count = length piece.octets.now }) (HeardBy event) is.2
              after.more (one_staged (length changes + length pending + 1) says.received.change after.more after.staged)
              after.awaits;
          clients_on = λ other octets off wrote.
              client_wrote_beside world is.0 node other octets ready.wrote.serves.number link event.links wrote
              (λ same. off (one_session world node other piece.session [] [] wrote.serves ready.wrote.serves same));
          hops_on = λ slot octets wrote.
              hop_wrote_moved world is.0 node slot octets ready.wrote.serves.number event.of.link link
              (unless_broken event.of.link event.received.out.items) event.of.link_is event.links refl refl refl refl
              refl event.rest.0 wrote;
        }

    client_ended : slot_at old.clients piece.session ≢ None → slot_at new.clients piece.session ≡ None
        → IsGone piece.session old.node new.node → left ≡ row
        → ClientStep world old new row left changes pending piece.session
    client_ended some none gone unmoved =
        let was = some_slot (slot_at old.clients piece.session) some in
        let says : EndSays old new piece.session was.0 = record {
          was = was.1;
          gone = none;
          seat = gone.session;
          only = only;
          records = gone.records;
        } in
        let serves = runs.clients piece.session was.0 was.1 in
        let is = ending world node piece.session was.0 old new runs says serves in
        let event = is.0 in
        let next = ended world node old new runs serves.number serves.link serves.has.end None in
        let link = ended_link event.of.link event.of.end None in
        record {
          step = turned world changes pending old new row left awaits next
              (record { number = serves.number; count = 0 })
              (SessionEnded event
              (session_here world serves.number node piece.session serves.link event.of serves.link_is serves.has)
              unmoved) is.1 [] (inl refl)
              (awaits_still honest words changes pending old.node.records new.node.records row left gone.records unmoved
              awaits);
          clients_on = λ other octets off wrote.
              client_wrote_beside world next node other octets serves.number link event.links wrote
              (λ same. off (one_session world node other piece.session [] was.0 wrote.serves serves same));
          hops_on = λ slot octets wrote.
              hop_wrote_moved world next node slot octets serves.number event.of.link link [] event.of.link_is
              event.links refl refl refl (sym (append-nil event.of.link.down)) refl event.rest.0 wrote;
        }

    not_unknown : (fault : NodeFault) → is_unknown fault ≡ false → fault ≢ Unknown
    not_unknown fault is same = true≢false (sym (ap is_unknown same) ∙ is)

    client_refused : (fault : NodeFault) → RefusesPiece honest words at old row new left piece fault
        → ClientStep world old new row left changes pending piece.session
    client_refused NoMemory says =
        client_ended (says.connection (not_unknown NoMemory refl)) says.gone says.leaves.gone says.leaves.row_is
    client_refused Full says =
        client_ended (says.connection (not_unknown Full refl)) says.gone says.leaves.0.gone says.leaves.0.row_is
    client_refused Unknown says =
        client_still
        (runs_without_client world node piece.session old new runs only says.gone says.leaves.0
        (no_seat world node piece.session old runs (says.unknown refl)))
        (ap (λ (n : NodeState D). n.records) says.leaves.0) says.leaves.1
    client_refused Stopped says = absurd says.leaves
    client_refused TooMany says = absurd says.leaves
    client_refused NotDue says = absurd says.leaves
    client_refused Busy says = absurd says.leaves
    client_refused NoSecond says = absurd says.leaves
    client_refused (Open cause) says = absurd says.leaves

  pub client_step : (world : World D) (changes pending : List Change) (old new : RelayState D) (row left : Row)
      (piece : Piece) (result : Result Heard NodeFault) → RunsAt world node old
      → (slot_at old.clients piece.session ≡ Some [] → IsReady world old piece)
      → Awaits honest words old.node.records changes pending row
      → HearsPiece honest words at old row new left piece result
      → ClientStep world old new row left changes pending piece.session
  client_step world changes pending old new row left piece (Ok heard) runs ready awaits says =
      elim says.by [
        | inl leaves ↦ client_left world changes pending old new row left piece runs awaits says.only heard leaves
        | inr takes ↦
            client_heard world changes pending old new row left piece runs awaits says.only heard
            (ready takes.connection) takes
      ]
  client_step world changes pending old new row left piece (Err fault) runs ready awaits says =
      client_refused world changes pending old new row left piece runs awaits says.only fault says.by

  -- the attempts beside one that was read are the same
  attempts_beside : (old new : World D) (number : ℕ) (of : AttemptOf old number) (after : NodeState D) (row left : Row)
      (made : Option ℕ) → OutcomeInto honest words old new number of after row left made → (place : ℕ)
      → place ≢ of.place → slice_get new.attempts place ≡ slice_get old.attempts place
  attempts_beside old new number of after row left None outcome place off =
      ap (λ (tries : List Attempt). slice_get tries place) outcome.2
  attempts_beside old new number of after row left (Some change) outcome place off =
      outcome.attempts.others place off

  module _ (world : World D) (changes pending : List Change) (old new : RelayState D) (row left : Row)
      (reply : ReplyPiece) (runs : RunsAt world node old)
      (awaits : Awaits honest words old.node.records changes pending row) (only : OnlyHop old new reply.attempt) where
    hop_still : RunsAt world node new → new.node.records ≡ old.node.records → left ≡ row
        → HopStep world old new row left changes pending reply.attempt
    hop_still there same unmoved = record {
      step = still world changes pending old new row left awaits there same unmoved;
      hops_on = λ other octets off wrote. wrote;
    }

    hop_left : (answered : Answered) → LeavesReply honest words at old row new left reply answered
        → HopStep world old new row left changes pending reply.attempt
    hop_left answered says =
        hop_still (subst (λ (r : RelayState D). RunsAt world node r) (sym says.same) runs)
        (ap (λ (r : RelayState D). r.node.records) says.same) says.row_is

    hop_read : (answered : Answered) → IsTold world old (changes ++ pending) reply
        → TakesReply honest words at old row new left reply answered
        → HopStep world old new row left changes pending reply.attempt
    hop_read answered ready says =
        let reaches = ready.wrote.reaches in
        let is = reading honest words world node at reply row left answered old new runs ready.wrote (record {
          changes = changes;
          pending = pending;
          awaits = awaits;
          told = ready.told;
          tells = ready.tells;
        }) says only in
        let event = is.1 in
        let more = read_more honest words changes pending (reporter_of old.node.config) at reply.attempt ready.told row
        left reply.octets.now old.node new.node says.replied says.replied.change
        (says.replies changes pending ready.told awaits ready.tells) awaits in
        record {
          step = turned world changes pending old new row left awaits is.0
              (record { number = reaches.attempt.link; count = length reply.octets.now }) (ReadBy event) is.2 more.more
              more.few more.awaits;
          hops_on = λ other octets off wrote.
              hop_wrote_beside world is.0 node other octets reaches.attempt.link
              (read_link event.of.link event.replied) event.links wrote
              (attempts_beside world is.0 reaches.attempt.link event.of event.after row left event.replied.change
              event.outcome wrote.reaches.place
              (λ same. off (one_running world node other reply.attempt [] [] wrote.reaches reaches
              (same ∙ place_here world node reply.attempt [] reaches event.of))))
              (other_link world node other reply.attempt [] [] wrote.reaches reaches off);
        }

    hop_dropped : slot_at old.hops reply.attempt ≢ None → slot_at new.hops reply.attempt ≡ None
        → IsDroppedAfter reply.attempt old.node new.node row left
        → HopStep world old new row left changes pending reply.attempt
    hop_dropped some none gone =
        let was = some_slot (slot_at old.hops reply.attempt) some in
        let says : DropSays old new reply.attempt = record {
          was = some;
          gone = none;
          dropped = record { attempt = gone.attempt; records = gone.records };
          only = only;
        } in
        let reaches = runs.hops reply.attempt was.0 was.1 in
        let is = dropping world node reply.attempt was.0 old new runs reaches says in
        let event = is.0 in
        let next = dropped_in world node old new runs reaches.place reaches.attempt in
        record {
          step = turned world changes pending old new row left awaits next
              (record { number = reaches.attempt.link; count = 0 })
              (AttemptDropped event (attempt_here world node reply.attempt was.0 reaches event.of) gone.row_is) is.1 []
              (inl refl)
              (awaits_still honest words changes pending old.node.records new.node.records row left gone.records
              gone.row_is awaits);
          hops_on = λ other octets off wrote.
              hop_wrote_still world next node other octets event.links wrote
              (event.attempts.others wrote.reaches.place
              (λ same. off (one_running world node other reply.attempt [] was.0 wrote.reaches reaches
              (same ∙ place_here world node reply.attempt was.0 reaches event.of))));
        }

    not_unheard : (fault : NodeFault) → is_unknown fault ≡ false → fault ≢ Unknown
    not_unheard fault is same = true≢false (sym (ap is_unknown same) ∙ is)

    hop_refused : (fault : NodeFault) → RefusesReply honest words at old row new left reply fault
        → HopStep world old new row left changes pending reply.attempt
    hop_refused NoMemory says = hop_dropped (says.connection (not_unheard NoMemory refl)) says.gone says.leaves
    hop_refused Full says = hop_dropped (says.connection (not_unheard Full refl)) says.gone says.leaves
    hop_refused Unknown says =
        hop_still
        (runs_without_hop world node reply.attempt old new runs only says.gone says.leaves.0
        (no_run world node reply.attempt old runs (says.unknown refl)))
        (ap (λ (n : NodeState D). n.records) says.leaves.0) says.leaves.1
    hop_refused Stopped says = absurd says.leaves
    hop_refused TooMany says = absurd says.leaves
    hop_refused NotDue says = absurd says.leaves
    hop_refused Busy says = absurd says.leaves
    hop_refused NoSecond says = absurd says.leaves
    hop_refused (Open cause) says = absurd says.leaves

  pub hop_step : (world : World D) (changes pending : List Change) (old new : RelayState D) (row left : Row)
      (reply : ReplyPiece) (result : Result Answered NodeFault) → RunsAt world node old
      → (slot_at old.hops reply.attempt ≡ Some [] → IsTold world old (changes ++ pending) reply)
      → Awaits honest words old.node.records changes pending row
      → ReadsReply honest words at old row new left reply result
      → HopStep world old new row left changes pending reply.attempt
  hop_step world changes pending old new row left reply (Ok answered) runs ready awaits says =
      elim says.by [
        | inl leaves ↦ hop_left world changes pending old new row left reply runs awaits says.only answered leaves
        | inr takes ↦
            hop_read world changes pending old new row left reply runs awaits says.only answered
            (ready takes.connection) takes
      ]
  hop_step world changes pending old new row left reply (Err fault) runs ready awaits says =
      hop_refused world changes pending old new row left reply runs awaits says.only fault says.by
