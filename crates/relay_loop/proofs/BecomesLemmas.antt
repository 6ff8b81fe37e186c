-- What a call on several pieces and replies leaves of a client that was talked to.
use Rattle.std.proofs.Common.{◌≡◌, ◌≢◌, ◌⊎◌, ◌≤◌, ◌<◌, ◌^◌, inl, inr, ℕ, ◌==◌, Bool, true, false, List, [], ◌∷◌, ◌++◌, length, take, Option, None, Some, Result, Ok, Err, refl, sym, ap, ◌∙◌, subst, append_assoc, append-nil, arith}
use Rattle.std.specs.Prelude.{if◌then◌else◌}
use Rattle.std.proofs.lemmas.Bool.{cases_eq, cases_lt}
use Rattle.std.proofs.lemmas.Bool.Decides.{nat_tests}
use Rattle.std.specs.Result.{IsErr}
use Rattle.relay_disk.specs.Device.{DiskWords}
use Rattle.relay_slots.specs.Slots.{slot_at}
use Rattle.relay_spool.specs.Image.{room_of}
use Rattle.relay_routes.specs.declared.config.Config.{Config}
use Rattle.relay_server.specs.Dialogue.{Said}
use Rattle.relay_server.specs.Setup.{setup_for}
use Rattle.relay_book.specs.declared.change.Change.{Change}
use Rattle.relay_records.specs.Staged.{Row, no_row}
use Rattle.relay_records.specs.declared.fault.NodeFault.{NodeFault}
use Rattle.relay_records.specs.declared.fault.NodeFault.TheVariants.{NoMemory, Stopped, Unknown, TooMany, NotDue, Busy, Open, Full, NoSecond}
use Rattle.relay_node.specs.Node.{HasClosed, NodeState}
use Rattle.relay_loop.specs.declared.clients.Heard.{Heard}
use Rattle.relay_loop.specs.declared.group.Piece.{Piece}
use Rattle.relay_loop.specs.Accepted.{AreAccepted}
use Rattle.relay_loop.specs.Clients.{GoesOn, HasLeft, TalksTo}
use Rattle.relay_loop.specs.GroupLaws.{Becomes, GroupsTalk, HandsOut, used_by, used_of}
use Rattle.relay_loop.specs.GroupPieces.{AnswersBy, AnswersEach, AnswersOne, IsLaden, RefusesOne, unread}
use Rattle.relay_loop.specs.Outboxes.{unwritten_at}
use Rattle.relay_loop.specs.Relay.{RelayState}
use Rattle.relay_loop.proofs.AcceptedLemmas.{accepted_stays}
use Rattle.relay_loop.proofs.LawLemmas.{talks_stay}
use Rattle.relay_loop.proofs.LeaveLemmas.{replies_leave}

-- what a test chooses
pub chooses_none : (test : Bool) (octets : List ℕ) → test ≡ false → (if test then octets else []) ≡ []
chooses_none true octets is = absurd cc
chooses_none false octets is = refl

pub chooses_all : (test : Bool) (octets : List ℕ) → test ≡ true → (if test then octets else []) ≡ octets
chooses_all true octets is = refl
chooses_all false octets is = absurd cc

module _ (session : ℕ) (piece : Piece) (pieces : List Piece) (answer : Result Heard NodeFault) (rest : List (Result Heard NodeFault)) where
  -- a piece of another session
  used_alike : session ≢ piece.session → used_of session (piece ∷ pieces) (answer ∷ rest) ≡ [] ++ used_of session pieces rest
  used_alike other =
      let differs : piece.session ≢ session = λ e. other (sym e) in
      let test : (piece.session == session) ≡ false = grind (arith, nat_tests) in
      ap (λ l. l ++ used_of session pieces rest) (chooses_none (piece.session == session) (used_by piece answer) test)

  -- a piece of this one
  used_more : piece.session ≡ session → used_of session (piece ∷ pieces) (answer ∷ rest) ≡ used_by piece answer ++ used_of session pieces rest
  used_more same =
      let test : (piece.session == session) ≡ true = grind (arith, nat_tests) in
      ap (λ l. l ++ used_of session pieces rest) (chooses_all (piece.session == session) (used_by piece answer) test)

-- a row is laden, or isn't
pub laden_or_not : (row : Row) → IsLaden row ⊎ (IsLaden row → ⊥)
laden_or_not row = by_length (cases_lt (length row.notes) 64)
  where
    by_room : length row.notes < 64 → (room_of row.bodies < 2 ^ 22) ⊎ (2 ^ 22 ≤ room_of row.bodies) → IsLaden row ⊎ (IsLaden row → ⊥)
    by_room few (inr wide) = inl (inr wide)
    by_room few (inl small) = inr (λ laden. neither laden)
      where
        neither : IsLaden row → ⊥
        neither (inl many) = absurd (omega (arith, few, many))
        neither (inr wide) = absurd (omega (arith, small, wide))

    by_length : (length row.notes < 64) ⊎ (64 ≤ length row.notes) → IsLaden row ⊎ (IsLaden row → ⊥)
    by_length (inr many) = inl (inl many)
    by_length (inl few) = by_room few (cases_lt (room_of row.bodies) (2 ^ 22))

-- octets wait, or none do
pub none_or_some : (octets : List ℕ) → (octets ≡ []) ⊎ (octets ≢ [])
none_or_some [] = inl refl
none_or_some (octet ∷ octets) = inr (λ e. cons_nil e)
  where
    cons_nil : octet ∷ octets ≡ [] → ⊥
    cons_nil e = cc

module _ {D : Type 0} (honest : Type 0) (words : DiskWords D) (changes : List Change) (at : ℕ) where
  -- what pieces leave of a session without a connection, and of what was pending
  record Leaves (session : ℕ) (pieces : List Piece) (answers : List (Result Heard NodeFault)) (pending : List Change) (old new : RelayState D) (all : List Change) : Type 0 where
    pub connection : slot_at new.clients session ≡ None
    pub seat : slot_at new.node.seats session ≡ slot_at old.node.seats session
    pub used : used_of session pieces answers ≡ []
    pub config : new.node.config ≡ old.node.config
    pub added : List Change
    pub grows : all ≡ pending ++ added

  -- only an unknown session has no connection
  same_seats : (pending : List Change) (piece : Piece) (old mid : RelayState D) (row between : Row) (more : List Change) (fault : NodeFault) → slot_at old.clients piece.session ≡ None → RefusesOne honest words changes at pending piece old row mid between more fault
      → mid.node.seats ≡ old.node.seats
  same_seats pending piece old mid row between more NoMemory none by = absurd (by.known (λ e. cc) none)
  same_seats pending piece old mid row between more Stopped none by = absurd (by.known (λ e. cc) none)
  same_seats pending piece old mid row between more Unknown none by = ap (λ (n : NodeState D). n.seats) by.leaves.0
  same_seats pending piece old mid row between more TooMany none by = absurd (by.known (λ e. cc) none)
  same_seats pending piece old mid row between more NotDue none by = absurd (by.known (λ e. cc) none)
  same_seats pending piece old mid row between more Busy none by = absurd (by.known (λ e. cc) none)
  same_seats pending piece old mid row between more NoSecond none by = absurd (by.known (λ e. cc) none)
  same_seats pending piece old mid row between more (Open cause) none by = absurd (by.known (λ e. cc) none)
  same_seats pending piece old mid row between more Full none by = absurd (by.known (λ e. cc) none)

  -- one piece of the session is refused, and uses nothing
  record IsDropped (piece : Piece) (old mid : RelayState D) (answer : Result Heard NodeFault) : Type 0 where
    pub connection : slot_at mid.clients piece.session ≡ None
    pub seats : mid.node.seats ≡ old.node.seats
    pub used : used_by piece answer ≡ []

  dropped_by : (pending : List Change) (piece : Piece) (old mid : RelayState D) (row between : Row) (more : List Change) (answer : Result Heard NodeFault) → slot_at old.clients piece.session ≡ None → AnswersBy honest words changes at pending piece old row mid between more answer
      → IsDropped piece old mid answer
  dropped_by pending piece old mid row between more (Ok heard) none by = absurd (by.known none)
  dropped_by pending piece old mid row between more (Err fault) none by = record { connection = by.gone; seats = same_seats pending piece old mid row between more fault none by; used = refl }

  leaves : (session : ℕ) (pieces : List Piece) (answers : List (Result Heard NodeFault)) (pending : List Change) (old : RelayState D) (row : Row) (new : RelayState D) (left : Row) (all : List Change) → slot_at old.clients session ≡ None
      → AnswersEach honest words changes at pieces answers pending old row new left all → Leaves session pieces answers pending old new all
  leaves session [] answers pending old row new left all none (nothing, same, unmoved, is) = record {
    connection = ap (λ (s : RelayState D). slot_at s.clients session) same ∙ none;
    seat = ap (λ (s : RelayState D). slot_at s.node.seats session) same;
    used = refl;
    config = ap (λ (s : RelayState D). s.node.config) same;
    added = [];
    grows = is ∙ sym (append-nil pending);
  }
  leaves session (piece ∷ pieces) answers pending old row new left all none (answer, rest, is, mid, between, more, one, each) =
      by (λ gone. leaves session pieces rest (pending ++ more) mid between new left all gone each) (cases_eq session piece.session)
    where
      join : (slot_at mid.clients session ≡ None → Leaves session pieces rest (pending ++ more) mid new all) → slot_at mid.clients session ≡ None → slot_at mid.node.seats session ≡ slot_at old.node.seats session → used_of session (piece ∷ pieces) (answer ∷ rest) ≡ [] ++ used_of session pieces rest → Leaves session (piece ∷ pieces) answers pending old new all
      join next gone seat used =
          let so = next gone in
          record {
            connection = so.connection;
            seat = so.seat ∙ seat;
            used = ap (used_of session (piece ∷ pieces)) is ∙ used ∙ so.used;
            config = so.config ∙ one.only.config;
            added = more ++ so.added;
            grows = so.grows ∙ append_assoc pending more so.added;
          }

      by : (slot_at mid.clients session ≡ None → Leaves session pieces rest (pending ++ more) mid new all) → (session ≡ piece.session) ⊎ (session ≡ piece.session → ⊥) → Leaves session (piece ∷ pieces) answers pending old new all
      by next (inr other) = join next (one.only.clients session other ∙ none) (one.only.seats session other) (used_alike session piece pieces answer rest other)
      by next (inl same) =
          let dropped = dropped_by pending piece old mid row between more answer (ap (slot_at old.clients) (sym same) ∙ none) one.by in
          join next (ap (slot_at mid.clients) same ∙ dropped.connection) (ap (λ l. slot_at l session) dropped.seats)
          (used_more session piece pieces answer rest (sym same) ∙ ap (λ l. l ++ used_of session pieces rest) dropped.used)

  -- what becomes of a session after the first piece becomes of it after all
  module _ (list : List Change) (new : RelayState D) (session : ℕ) (peer : List ℕ) (said later : Said) (written : List ℕ) (piece : Piece) (pieces : List Piece) (answer : Result Heard NodeFault) (rest : List (Result Heard NodeFault))
      (first : List ℕ) (used : used_of session (piece ∷ pieces) (answer ∷ rest) ≡ first ++ used_of session pieces rest) (read : later.input ≡ said.input ++ first) where
    read_more : (last : Said) → last.input ≡ later.input ++ used_of session pieces rest → last.input ≡ said.input ++ used_of session (piece ∷ pieces) (answer ∷ rest)
    read_more last is =
        is ∙ ap (λ l. l ++ used_of session pieces rest) read ∙ append_assoc said.input first (used_of session pieces rest) ∙ ap (λ l. said.input ++ l) (sym used)

    becomes_more : Becomes list new session peer later written pieces rest → Becomes list new session peer said written (piece ∷ pieces) (answer ∷ rest)
    becomes_more (inl still) = inl (record { later = still.later; input = read_more still.later still.input; talks = still.talks })
    becomes_more (inr (inl closed)) = inr (inl (record {
      later = closed.later;
      input = read_more closed.later closed.input;
      last = closed.last;
      left = closed.left;
      told = inr closed.told;
    }))
    becomes_more (inr (inr refused)) = inr (inr (record { gone = refused.gone; told = inr refused.told }))

  -- by the list after a piece
  after : (pending more : List Change) (mid : RelayState D) (session : ℕ) (peer : List ℕ) (said : Said) (written : List ℕ) → TalksTo ((changes ++ pending) ++ more) mid session peer said written → TalksTo (changes ++ (pending ++ more)) mid session peer said written
  after pending more mid session peer said written t = subst (λ (l : List Change). TalksTo l mid session peer said written) (append_assoc changes pending more) t

  -- a session that has left stays so
  left_stays : (session : ℕ) (pieces : List Piece) (answers : List (Result Heard NodeFault)) (pending : List Change) (mid new : RelayState D) (all : List Change) (peer : List ℕ) (later : Said) (written last : List ℕ)
      → Leaves session pieces answers pending mid new all → HasLeft (changes ++ pending) mid session peer later written last → HasLeft (changes ++ all) new session peer later written last
  left_stays session pieces answers pending mid new all peer later written last so h = record {
    closed = subst (λ (c : Config). HasClosed (setup_for c peer) later) (sym so.config) h.closed;
    seat = so.seat ∙ h.seat;
    connection = so.connection;
    output = h.output;
    accepted =
        subst (λ (c : Config). AreAccepted c peer (changes ++ all) later) (sym so.config)
        (subst (λ (l : List Change). AreAccepted mid.node.config peer l later) (append_assoc changes pending so.added ∙ ap (λ (l : List Change). changes ++ l) (sym so.grows))
        (accepted_stays mid.node.config peer (changes ++ pending) so.added later h.accepted));
  }

  -- a piece of the session itself
  module _ (pending : List Change) (piece : Piece) (pieces : List Piece) (answer : Result Heard NodeFault) (rest : List (Result Heard NodeFault)) (old mid new : RelayState D) (row between left : Row) (more all : List Change)
      (one : AnswersOne honest words changes at pending piece old row mid between more answer) (each : AnswersEach honest words changes at pieces rest (pending ++ more) mid between new left all) (peer : List ℕ) (said : Said) (written : List ℕ)
      (t : TalksTo (changes ++ pending) old piece.session peer said written)
      (next : (later : Said) → TalksTo (changes ++ (pending ++ more)) mid piece.session peer later written → Becomes (changes ++ all) new piece.session peer later written pieces rest) where
    used_here : used_of piece.session (piece ∷ pieces) (answer ∷ rest) ≡ used_by piece answer ++ used_of piece.session pieces rest
    used_here = used_more piece.session piece pieces answer rest refl

    -- it goes on, or has closed with these last octets
    by_last : (later : Said) (heard : Heard) → answer ≡ Ok heard → later.input ≡ said.input ++ take heard.used piece.octets.now → (last : Option (List ℕ)) → heard.last ≡ last → GoesOn (changes ++ (pending ++ more)) mid piece.session peer later written last
        → Becomes (changes ++ all) new piece.session peer said written (piece ∷ pieces) (answer ∷ rest)
    by_last later heard is input None its talks =
        becomes_more (changes ++ all) new piece.session peer said later written piece pieces answer rest (used_by piece answer) used_here (input ∙ ap (λ l. said.input ++ l) (sym (ap (used_by piece) is))) (next later talks)
    by_last later heard is input (Some last) its h =
        let so = leaves piece.session pieces rest (pending ++ more) mid between new left all h.connection each in
        inr (inl (record {
          later = later;
          input =
              input ∙ ap (λ l. said.input ++ l) (sym (used_here ∙ ap (λ l. used_by piece answer ++ l) so.used ∙ append-nil (used_by piece answer) ∙ ap (used_by piece) is));
          last = last;
          left = left_stays piece.session pieces rest (pending ++ more) mid new all peer later written last so h;
          told = inl (refl, hands (sym is) its);
        }))
      where
        hands : Ok heard ≡ answer → heard.last ≡ Some last → HandsOut last answer
        hands e its = subst (HandsOut last) e its

    stays : (heard : Heard) → answer ≡ Ok heard → heard ≡ unread → mid ≡ old → Becomes (changes ++ all) new piece.session peer said written (piece ∷ pieces) (answer ∷ rest)
    stays heard is nothing same =
        let none : used_by piece answer ≡ [] = ap (used_by piece) is ∙ ap (λ (h : Heard). take h.used piece.octets.now) nothing in
        let talks = talks_stay (changes ++ pending) more old mid piece.session peer said written (ap (λ (s : RelayState D). slot_at s.node.seats piece.session) same) (ap (λ (s : RelayState D). slot_at s.clients piece.session) same)
        (ap (λ (s : RelayState D). s.node.config) same) t in
        becomes_more (changes ++ all) new piece.session peer said said written piece pieces answer rest [] (used_here ∙ ap (λ l. l ++ used_of piece.session pieces rest) none) (sym (append-nil said.input))
        (next said (after pending more mid piece.session peer said written talks))

    by_answer : (its : Result Heard NodeFault) → answer ≡ its → AnswersBy honest words changes at pending piece old row mid between more its → Becomes (changes ++ all) new piece.session peer said written (piece ∷ pieces) (answer ∷ rest)
    by_answer (Err fault) is by =
        let so = leaves piece.session pieces rest (pending ++ more) mid between new left all by.gone each in
        inr (inr (record { gone = so.connection; told = inl (refl, subst IsErr (sym is) refl) }))
    by_answer (Ok heard) is by = where_waits (none_or_some (unwritten_at old.clients piece.session))
      where
        where_laden : unwritten_at old.clients piece.session ≡ [] → IsLaden row ⊎ (IsLaden row → ⊥) → Becomes (changes ++ all) new piece.session peer said written (piece ∷ pieces) (answer ∷ rest)
        where_laden drained (inl laden) = let so = by.unread (inr laden) in stays heard is so.0 so.1
        where_laden drained (inr light) =
            let r = by.reads drained light peer said written t in
            by_last r.later heard is r.input heard.last refl r.goes_on

        where_waits : (unwritten_at old.clients piece.session ≡ []) ⊎ (unwritten_at old.clients piece.session ≢ []) → Becomes (changes ++ all) new piece.session peer said written (piece ∷ pieces) (answer ∷ rest)
        where_waits (inr waits) = let so = by.unread (inl waits) in stays heard is so.0 so.1
        where_waits (inl drained) = where_laden drained (laden_or_not row)

    pub becomes_here : Becomes (changes ++ all) new piece.session peer said written (piece ∷ pieces) (answer ∷ rest)
    becomes_here = by_answer answer refl one.by

  each_becomes : (pieces : List Piece) (answers : List (Result Heard NodeFault)) (pending : List Change) (old : RelayState D) (row : Row) (new : RelayState D) (left : Row) (all : List Change) (session : ℕ) (peer : List ℕ) (said : Said) (written : List ℕ)
      → AnswersEach honest words changes at pieces answers pending old row new left all → TalksTo (changes ++ pending) old session peer said written → Becomes (changes ++ all) new session peer said written pieces answers
  each_becomes [] answers pending old row new left all session peer said written (nothing, same, unmoved, is) t = inl (record {
    later = said;
    input = sym (append-nil said.input);
    talks =
        subst (λ (l : List Change). TalksTo (changes ++ l) new session peer said written) (sym is)
        (subst (λ (s : RelayState D). TalksTo (changes ++ pending) s session peer said written) (sym same) t);
  })
  each_becomes (piece ∷ pieces) answers pending old row new left all session peer said written (answer, rest, is, mid, between, more, one, each) t =
      subst (λ (l : List (Result Heard NodeFault)). Becomes (changes ++ all) new session peer said written (piece ∷ pieces) l) (sym is)
      (by (λ later talks. each_becomes pieces rest (pending ++ more) mid between new left all session peer later written each talks) (cases_eq piece.session session))
    where
      by : ((later : Said) → TalksTo (changes ++ (pending ++ more)) mid session peer later written → Becomes (changes ++ all) new session peer later written pieces rest) → (piece.session ≡ session) ⊎ (piece.session ≡ session → ⊥) → Becomes (changes ++ all) new session peer said written (piece ∷ pieces) (answer ∷ rest)
      by next (inl same) =
          let Here : ℕ → Type 0 = λ s.
          TalksTo (changes ++ pending) old s peer said written → ((later : Said) → TalksTo (changes ++ (pending ++ more)) mid s peer later written → Becomes (changes ++ all) new s peer later written pieces rest)
          → Becomes (changes ++ all) new s peer said written (piece ∷ pieces) (answer ∷ rest) in
          subst Here same (λ talks on. becomes_here pending piece pieces answer rest old mid new row between left more all one each peer said written talks on) t next
      by next (inr other) =
          let differs : session ≢ piece.session = λ e. other (sym e) in
          let talks = talks_stay (changes ++ pending) more old mid session peer said written (one.only.seats session differs) (one.only.clients session differs) one.only.config t in
          becomes_more (changes ++ all) new session peer said said written piece pieces answer rest [] (used_alike session piece pieces answer rest differs) (sym (append-nil said.input))
          (next said (after pending more mid session peer said written talks))

-- what becomes of a session has become of it while changes are added, as long as sessions and connections stay
becomes_later : {D : Type 0} (list added : List Change) (mid new : RelayState D) (session : ℕ) (peer : List ℕ)
    (said : Said) (written : List ℕ) (pieces : List Piece) (answers : List (Result Heard NodeFault))
    → new.node.seats ≡ mid.node.seats → new.clients ≡ mid.clients → new.node.config ≡ mid.node.config
    → Becomes list mid session peer said written pieces answers
    → Becomes (list ++ added) new session peer said written pieces answers
becomes_later list added mid new session peer said written pieces answers seats clients config (inl still) =
    inl (record {
      later = still.later;
      input = still.input;
      talks =
          talks_stay list added mid new session peer still.later written (ap (λ l. slot_at l session) seats)
          (ap (λ l. slot_at l session) clients) config still.talks;
    })
becomes_later list added mid new session peer said written pieces answers seats clients config (inr (inl closed)) =
    inr (inl (record {
      later = closed.later;
      input = closed.input;
      last = closed.last;
      left = record {
        closed = subst (λ (c : Config). HasClosed (setup_for c peer) closed.later) (sym config) closed.left.closed;
        seat = ap (λ l. slot_at l session) seats ∙ closed.left.seat;
        connection = ap (λ l. slot_at l session) clients ∙ closed.left.connection;
        output = closed.left.output;
        accepted =
            subst (λ (c : Config). AreAccepted c peer (list ++ added) closed.later) (sym config)
            (accepted_stays mid.node.config peer list added closed.later closed.left.accepted);
      };
      told = closed.told;
    }))
becomes_later list added mid new session peer said written pieces answers seats clients config (inr (inr refused)) =
    inr (inr (record { gone = ap (λ l. slot_at l session) clients ∙ refused.gone; told = refused.told }))

-- so it is after the whole call
pub groups_talk : {D : Type 0} (honest : Type 0) (words : DiskWords D) → GroupsTalk honest words
groups_talk {D = D} honest words changes at pieces replies old new group session peer said written all t =
    let a = all.answers in
    let so = replies_leave honest words changes at replies group.answered.items a.staged a.between a.beside all.before
    all.row all.pending a.replies_each in
    let begun = subst (λ (l : List Change). TalksTo l old session peer said written) (sym (append-nil changes)) t in
    let mid = each_becomes honest words changes at pieces group.heard.items [] old no_row a.between a.beside a.staged
    session peer said written a.pieces_each begun in
    subst (λ (l : List Change). Becomes l new session peer said written pieces group.heard.items)
    (append_assoc changes a.staged so.added ∙ ap (λ (l : List Change). changes ++ l) (sym so.grows))
    (becomes_later (changes ++ a.staged) so.added a.between new session peer said written pieces group.heard.items
    (all.seats ∙ so.seats) (all.clients ∙ so.clients) (all.config ∙ so.config) mid)
