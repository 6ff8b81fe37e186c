-- What a relay does with the octets of one client after a row, and of several one after another.
use Rattle.std.proofs.Common.{◌≡◌, ◌≢◌, ◌⊎◌, ◌≤◌, ◌<◌, inl, inr, ℕ, ◌+◌, ◌==◌, Bool, true, false, List, [], ◌∷◌, ◌++◌, length, take, Option, None, Some, Result, Ok, Err, refl, sym, ap, ◌∙◌, subst, append_assoc, append-nil, length-append, arith}
use Rattle.std.proofs.lemmas.Bool.Decides.{nat_tests}
use Rattle.relay_disk.specs.Device.{DiskWords}
use Rattle.relay_slots.specs.Slots.{slot_at}
use Rattle.relay_server.specs.declared.offer.Answer.TheVariants.{Queued}
use Rattle.relay_server.specs.Dialogue.{Said}
use Rattle.relay_server.specs.Setup.{setup_for}
use Rattle.relay_book.specs.declared.change.Change.{Change}
use Rattle.relay_book.specs.declared.change.Change.TheVariants as change
use Rattle.relay_records.specs.Records.{Kept}
use Rattle.relay_records.specs.Staged.{Awaits, Row}
use Rattle.relay_records.specs.declared.fault.NodeFault.{NodeFault}
use Rattle.relay_records.specs.declared.fault.NodeFault.TheVariants.{NoMemory, Stopped, Unknown, TooMany, NotDue, Busy, Open, Full, NoSecond}
use Rattle.relay_node.specs.declared.receive.Received.{Received}
use Rattle.relay_node.specs.Acceptance.{IsAcceptOf, acceptance_by}
use Rattle.relay_node.specs.Node.{NodeState, SeatHasSaid}
use Rattle.relay_node.specs.Room.{ComesToOffer}
use Rattle.relay_node.specs.Staging.{IsStaged, MakesInto, ReceivesAfter, ReceivesInto, RefusesToReceiveInto, UsesPiece}
use Rattle.relay_node.proofs.Theorems.{queued_grows}
use Rattle.relay_loop.specs.declared.clients.Heard.{Heard}
use Rattle.relay_loop.specs.declared.group.Piece.{Piece}
use Rattle.relay_loop.specs.Accepted.{AreAccepted}
use Rattle.relay_loop.specs.Clients.{IsHeardFrom, IsSetTo, IsUnknown, TalksTo}
use Rattle.relay_loop.specs.GroupPieces.{AnswersEach, AnswersOne, IsLaden, ReadsInto, unread}
use Rattle.relay_loop.specs.Outboxes.{unwritten_at}
use Rattle.relay_loop.specs.Relay.{OnlyClient, RelayState}
use Rattle.relay_loop.proofs.AcceptedLemmas.{accepted_alike}
use Rattle.relay_loop.proofs.ClientLemmas.{accepted_last, even, goes_on, waits_there}

-- something stands where something is found
pub some_there : (connections : List (Option (List ℕ))) (number : ℕ) (waiting : List ℕ) → slot_at connections number ≡ Some waiting → slot_at connections number ≢ None
some_there connections number waiting there none = absurd (none_some (sym none ∙ there))
  where
    none_some : None ≡ Some waiting → ⊥
    none_some e = cc

no_octets : (octets : List ℕ) → length octets ≡ 0 → octets ≡ []
no_octets [] none = refl
no_octets (octet ∷ octets) none = absurd (omega (arith, none))

-- nothing waits where the octets that are found are none
pub is_drained : (connections : List (Option (List ℕ))) (number : ℕ) (waiting : List ℕ) (is : Bool) → slot_at connections number ≡ Some waiting → is ≡ (length waiting == 0) → is ≡ true → unwritten_at connections number ≡ []
is_drained connections number waiting is there test so =
    let none : length waiting ≡ 0 = grind (arith, nat_tests) in
    waits_there connections number waiting there ∙ no_octets waiting none

pub is_open_drained : (connections : List (Option (List ℕ))) (number : ℕ) (waiting : List ℕ) (is : Bool)
    → slot_at connections number ≡ Some waiting → is ≡ (length waiting == 0) → is ≡ true
    → slot_at connections number ≡ Some []
is_open_drained connections number waiting is there test so =
    let none : length waiting ≡ 0 = grind (arith, nat_tests) in
    there ∙ ap (λ (l : List ℕ). Some l) (no_octets waiting none)

-- without last octets nothing has closed
goes_on_by : (close : Bool) (session : ℕ) (out : List ℕ) (last : Option (List ℕ)) (clients : List (Option (List ℕ))) → IsSetTo close session out last clients → last ≡ None → close ≡ false
goes_on_by true session out last clients set none = absurd (some_none (sym set.1 ∙ none))
  where
    some_none : Some out ≡ None → ⊥
    some_none e = cc
goes_on_by false session out last clients set none = refl

-- the next number after changes and those that are pending
numbered : (changes pending : List Change) → length changes + length pending + 1 ≡ length (changes ++ pending) + 1
numbered changes pending = ap (λ n. n + 1) (sym (length-append changes pending))

-- nothing more is pending
pub none_more : (changes pending more : List Change) → more ≡ [] → changes ++ (pending ++ more) ≡ changes ++ pending
none_more changes pending more none = ap (λ (l : List Change). changes ++ (pending ++ l)) none ∙ ap (λ (l : List Change). changes ++ l) (append-nil pending)

-- a change more is pending
one_more : (changes pending more : List Change) (change : Change) → more ≡ change ∷ [] → changes ++ (pending ++ more) ≡ (changes ++ pending) ++ change ∷ []
one_more changes pending more change one = ap (λ (l : List Change). changes ++ (pending ++ l)) one ∙ sym (append_assoc changes pending (change ∷ []))

module _ {D : Type 0} (changes pending : List Change) (session : ℕ) (peer : List ℕ) (at : ℕ) (said : Said) (written piece : List ℕ) (old new : RelayState D) (row left : Row) (more : List Change) (received : Received) (heard : Heard)
    (staged : IsStaged (length changes + length pending + 1) received.change more) (t : TalksTo (changes ++ pending) old session peer said written) (drained : unwritten_at old.clients session ≡ [])
    (r : ReceivesInto old.node.config changes pending peer at session said piece old.node row new.node left more received) (same : new.node.config ≡ old.node.config)
    (h : IsHeardFrom received heard) (set : IsSetTo received.close session received.out.items heard.last new.clients) where
  accepted_by : (made : Option ℕ) → IsStaged (length changes + length pending + 1) made more → MakesInto old.node.config changes pending peer at said r.later r.talks.refused received.used old.node.records row new.node.records left more made
      → AreAccepted old.node.config peer (changes ++ (pending ++ more)) r.later
  accepted_by None none (answers, unchanged, unmoved) =
      subst (λ (l : List Change). AreAccepted old.node.config peer l r.later) (sym (none_more changes pending more none))
      (accepted_alike old.node.config peer (changes ++ pending) said r.later (queued_grows said r.later r.talks.refused [] [] (even (changes ++ pending) session peer said written old new t) answers) t.accepted)
  accepted_by (Some number) one queues =
      let at_list = numbered changes pending in
      subst (λ (l : List Change). AreAccepted old.node.config peer l r.later) (sym (one_more changes pending more (change.Accept queues.accept) queues.more_is))
      (accepted_last old.node.config peer at (changes ++ pending) said r.later number queues.offer queues.accept (queues.number_is ∙ at_list)
      (subst (λ n. IsAcceptOf (acceptance_by old.node.config peer n at) queues.offer queues.accept) at_list queues.fits.is_accept)
      (queued_grows said r.later r.talks.refused (queues.offer ∷ []) (Queued number ∷ []) (even (changes ++ pending) session peer said written old new t) queues.answers) t.accepted)

  pub reads_into : (honest : Type 0) (words : DiskWords D) → ReadsInto honest words changes at pending session peer said written piece old row new left more heard
  reads_into honest words = record {
    later = r.later;
    input = r.talks.input ∙ ap (λ n. said.input ++ take n piece) (sym h.used);
    refused = r.talks.refused;
    no_room = r.talks.no_room;
    makes =
        subst (λ n. MakesInto old.node.config changes pending peer at said r.later r.talks.refused n old.node.records row new.node.records left more heard.change) (sym h.used)
        (subst (λ (made : Option ℕ). MakesInto old.node.config changes pending peer at said r.later r.talks.refused received.used old.node.records row new.node.records left more made) (sym h.change) r.talks.makes);
    goes_on =
        goes_on (changes ++ pending) session peer said written old new t drained same (changes ++ (pending ++ more)) r.later received.out.items r.talks.output (accepted_by received.change staged r.talks.makes) received.close heard.last r.goes_on
        set;
  }

-- a refusal of the node leaves its records and the row
module _ {D : Type 0} (number : ℕ) (old new : NodeState D) (row left : Row) where
  leaves_records : (fault : NodeFault) → RefusesToReceiveInto number old new row left fault → (new.records ≡ old.records) × (left ≡ row)
  leaves_records NoMemory refused = (refused.gone.records, refused.row_is)
  leaves_records Stopped refused = absurd refused
  leaves_records Unknown refused = (ap (λ (n : NodeState D). n.records) refused.0, refused.1)
  leaves_records TooMany refused = absurd refused
  leaves_records NotDue refused = absurd refused
  leaves_records Busy refused = absurd refused
  leaves_records NoSecond refused = absurd refused
  leaves_records (Open cause) refused = absurd refused
  leaves_records Full refused = (refused.0.gone.records, refused.0.row_is)

module _ {D : Type 0} (honest : Type 0) (words : DiskWords D) (changes : List Change) (at : ℕ) where
  -- nothing is pending besides
  awaits_on : (pending : List Change) (records : Kept D) (row : Row) → Awaits honest words records changes pending row → Awaits honest words records changes (pending ++ []) row
  awaits_on pending records row awaits = subst (λ (l : List Change). Awaits honest words records changes l row) (sym (append-nil pending)) awaits

  -- a client whose octets wait, or a laden row
  stays_unread : (old : RelayState D) (session : ℕ) (row : Row) → (unwritten_at old.clients session ≢ []) ⊎ IsLaden row → unwritten_at old.clients session ≡ [] → (IsLaden row → ⊥) → ⊥
  stays_unread old session row (inl waits) drained light = waits drained
  stays_unread old session row (inr laden) drained light = light laden

  -- a piece was left unread
  pub left_unread : (pending : List Change) (piece : Piece) (old : RelayState D) (row : Row) → slot_at old.clients piece.session ≢ None → (unwritten_at old.clients piece.session ≢ []) ⊎ IsLaden row → Awaits honest words old.node.records changes pending row
      → AnswersOne honest words changes at pending piece old row old row [] (Ok unread)
  left_unread pending piece old row known why awaits = record {
    by = record {
      known = known;
      within = omega arith;
      some = λ made. absurd (made refl);
      whole = λ drained light _ _. absurd (stays_unread old piece.session row why drained light);
      staged = refl;
      unread = λ _. (refl, refl, refl);
      reads = λ drained light peer said written t. absurd (stays_unread old piece.session row why drained light);
    };
    only = record { seats = λ other is. refl; clients = λ other is. refl; config = refl; attempts = refl; hops = refl };
    awaits = awaits_on pending old.node.records row awaits;
  }

  -- a piece was read
  pub was_read : (pending : List Change) (piece : Piece) (old new : RelayState D) (row left : Row) (received : Received) (heard : Heard) → slot_at old.clients piece.session ≢ None → unwritten_at old.clients piece.session ≡ [] → (IsLaden row → ⊥)
      → (b : ReceivesAfter honest words old.node.config changes pending at piece.session piece.octets.now old.node row new.node left received) → UsesPiece (length piece.octets.now) received → OnlyClient old new piece.session → IsHeardFrom received heard
      → IsSetTo received.close piece.session received.out.items heard.last new.clients → AnswersOne honest words changes at pending piece old row new left b.more (Ok heard)
  was_read pending piece old new row left received heard known drained light b uses only h set = record {
    by = record {
      known = known;
      within = subst (λ n. n ≤ length piece.octets.now) (sym h.used) uses.within;
      some = λ made. subst (λ n. 0 < n) (sym h.used) (uses.some (λ none. made (h.change ∙ none)));
      whole = λ _ _ unchanged unclosed. h.used ∙ uses.whole (sym h.change ∙ unchanged) (goes_on_by received.close piece.session received.out.items heard.last new.clients set unclosed);
      staged = subst (λ (made : Option ℕ). IsStaged (length changes + length pending + 1) made b.more) (sym h.change) b.staged;
      unread = λ why. absurd (stays_unread old piece.session row why drained light);
      reads = λ _ _ peer said written t.
          reads_into changes pending piece.session peer at said written piece.octets.now old new row left b.more received heard b.staged t drained (b.receives peer said t.seat) only.config h set honest words;
    };
    only = only;
    awaits = b.awaits;
  }

  -- a piece was refused
  pub was_refused : (pending : List Change) (piece : Piece) (old new : RelayState D) (row left : Row) (fault : NodeFault) → slot_at new.clients piece.session ≡ None → RefusesToReceiveInto piece.session old.node new.node row left fault
      → (fault ≡ Unknown → IsUnknown old piece.session) → (fault ≢ Unknown → slot_at old.clients piece.session ≢ None)
      → ((peer : List ℕ) (said : Said) → SeatHasSaid old.node.config old.node.seats piece.session peer said → fault ≡ Full → ComesToOffer (setup_for old.node.config peer) said piece.octets.now) → OnlyClient old new piece.session
      → Awaits honest words old.node.records changes pending row → AnswersOne honest words changes at pending piece old row new left [] (Err fault)
  was_refused pending piece old new row left fault gone leaves unknown known full only awaits =
      let same = leaves_records piece.session old.node new.node row left fault leaves in
      record {
        by = record {
          none = refl;
          gone = gone;
          leaves = leaves;
          unknown = unknown;
          known = known;
          full = λ peer said written t is. full peer said t.seat is;
        };
        only = only;
        awaits =
            awaits_on pending new.node.records left
            (subst (λ (r : Row). Awaits honest words new.node.records changes pending r) (sym same.1) (subst (λ (k : Kept D). Awaits honest words k changes pending row) (sym same.0) awaits));
      }

  -- a piece more was answered after others
  pub each_more : (pieces : List Piece) (answers : List (Result Heard NodeFault)) (pending all more : List Change) (old mid new : RelayState D) (row between left : Row) (piece : Piece) (answer : Result Heard NodeFault)
      → AnswersEach honest words changes at pieces answers pending old row mid between all → AnswersOne honest words changes at all piece mid between new left more answer
      → AnswersEach honest words changes at (pieces ++ piece ∷ []) (answers ++ answer ∷ []) pending old row new left (all ++ more)
  each_more [] answers pending all more old mid new row between left piece answer (none, same, unmoved, nothing) one = (
    answer,
    [],
    ap (λ (l : List (Result Heard NodeFault)). l ++ answer ∷ []) none,
    new,
    left,
    more,
    subst (λ (l : List Change). AnswersOne honest words changes at l piece old row new left more answer) nothing
        (subst (λ (r : Row). AnswersOne honest words changes at all piece old r new left more answer) unmoved
        (subst (λ (s : RelayState D). AnswersOne honest words changes at all piece s between new left more answer) same one)),
    (refl, refl, refl, ap (λ (l : List Change). l ++ more) nothing),
  )
  each_more (first ∷ pieces) answers pending all more old mid new row between left piece answer (its, rest, is, next, beside, added, by, each) one = (
    its,
    rest ++ answer ∷ [],
    ap (λ (l : List (Result Heard NodeFault)). l ++ answer ∷ []) is,
    next,
    beside,
    added,
    by,
    each_more pieces rest (pending ++ added) all more next mid new beside between left piece answer each one,
  )
