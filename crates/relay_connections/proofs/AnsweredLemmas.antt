-- What the relay has for each client of the table after a call on several pieces, whose answers are still to be taken.
use Rattle.std.proofs.Common.{◌≡◌, ◌≢◌, ◌⊎◌, inl, inr, ℕ, ◌==◌, ◌≤◌, ◌<◌, ◌^◌, Bool, true, false, List, [], ◌∷◌, ◌++◌, Option, None, Some, Box, Result, Ok, Err, length, map, take, refl, sym, ap, ◌∙◌, subst, append_assoc, append-nil, arith}
use Rattle.std.specs.Prelude.{if◌then◌else◌}
use Rattle.std.specs.List.{AllByRecursion, zip}
use Rattle.std.proofs.lemmas.Bool.{cases_eq, cases_lt}
use Rattle.std.proofs.lemmas.Bool.Decides.{nat_tests}
use Rattle.std.proofs.lemmas.List.Elements.{recursion_from_All}
use Rattle.std.specs.Global.{Global}
use Rattle.relay_disk.specs.Device.{DiskWords}
use Rattle.relay_slots.specs.Slots.{slot_at}
use Rattle.relay_spool.specs.Image.{room_of}
use Rattle.relay_server.specs.Dialogue.{IsDialogue, Said}
use Rattle.relay_server.specs.Setup.{Setup}
use Rattle.relay_book.specs.declared.change.Change.{Change}
use Rattle.relay_records.specs.Records.{Keeps}
use Rattle.relay_records.specs.Staged.{Row, no_row}
use Rattle.relay_records.specs.declared.fault.NodeFault.{NodeFault}
use Rattle.relay_records.specs.declared.fault.NodeFault.TheVariants.{NoMemory, Stopped, Unknown, TooMany, NotDue, Busy, Open, Full, NoSecond}
use Rattle.relay_loop.specs.declared.clients.Heard.{Heard}
use Rattle.relay_loop.specs.declared.group.Piece.{Piece}
use Rattle.relay_loop.specs.declared.hops.Answered.{Answered}
use Rattle.relay_loop.specs.declared.replying.ReplyPiece.{ReplyPiece}
use Rattle.relay_loop.specs.Clients.{GoesOn, IsUnknown}
use Rattle.relay_loop.specs.GroupPieces.{AnswersBy, AnswersEach, AnswersOne, AreOfOthers, IsLaden, RefusesOne, unread}
use Rattle.relay_loop.specs.GroupReplies.{RepliesEach}
use Rattle.relay_loop.specs.Groups.{AnswersAll, ReadsAll}
use Rattle.relay_loop.specs.Outboxes.{octets_of, unwritten_at}
use Rattle.relay_loop.specs.Relay.{RelayState}
use Rattle.relay_connections.specs.Carried.{Carries, Setting}
use Rattle.relay_connections.specs.Hearing.{HearOwn, IsOwn, session_of}
use Rattle.relay_connections.specs.Served.{ActsOn, AreApart, AreServed, HasAnswered, HasAnsweredOr, HasHeard, HasSession, HaveAnswered, HaveSetups, IsUnused, Serves, address_of, answer_to}
use Rattle.relay_connections.specs.Share.{lines_length, share_of}
use Rattle.relay_connections.specs.declared.channel.Channel.{Channel}
use Rattle.relay_connections.specs.declared.client.Client.{Client}
use Rattle.relay_connections.proofs.CarriedLemmas.{carries_more}
use Rattle.relay_connections.specs.declared.hearing.Hearing.{Hearing}
use Rattle.relay_connections.proofs.DistinctLemmas.{AreDistinct, IsNoneOf, are_distinct}
use Rattle.relay_connections.proofs.ExchangeLemmas.{some_is_not_none}
use Rattle.relay_connections.proofs.RelayedLemmas.{relayed_heard, relayed_still}
use Rattle.relay_connections.proofs.ServedLemmas.{serves_later, session_later, setup_is_at, setups_on}

-- a row is laden, or isn't
laden_or_not : (row : Row) → IsLaden row ⊎ (IsLaden row → ⊥)
laden_or_not row = by (cases_lt (length row.notes) 64) (cases_lt (room_of row.bodies) (2 ^ 22)) where
  by : (length row.notes < 64) ⊎ (64 ≤ length row.notes) → (room_of row.bodies < 2 ^ 22) ⊎ (2 ^ 22 ≤ room_of row.bodies) → IsLaden row ⊎ (IsLaden row → ⊥)
  by (inr many) room = inl (inl many)
  by (inl few) (inr wide) = inl (inr wide)
  by (inl few) (inl small) = inr neither where
    neither : IsLaden row → ⊥
    neither (inl many) = absurd (omega (arith, few, many))
    neither (inr wide) = absurd (omega (arith, small, wide))

-- octets wait, or none do
none_or_some : (octets : List ℕ) → (octets ≡ []) ⊎ (octets ≢ [])
none_or_some [] = inl refl
none_or_some (octet ∷ octets) = inr (λ e. absurd (cc e))

chosen : {A : Type 0} (test : Bool) (one other : A) → test ≡ true → (if test then one else other) ≡ one
chosen true one other is = refl
chosen false one other is = absurd (cc is)

passed : {A : Type 0} (test : Bool) (one other : A) → test ≡ false → (if test then one else other) ≡ other
passed true one other is = absurd (cc is)
passed false one other is = refl

-- the answer to the first of these
answer_here : (session number : ℕ) (sessions : List ℕ) (answer : Result Heard NodeFault) (answers : List (Result Heard NodeFault)) → session ≡ number
    → answer_to number (zip (session ∷ sessions) (answer ∷ answers)) ≡ Some answer
answer_here session number sessions answer answers same =
    let test : (session == number) ≡ true = grind (arith, nat_tests) in
    chosen (session == number) (Some answer) (answer_to number (zip sessions answers)) test

pub answer_passed : (session number : ℕ) (answer : Result Heard NodeFault) (rest : List (ℕ × Result Heard NodeFault)) → (session ≡ number → ⊥)
    → answer_to number ((session, answer) ∷ rest) ≡ answer_to number rest
answer_passed session number answer rest apart =
    let test : (session == number) ≡ false = grind (arith, nat_tests) in
    passed (session == number) (Some answer) (answer_to number rest) test

-- no answer is to one that isn't among them
none_to : (number : ℕ) (sessions : List ℕ) (answers : List (Result Heard NodeFault)) → IsNoneOf number sessions → answer_to number (zip sessions answers) ≡ None
none_to number [] answers none = refl
none_to number (session ∷ sessions) [] none = refl
none_to number (session ∷ sessions) (answer ∷ answers) (apart, none) =
    answer_passed session number answer (zip sessions answers) (λ same. apart (sym same)) ∙ none_to number sessions answers none

are_apart : (sessions : List ℕ) (answers : List (Result Heard NodeFault)) → AreDistinct sessions → AreApart (zip sessions answers)
are_apart [] answers distinct = tt
are_apart (session ∷ sessions) [] distinct = tt
are_apart (session ∷ sessions) (answer ∷ answers) (none, distinct) = (none_to session sessions answers none, are_apart sessions answers distinct)

are_of_others : (number : ℕ) (pieces : List Piece) → IsNoneOf number (map session_of pieces) → AreOfOthers number pieces
are_of_others number [] none = tt
are_of_others number (piece ∷ pieces) (apart, none) = (apart, are_of_others number pieces none)

record KeepsConfig {D : Type 0} (old new : RelayState D) : Type 0 where
  pub config : new.node.config ≡ old.node.config

-- nothing of a number is different but for changes that are pending more
record LeavesAlone {D : Type 0} (number : ℕ) (pending : List Change) (old new : RelayState D) (all : List Change) : Type 0 where
  pub seat : slot_at new.node.seats number ≡ slot_at old.node.seats number
  pub connection : slot_at new.clients number ≡ slot_at old.clients number
  pub config : new.node.config ≡ old.node.config
  pub added : List Change
  pub grows : all ≡ pending ++ added

module _ {D S : Type 0} (remaining contents : S → Option (List ℕ)) (setting : Setting) (changes pending all : List Change) (number : ℕ) (old new : RelayState D) (so : LeavesAlone number pending old new all)
    (slot : Option (Box (Client S) Global)) where
  serves_alone : Serves remaining contents (changes ++ pending) setting old number slot → Serves remaining contents (changes ++ all) setting new number slot
  serves_alone serves =
      subst (λ (list : List Change). Serves remaining contents list setting new number slot) (append_assoc changes pending so.added ∙ ap (λ (list : List Change). changes ++ list) (sym so.grows))
      (serves_later remaining contents setting (changes ++ pending) so.added old new number slot so.seat so.connection so.config serves)

  unused_alone : IsUnused old number → IsUnused new number
  unused_alone unused = record { connection = so.connection ∙ unused.connection; seat = so.seat ∙ unused.seat }

  session_alone : (heard : ℕ) (address : List ℕ) (channel : Channel S) → HasSession remaining contents (changes ++ pending) setting old number heard address channel
      → HasSession remaining contents (changes ++ all) setting new number heard address channel
  session_alone heard address channel session =
      subst (λ (list : List Change). HasSession remaining contents list setting new number heard address channel) (append_assoc changes pending so.added ∙ ap (λ (list : List Change). changes ++ list) (sym so.grows))
      (session_later remaining contents setting (changes ++ pending) so.added old new number heard address channel so.seat so.connection so.config session)

  heard_alone : (its : Option (Box (Client S) Global)) (heard : ℕ) (last : Option (List ℕ)) → HasHeard remaining contents (changes ++ pending) setting old number its heard last
      → HasHeard remaining contents (changes ++ all) setting new number its heard last
  heard_alone None heard last unused = unused_alone unused
  heard_alone (Some client) heard None session = session_alone heard (address_of client.value) client.value.channel session
  heard_alone (Some client) heard (Some last) ended = record { unused = unused_alone ended.unused; ends = ended.ends }

  answered_alone : (answer : Result Heard NodeFault) → HasAnswered remaining contents (changes ++ pending) setting old number slot answer → HasAnswered remaining contents (changes ++ all) setting new number slot answer
  answered_alone (Err fault) unused = unused_alone unused
  answered_alone (Ok heard) has = heard_alone slot heard.used heard.last has

  or_alone : (answer : Option (Result Heard NodeFault)) → HasAnsweredOr remaining contents (changes ++ pending) setting old number slot answer → HasAnsweredOr remaining contents (changes ++ all) setting new number slot answer
  or_alone None serves = serves_alone serves
  or_alone (Some answer) has = answered_alone answer has

module _ {D : Type 0} (honest : Type 0) (words : DiskWords D) (changes : List Change) (at : ℕ) where
  -- pieces of others
  leaves_alone : (number : ℕ) (pieces : List Piece) (answers : List (Result Heard NodeFault)) (pending : List Change) (old : RelayState D) (row : Row) (new : RelayState D) (left : Row) (all : List Change)
      → AreOfOthers number pieces → AnswersEach honest words changes at pieces answers pending old row new left all → LeavesAlone number pending old new all
  leaves_alone number [] answers pending old row new left all others (none, same, unmoved, is) = record {
    seat = ap (λ (s : RelayState D). slot_at s.node.seats number) same;
    connection = ap (λ (s : RelayState D). slot_at s.clients number) same;
    config = ap (λ (s : RelayState D). s.node.config) same;
    added = [];
    grows = is ∙ sym (append-nil pending);
  }
  leaves_alone number (piece ∷ pieces) answers pending old row new left all (apart, others) (answer, rest, is, mid, between, more, one, each) =
      let so = leaves_alone number pieces rest (pending ++ more) mid between new left all others each in
      record {
        seat = so.seat ∙ one.only.seats number apart;
        connection = so.connection ∙ one.only.clients number apart;
        config = so.config ∙ one.only.config;
        added = more ++ so.added;
        grows = so.grows ∙ append_assoc pending more so.added;
      }

  -- pieces leave the configuration
  keeps_config : (pieces : List Piece) (answers : List (Result Heard NodeFault)) (pending : List Change) (old : RelayState D) (row : Row) (new : RelayState D) (left : Row) (all : List Change)
      → AnswersEach honest words changes at pieces answers pending old row new left all → KeepsConfig old new
  keeps_config [] answers pending old row new left all (none, same, unmoved, is) = record { config = ap (λ (s : RelayState D). s.node.config) same }
  keeps_config (piece ∷ pieces) answers pending old row new left all (answer, rest, is, mid, between, more, one, each) =
      record { config = (keeps_config pieces rest (pending ++ more) mid between new left all each).config ∙ one.only.config }

  -- replies of next hops
  replies_alone : (number : ℕ) (replies : List ReplyPiece) (answers : List (Result Answered NodeFault)) (pending : List Change) (old : RelayState D) (row : Row) (new : RelayState D) (left : Row) (all : List Change)
      → RepliesEach honest words changes at replies answers pending old row new left all → LeavesAlone number pending old new all
  replies_alone number [] answers pending old row new left all (none, same, unmoved, is) = record {
    seat = ap (λ (s : RelayState D). slot_at s.node.seats number) same;
    connection = ap (λ (s : RelayState D). slot_at s.clients number) same;
    config = ap (λ (s : RelayState D). s.node.config) same;
    added = [];
    grows = is ∙ sym (append-nil pending);
  }
  replies_alone number (reply ∷ replies) answers pending old row new left all (answer, rest, is, mid, between, more, one, each) =
      let so = replies_alone number replies rest (pending ++ more) mid between new left all each in
      record {
        seat = so.seat ∙ ap (λ seats. slot_at seats number) one.only.seats;
        connection = so.connection ∙ ap (λ clients. slot_at clients number) one.only.clients;
        config = so.config ∙ one.only.config;
        added = more ++ so.added;
        grows = so.grows ∙ append_assoc pending more so.added;
      }

module _ {D S : Type 0} (honest : Type 0) (words : DiskWords D) (remaining contents : S → Option (List ℕ)) (changes : List Change) (setting : Setting) (at : ℕ) where
  -- a piece of a client that was talked to
  module _ (pending : List Change) (piece : Piece) (old mid : RelayState D) (row between : Row) (more : List Change) (client : Box (Client S) Global)
      (own : piece.octets.now ≡ share_of client.value.channel.block) (setups : HaveSetups setting.setups mid)
      (session : HasSession remaining contents (changes ++ pending) setting old piece.session 0 (address_of client.value) client.value.channel) where
    is_known : IsUnknown old piece.session → ⊥
    is_known (inl none) = some_is_not_none session.has_said.talks.connection none
    is_known (inr none) = some_is_not_none session.has_said.talks.seat.at none

    no_seat : (fault : NodeFault) → RefusesOne honest words changes at pending piece old row mid between more fault → slot_at mid.node.seats piece.session ≡ None
    no_seat NoMemory by = by.leaves.gone.session
    no_seat Stopped by = absurd by.leaves
    no_seat Unknown by = absurd (is_known (by.unknown refl))
    no_seat TooMany by = absurd by.leaves
    no_seat NotDue by = absurd by.leaves
    no_seat Busy by = absurd by.leaves
    no_seat NoSecond by = absurd by.leaves
    no_seat (Open cause) by = absurd by.leaves
    no_seat Full by = by.leaves.0.gone.session

    -- nothing of what was said waited
    all_written : unwritten_at old.clients piece.session ≡ [] → session.said.output ≡ session.has_said.written
    all_written drained =
        session.has_said.talks.output ∙ ap (λ (waiting : List ℕ). session.has_said.written ++ waiting) (sym (ap octets_of session.has_said.talks.connection) ∙ drained)
        ∙ append-nil session.has_said.written

    -- what is said now is carried
    carries_now : (heard : Heard) (later : Said) (left : List ℕ) → unwritten_at old.clients piece.session ≡ [] → heard.used ≤ length piece.octets.now
        → later.input ≡ session.said.input ++ take heard.used piece.octets.now → later.output ≡ session.has_said.written ++ left
        → Carries remaining contents (setting.beginnings piece.session) heard.used client.value.channel later left
    carries_now heard later left drained within input output =
        carries_more remaining contents (setting.beginnings piece.session) client.value.channel session.said later (unwritten_at old.clients piece.session) left heard.used
        (lines_length 256 client.value.channel.block) (subst (λ (octets : List ℕ). heard.used ≤ length octets) own within)
        (input ∙ ap (λ (octets : List ℕ). session.said.input ++ take heard.used octets) own) drained
        (output ∙ ap (λ (written : List ℕ). written ++ left) (sym (all_written drained))) session.carries

    by_last : (heard : Heard) (later : Said) (last : Option (List ℕ)) → unwritten_at old.clients piece.session ≡ [] → heard.used ≤ length piece.octets.now
        → later.input ≡ session.said.input ++ take heard.used piece.octets.now
        → GoesOn (changes ++ (pending ++ more)) mid piece.session (address_of client.value) later session.has_said.written last
        → HasHeard remaining contents (changes ++ (pending ++ more)) setting mid piece.session (Some client) heard.used last
    by_last heard later None drained within input talks = record {
      address_is = session.address_is;
      said = later;
      has_said = record { written = session.has_said.written; talks = talks };
      carries = carries_now heard later (unwritten_at mid.clients piece.session) drained within input
          (talks.output ∙ ap (λ (waiting : List ℕ). session.has_said.written ++ waiting) (sym (ap octets_of talks.connection)));
    }
    by_last heard later (Some last) drained within input left = record {
      unused = record { connection = left.connection; seat = left.seat };
      ends = record {
        said = later;
        dialogue = subst (λ (setup : Setup). IsDialogue setup later) (setup_is_at setting mid piece.session (address_of client.value) setups session.address_is) left.closed.dialogue;
        carries = inl (carries_now heard later last drained within input left.output);
      };
    }

    unheard : (heard : Heard) → heard ≡ unread → mid ≡ old → HasHeard remaining contents (changes ++ (pending ++ more)) setting mid piece.session (Some client) heard.used heard.last
    unheard heard nothing same =
        let still : LeavesAlone piece.session pending old mid (pending ++ more) = record {
          seat = ap (λ (s : RelayState D). slot_at s.node.seats piece.session) same;
          connection = ap (λ (s : RelayState D). slot_at s.clients piece.session) same;
          config = ap (λ (s : RelayState D). s.node.config) same;
          added = more;
          grows = refl;
        } in
        subst (λ (h : Heard). HasHeard remaining contents (changes ++ (pending ++ more)) setting mid piece.session (Some client) h.used h.last) (sym nothing)
        (session_alone remaining contents setting changes pending (pending ++ more) piece.session old mid still (Some client) 0 (address_of client.value) client.value.channel session)

    answered_by : (answer : Result Heard NodeFault) → AnswersBy honest words changes at pending piece old row mid between more answer
        → HasAnswered remaining contents (changes ++ (pending ++ more)) setting mid piece.session (Some client) answer
    answered_by (Err fault) by = record { connection = by.gone; seat = no_seat fault by }
    answered_by (Ok heard) by = where_waits (none_or_some (unwritten_at old.clients piece.session)) (laden_or_not row) where
      where_waits : (unwritten_at old.clients piece.session ≡ []) ⊎ (unwritten_at old.clients piece.session ≢ []) → IsLaden row ⊎ (IsLaden row → ⊥)
          → HasHeard remaining contents (changes ++ (pending ++ more)) setting mid piece.session (Some client) heard.used heard.last
      where_waits (inr waits) laden = let so = by.unread (inl waits) in unheard heard so.0 so.1
      where_waits (inl drained) (inl laden) = let so = by.unread (inr laden) in unheard heard so.0 so.1
      where_waits (inl drained) (inr light) =
          let reads = by.reads drained light (address_of client.value) session.said session.has_said.written session.has_said.talks in
          by_last heard reads.later heard.last drained by.within reads.input reads.goes_on

  -- pieces of clients that were served, one of each at most
  module _ (clients : List (Option (Box (Client S) Global))) (number : ℕ) where
    -- the first piece is the number's
    module _ (piece : Piece) (pieces : List Piece) (answer : Result Heard NodeFault) (rest : List (Result Heard NodeFault)) (pending : List Change) (old mid new : RelayState D) (row between left : Row) (more all : List Change)
        (own : IsOwn clients piece) (none : IsNoneOf piece.session (map session_of pieces)) (one : AnswersOne honest words changes at pending piece old row mid between more answer)
        (each : AnswersEach honest words changes at pieces rest (pending ++ more) mid between new left all) (same : piece.session ≡ number) (setups : HaveSetups setting.setups old)
        (serves : Serves remaining contents (changes ++ pending) setting old number (slot_at clients number)) where
      pub answered_here : HasAnswered remaining contents (changes ++ all) setting new number (slot_at clients number) answer
      answered_here =
          let session = subst (λ (slot : Option (Box (Client S) Global)). Serves remaining contents (changes ++ pending) setting old piece.session slot) own.there
          (subst (λ (n : ℕ). Serves remaining contents (changes ++ pending) setting old n (slot_at clients n)) (sym same) serves) in
          let first = answered_by pending piece old mid row between more own.client own.octets (setups_on setting.setups old mid one.only.config setups) session answer one.by in
          let so = leaves_alone honest words changes at piece.session pieces rest (pending ++ more) mid between new left all (are_of_others piece.session pieces none) each in
          subst (λ (n : ℕ). HasAnswered remaining contents (changes ++ all) setting new n (slot_at clients n) answer) same
          (subst (λ (slot : Option (Box (Client S) Global)). HasAnswered remaining contents (changes ++ all) setting new piece.session slot answer) (sym own.there)
          (answered_alone remaining contents setting changes (pending ++ more) all piece.session mid new so (Some own.client) answer first))

    each_answered : (pieces : List Piece) (answers : List (Result Heard NodeFault)) (pending : List Change) (old : RelayState D) (row : Row) (new : RelayState D) (left : Row) (all : List Change)
        → AllByRecursion (IsOwn clients) pieces → AreDistinct (map session_of pieces) → AnswersEach honest words changes at pieces answers pending old row new left all
        → HaveSetups setting.setups old
        → Serves remaining contents (changes ++ pending) setting old number (slot_at clients number)
        → HasAnsweredOr remaining contents (changes ++ all) setting new number (slot_at clients number) (answer_to number (zip (map session_of pieces) answers))
    each_answered [] answers pending old row new left all own distinct (none, same, unmoved, is) setups serves =
        subst (λ (list : List Change). Serves remaining contents (changes ++ list) setting new number (slot_at clients number)) (sym is)
        (subst (λ (s : RelayState D). Serves remaining contents (changes ++ pending) setting s number (slot_at clients number)) (sym same) serves)
    each_answered (piece ∷ pieces) answers pending old row new left all (own, owns) (none, distinct) (answer, rest, is, mid, between, more, one, each) setups serves =
        subst (λ (list : List (Result Heard NodeFault)). HasAnsweredOr remaining contents (changes ++ all) setting new number (slot_at clients number) (answer_to number (zip (piece.session ∷ map session_of pieces) list))) (sym is)
        (by (λ on. each_answered pieces rest (pending ++ more) mid between new left all owns distinct each (setups_on setting.setups old mid one.only.config setups) on) (cases_eq piece.session number))
      where
        Has : Option (Result Heard NodeFault) → Type 0
        Has answer = HasAnsweredOr remaining contents (changes ++ all) setting new number (slot_at clients number) answer

        by : (Serves remaining contents (changes ++ (pending ++ more)) setting mid number (slot_at clients number) → HasAnsweredOr remaining contents (changes ++ all) setting new number (slot_at clients number) (answer_to number (zip (map session_of pieces) rest)))
            → (piece.session ≡ number) ⊎ (piece.session ≡ number → ⊥)
            → HasAnsweredOr remaining contents (changes ++ all) setting new number (slot_at clients number) (answer_to number (zip (piece.session ∷ map session_of pieces) (answer ∷ rest)))
        by next (inl same) =
            subst (λ (to : Option (Result Heard NodeFault)). HasAnsweredOr remaining contents (changes ++ all) setting new number (slot_at clients number) to) (sym (answer_here piece.session number (map session_of pieces) answer rest same))
            (answered_here piece pieces answer rest pending old mid new row between left more all own none one each same setups serves)
        by next (inr apart) =
            let still : LeavesAlone number pending old mid (pending ++ more) = record {
              seat = one.only.seats number (λ is. apart (sym is));
              connection = one.only.clients number (λ is. apart (sym is));
              config = one.only.config;
              added = more;
              grows = refl;
            } in
            subst (λ (to : Option (Result Heard NodeFault)). HasAnsweredOr remaining contents (changes ++ all) setting new number (slot_at clients number) to) (sym (answer_passed piece.session number answer (zip (map session_of pieces) rest) apart))
            (next (serves_alone remaining contents setting changes pending (pending ++ more) number old mid still (slot_at clients number) serves))

-- an own piece of the slots that stand is one of the table
own_of : {S : Type 0} (standing clients : List (Option (Box (Client S) Global))) → ((number : ℕ) → slot_at standing number ≡ slot_at clients number)
    → (pieces : List Piece) → AllByRecursion (IsOwn standing) pieces → AllByRecursion (IsOwn clients) pieces
own_of standing clients same [] own = tt
own_of standing clients same (piece ∷ pieces) (own, owns) = (
  record { client = own.client; there = sym (same piece.session) ∙ own.there; octets = own.octets },
  own_of standing clients same pieces owns,
)

-- the changes that are pending after the call, and what the relay has for each client after it
pub record HaveAnsweredAfter {D S : Type 0} (honest : Type 0) (words : DiskWords D) (remaining contents : S → Option (List ℕ)) (changes : List Change) (setting : Setting)
    (clients : List (Option (Box (Client S) Global))) (relay : RelayState D) (answers : List (ℕ × Result Heard NodeFault)) : Type 0 where
  pub pending : List Change
  pub answered : HaveAnswered honest words remaining contents (changes ++ pending) setting clients relay answers

pub hears_answered : {D S : Type 0} (honest : Type 0) (words : DiskWords D) (remaining contents : S → Option (List ℕ)) (changes : List Change) (setting : Setting) (clients standing : List (Option (Box (Client S) Global))) (first : ℕ) (replies : List ReplyPiece) (at : ℕ) (old new : RelayState D) (hearing : Hearing)
    → ((number : ℕ) → slot_at standing number ≡ slot_at clients number) → AreServed honest words remaining contents changes setting clients old → HearOwn honest words standing first replies at old new hearing
    → HaveAnsweredAfter honest words remaining contents changes setting clients new (zip hearing.sessions.items hearing.heard.items)
hears_answered honest words remaining contents changes setting clients standing first replies at old new hearing same served hears = record {
  pending = all.pending;
  answered = record {
    keeps = all.settles.keeps;
    setups_are = setups_on setting.setups old new (all.config ∙ replied.config ∙ heard.config) served.setups_are;
    relayed = relayed_heard honest words changes at hears.pieces replies old new hears.group all served.relayed;
    apart = are_apart hearing.sessions.items hearing.heard.items (subst AreDistinct (sym hears.each) (are_distinct standing first));
    each = λ number.
        subst (λ (pairs : List (ℕ × Result Heard NodeFault)). HasAnsweredOr remaining contents (changes ++ all.pending) setting new number (slot_at clients number) (answer_to number pairs)) pairs_are
        (or_alone remaining contents setting changes a.staged all.pending number a.between new (afterwards number) (slot_at clients number)
        (answer_to number (zip (map session_of hears.pieces) hears.group.heard.items))
        (each_answered honest words remaining contents changes setting at clients number hears.pieces hears.group.heard.items [] old no_row a.between a.beside a.staged owns distinct a.pieces_each served.setups_are
        (subst (λ (list : List Change). Serves remaining contents list setting old number (slot_at clients number)) (sym (append-nil changes)) (served.each number))));
  };
}
  where
    all : ReadsAll honest words changes at hears.pieces replies old new hears.group
    all = hears.reads changes served.keeps

    a : AnswersAll honest words changes at hears.pieces replies hears.group.heard.items hears.group.answered.items old all.before all.row all.pending
    a = all.answers

    owns : AllByRecursion (IsOwn clients) hears.pieces
    owns = own_of standing clients same hears.pieces (recursion_from_All (IsOwn standing) hears.pieces hears.own)

    distinct : AreDistinct (map session_of hears.pieces)
    distinct = subst AreDistinct (sym hears.each ∙ hears.sessions) (are_distinct standing first)

    pairs_are : zip (map session_of hears.pieces) hears.group.heard.items ≡ zip hearing.sessions.items hearing.heard.items
    pairs_are =
        ap (λ (sessions : List ℕ). zip sessions hears.group.heard.items) (sym hears.sessions)
        ∙ ap (λ heard. zip hearing.sessions.items heard.items) hears.heard

    replied : LeavesAlone 0 a.staged a.between all.before all.pending
    replied = replies_alone honest words changes at 0 replies hears.group.answered.items a.staged a.between a.beside all.before all.row all.pending a.replies_each

    heard : KeepsConfig old a.between
    heard = keeps_config honest words changes at hears.pieces hears.group.heard.items [] old no_row a.between a.beside a.staged a.pieces_each

    afterwards : (number : ℕ) → LeavesAlone number a.staged a.between new all.pending
    afterwards number =
        let so = replies_alone honest words changes at number replies hears.group.answered.items a.staged a.between a.beside all.before all.row all.pending a.replies_each in
        record {
          seat = ap (λ seats. slot_at seats number) all.seats ∙ so.seat;
          connection = ap (λ clients. slot_at clients number) all.clients ∙ so.connection;
          config = all.config ∙ so.config;
          added = so.added;
          grows = so.grows;
        }

-- the first of these answers
pub answer_first : (session : ℕ) (answer : Result Heard NodeFault) (rest : List (ℕ × Result Heard NodeFault)) → answer_to session ((session, answer) ∷ rest) ≡ Some answer
answer_first session answer rest =
    let test : (session == session) ≡ true = grind (arith, nat_tests) in
    chosen (session == session) (Some answer) (answer_to session rest) test

-- an answer was taken, and the others are still to be
pub answered_on : {D S : Type 0} (honest : Type 0) (words : DiskWords D) (remaining contents : S → Option (List ℕ)) (changes : List Change) (setting : Setting) (clients later : List (Option (Box (Client S) Global))) (before after : RelayState D) (session : ℕ) (answer : Result Heard NodeFault) (rest : List (ℕ × Result Heard NodeFault))
    → HaveAnswered honest words remaining contents changes setting clients before ((session, answer) ∷ rest) → ActsOn session clients later before after
    → Serves remaining contents changes setting after session (slot_at later session) → HaveAnswered honest words remaining contents changes setting later after rest
answered_on honest words remaining contents changes setting clients later before after session answer rest have acts serves = record {
  keeps = subst (λ records. Keeps honest words records changes) (sym acts.rest.records) have.keeps;
  setups_are = setups_on setting.setups before after acts.rest.only.config have.setups_are;
  relayed = relayed_still changes before after acts.rest.only.attempts acts.rest.only.hops acts.rest.only.config have.relayed;
  apart = have.apart.1;
  each = λ number. by number (cases_eq session number);
}
  where
    still : (number : ℕ) → (session ≡ number → ⊥) → LeavesAlone number [] before after []
    still number apart = record {
      seat = acts.rest.only.seats number (λ is. apart (sym is));
      connection = acts.rest.only.clients number (λ is. apart (sym is));
      config = acts.rest.only.config;
      added = [];
      grows = refl;
    }

    by : (number : ℕ) → (session ≡ number) ⊎ (session ≡ number → ⊥) → HasAnsweredOr remaining contents changes setting after number (slot_at later number) (answer_to number rest)
    by number (inl same) =
        subst (λ (n : ℕ). HasAnsweredOr remaining contents changes setting after n (slot_at later n) (answer_to n rest)) same
        (subst (λ (to : Option (Result Heard NodeFault)). HasAnsweredOr remaining contents changes setting after session (slot_at later session) to) (sym have.apart.0) serves)
    by number (inr apart) =
        let had = subst (λ (to : Option (Result Heard NodeFault)). HasAnsweredOr remaining contents changes setting before number (slot_at clients number) to) (answer_passed session number answer rest apart) (have.each number) in
        subst (λ (slot : Option (Box (Client _) Global)). HasAnsweredOr remaining contents changes setting after number slot (answer_to number rest)) (sym (acts.clients number (λ is. apart (sym is))))
        (subst (λ (list : List Change). HasAnsweredOr remaining contents list setting after number (slot_at clients number) (answer_to number rest)) (append-nil changes)
        (or_alone remaining contents setting changes [] [] number before after (still number apart) (slot_at clients number) (answer_to number rest)
        (subst (λ (list : List Change). HasAnsweredOr remaining contents list setting before number (slot_at clients number) (answer_to number rest)) (sym (append-nil changes)) had)))

-- all answers were taken
pub answered_end : {D S : Type 0} (honest : Type 0) (words : DiskWords D) (remaining contents : S → Option (List ℕ)) (changes : List Change) (setting : Setting) (clients : List (Option (Box (Client S) Global))) (relay : RelayState D) (sessions : List ℕ) (answers : List (Result Heard NodeFault)) → (sessions ≡ []) ⊎ (answers ≡ [])
    → HaveAnswered honest words remaining contents changes setting clients relay (zip sessions answers) → AreServed honest words remaining contents changes setting clients relay
answered_end honest words remaining contents changes setting clients relay sessions answers none have =
    let all : HaveAnswered honest words remaining contents changes setting clients relay [] = subst (λ (list : List (ℕ × Result Heard NodeFault)). HaveAnswered honest words remaining contents changes setting clients relay list) (empty sessions answers none) have in
    record { keeps = all.keeps; setups_are = all.setups_are; relayed = all.relayed; each = all.each }
  where
    empty : (sessions : List ℕ) (answers : List (Result Heard NodeFault)) → (sessions ≡ []) ⊎ (answers ≡ []) → zip sessions answers ≡ []
    empty [] answers none = refl
    empty (session ∷ sessions) [] none = refl
    empty (session ∷ sessions) (answer ∷ answers) (inl none) = absurd (cc none)
    empty (session ∷ sessions) (answer ∷ answers) (inr none) = absurd (cc none)
