-- What stays of the connections of a relay.
use Rattle.std.proofs.Common.{◌≡◌, ◌∙◌, ◌++◌, ℕ, List, Option, inl, inr, ap, sym, subst}
use Rattle.relay_slots.specs.Slots.{slot_at}
use Rattle.relay_routes.specs.declared.config.Config.{Config}
use Rattle.relay_attempts.specs.declared.runs.Run.{Run}
use Rattle.relay_attempts.specs.Reply.{Told}
use Rattle.relay_server.specs.Setup.{setup_for}
use Rattle.relay_server.proofs.Theorems.{what_stands_is_a_dialogue}
use Rattle.relay_book.specs.declared.change.Change.{Change}
use Rattle.relay_book.specs.Queue.{Fitting}
use Rattle.relay_node.specs.Attempts.{Tells}
use Rattle.relay_node.specs.Node.{SessionHasSaid}
use Rattle.relay_node.specs.Queued.{queued_in}
use Rattle.relay_node.proofs.Theorems.{told_stays}
use Rattle.relay_loop.specs.Accepted.{AreAccepted}
use Rattle.relay_loop.specs.Laws.{HandsStay, OthersHand, OthersTalk, QueuedAreAccepted, StaysOrGrows, TalksAreDialogues, TalksStay}
use Rattle.relay_loop.proofs.AcceptedLemmas.{accepted_stays, one_of}

pub talks_are_dialogues : {D : Type 0} → TalksAreDialogues D
talks_are_dialogues changes relay session peer said written t = (
  what_stands_is_a_dialogue (setup_for relay.node.config peer) t.seat.seat.session.value said t.seat.says.stands,
  (t.waiting, t.output),
)

pub queued_are_accepted : {D : Type 0} → QueuedAreAccepted D
queued_are_accepted changes relay session peer said written t number offer (k, low, is) = one_of relay.node.config peer changes (queued_in said) k number offer t.accepted low is

pub talks_stay : {D : Type 0} → TalksStay D
talks_stay changes added old new session peer said written seats clients config t = record {
  seat = record {
    seat = t.seat.seat;
    at = seats ∙ t.seat.at;
    peer_is = t.seat.peer_is;
    says = subst (λ (c : Config). SessionHasSaid (setup_for c peer) t.seat.seat.session.value said) (sym config) t.seat.says;
  };
  waiting = t.waiting;
  connection = clients ∙ t.connection;
  output = t.output;
  accepted = subst (λ (c : Config). AreAccepted c peer (changes ++ added) said) (sym config) (accepted_stays old.node.config peer changes added said t.accepted);
}

-- what is told of an attempt stays while it does
same_tells : (host : List ℕ) (changes : List Change) (old new : List (Option Run)) (number : ℕ) (told : Told) → slot_at new number ≡ slot_at old number → Tells host changes old number told → Tells host changes new number told
same_tells host changes old new number told same t = record {
  run = t.run;
  at = same ∙ t.at;
  its_message = t.its_message;
  its_hop = t.its_hop;
  its_places = t.its_places;
  accept = t.accept;
  accepted = t.accepted;
  envelope_is = t.envelope_is;
  text_is = t.text_is;
  follows = t.follows;
}

pub others_talk : {D : Type 0} → OthersTalk D
others_talk changes added old new called session peer said written (inl (only, other)) t =
    talks_stay changes added old new session peer said written (only.seats session other) (only.clients session other) only.config t
others_talk changes added old new called session peer said written (inr only) t =
    talks_stay changes added old new session peer said written (ap (λ seats. slot_at seats session) only.seats) (ap (λ clients. slot_at clients session) only.clients) only.config t

-- by the list that stays or grows
tells_later : (host : List ℕ) (changes later : List Change) (old new : List (Option Run)) (number : ℕ) (told : Told) → StaysOrGrows changes later → slot_at new number ≡ slot_at old number → Tells host changes old number told → Tells host later new number told
tells_later host changes later old new number told (inl stays) same t =
    subst (λ (list : List Change). Tells host list new number told) (sym stays) (same_tells host changes old new number told same t)
tells_later host changes later old new number told (inr (change, grows, fitting)) same t =
    subst (λ (list : List Change). Tells host list new number told) (sym grows)
    (told_stays host changes change old new number told (subst Fitting grows fitting) same t)

pub hands_stay : {D : Type 0} → HandsStay D
hands_stay changes later old new attempt told written grown attempts hops config t = record {
  tells =
      subst (λ (c : Config). Tells c.host later new.node.attempts attempt told) (sym config)
      (tells_later old.node.config.host changes later old.node.attempts new.node.attempts attempt told grown attempts t.tells);
  waiting = t.waiting;
  connection = hops ∙ t.connection;
  output = t.output;
}

pub others_hand : {D : Type 0} → OthersHand D
others_hand changes later old new called attempt told written grown (inl (only, other)) t =
    hands_stay changes later old new attempt told written grown (only.attempts attempt other) (only.hops attempt other) only.config t
others_hand changes later old new called attempt told written grown (inr only) t =
    hands_stay changes later old new attempt told written grown (ap (λ attempts. slot_at attempts attempt) only.attempts) (ap (λ hops. slot_at hops attempt) only.hops) only.config t
