-- What a node has accepted on a whole link it has acknowledged there.
use Rattle.std.proofs.Common.{◌≡◌, ℕ, zero, suc, false, List, [], ◌∷◌, ◌++◌, length, Option, None, Some, inl, refl, sym, subst, ap, ◌∙◌}
use Rattle.std.specs.Prelude.{slice_get}
use Rattle.std.specs.List.{Contains}
use Rattle.std.proofs.lemmas.List.{append-nil, append_assoc}
use Rattle.std.proofs.lemmas.List.Concat.{flat_map-append}
use Rattle.std.proofs.lemmas.Option.{none-some, same_Some}
use Rattle.relay_disk.specs.Device.{DiskWords}
use Rattle.relay_lines.specs.Reply.{Reply, reply_text}
use Rattle.relay_server.specs.declared.offer.Answer.{Answer}
use Rattle.relay_server.specs.declared.offer.Answer.TheVariants.{Queued, Full}
use Rattle.relay_server.specs.declared.reply_table.Row.TheVariants.{Greeting}
use Rattle.relay_server.specs.Dialogue.{IsDialogue, Offered, Said, Turn, Turns, answered_by, answers_in, offered_by, offers_in, read_by, written_by}
use Rattle.relay_server.specs.Reply.{reply_of}
use Rattle.relay_server.specs.Setup.{Setup, setup_for}
use Rattle.relay_server.specs.State.{State, start}
use Rattle.relay_server.specs.Unit.{HasNoUnit}
use Rattle.relay_server.proofs.Theorems.{no_unit_is_empty}
use Rattle.relay_book.specs.declared.change.Change.{Change}
use Rattle.relay_meeting.specs.Joined.{output_with}
use Rattle.relay_node.specs.Queued.{queued_by, queued_in}
use Rattle.relay_world.specs.declared.link.Link.{Link}
use Rattle.relay_world.specs.declared.link.ServerEnd.{ServerEnd}
use Rattle.relay_world.specs.Bound.{IsBound, IsServed, ServesLink}
use Rattle.relay_world.specs.Custody.{AcceptedIsAcknowledged, Acknowledged}
use Rattle.relay_world.specs.Ledger.{accepts_on}
use Rattle.relay_world.specs.World.{World, link_at}
use Rattle.relay_world.proofs.AmongLemmas.{found_in, of_map}
use Rattle.relay_world.proofs.ClosingLemmas.{turns_answered}

-- the turn of a queued offer, among these
record TurnOf (turns : List Turn) (one : ℕ × Offered) : Type 0 where
  pub front : List Turn
  pub turn : Turn
  pub after : List Turn
  pub turns_are : turns ≡ front ++ turn ∷ after
  pub offer : turn.offer ≡ Some (one.1, Queued one.0)

after_one : (first : Turn) (turns : List Turn) (one : ℕ × Offered) → TurnOf turns one → TurnOf (first ∷ turns) one
after_one first turns one its = record {
  front = first ∷ its.front;
  turn = its.turn;
  after = its.after;
  turns_are = ap (λ l. first ∷ l) its.turns_are;
  offer = its.offer;
}

turn_of : (turns : List Turn) (unanswered : List Offered) (k : ℕ) (one : ℕ × Offered)
    → slice_get (queued_by (answered_by turns) (offered_by turns ++ unanswered)) k ≡ Some one → TurnOf turns one
turn_of [] unanswered k one is = absurd (none-some one is)
turn_of (turn ∷ turns) unanswered k one is = by turn.offer refl (λ n. turn_of turns unanswered n one) k is
  where
    by : (offer : Option (Offered × Answer)) → turn.offer ≡ offer
        → ((n : ℕ) → slice_get (queued_by (answered_by turns) (offered_by turns ++ unanswered)) n ≡ Some one → TurnOf turns one)
        → (n : ℕ)
        → slice_get (queued_by (answers_in offer ++ answered_by turns) ((offers_in offer ++ offered_by turns) ++ unanswered)) n
        ≡ Some one → TurnOf (turn ∷ turns) one
    by None same rest n found = after_one turn turns one (rest n found)
    by (Some (offer, Full)) same rest n found = after_one turn turns one (rest n found)
    by (Some (offer, Queued number)) same rest zero found = record {
      front = [];
      turn = turn;
      after = turns;
      turns_are = refl;
      offer = same ∙ ap (λ (o : ℕ × Offered). Some (o.1, Queued o.0)) (same_Some (number, offer) one found);
    }
    by (Some (offer, Queued number)) same rest (suc n) found = after_one turn turns one (rest n found)

-- turns lead up to each of them
up_to : (setup : Setup) (old new : State) (front : List Turn) (turn : Turn) (after : List Turn)
    → Turns setup old (front ++ turn ∷ after) new → (mid : State) × Turns setup old (front ++ turn ∷ []) mid
up_to setup old new [] turn after runs = (runs.0, (runs.0, runs.1, refl))
up_to setup old new (first ∷ front) turn after runs =
    let rest = up_to setup runs.0 new front turn after runs.2 in (rest.0, (runs.0, runs.1, rest.1))

empty_front : {A : Type 0} (xs ys : List A) → [] ≡ xs ++ ys → xs ≡ []
empty_front [] ys same = refl
empty_front (x ∷ xs) ys same = absurd (cc)

-- nothing holds no unit
none_left : (state : State) → HasNoUnit state []
none_left state unit rest is same = no_unit_is_empty state unit is (empty_front unit rest same)

closing_after : (output : List ℕ) (closing : Option Reply) → (more : List ℕ) × (output_with output closing ≡ output ++ more)
closing_after output None = ([], sym (append-nil output))
closing_after output (Some reply) = (reply_text reply, refl)

module _ {D : Type 0} (honest : Type 0) (words : DiskWords D) (world : World D) (lists : List (List Change))
    (bound : IsBound honest words world lists) (on : ℕ) (link : Link) (end : ServerEnd)
    (is_there : link_at world.links on ≡ Some link) (serves : link.server ≡ Some end) (whole : link.broken ≡ false) where
  served : IsServed world lists on link end
  served = bound.servers on link end is_there serves

  its : ServesLink served.host served.changes world.ledger on link end
  its = served.serves

  abbrev setup : Setup
  setup = setup_for served.host.config end.peer

  abbrev dialogue : IsDialogue setup its.said
  dialogue = its.dialogue

  -- the dialogue up to the turn of a queued offer
  module _ (one : ℕ × Offered) (turn : TurnOf dialogue.turns one) where
    abbrev turns_there : List Turn
    turns_there = turn.front ++ turn.turn ∷ []

    both : dialogue.turns ≡ turns_there ++ turn.after
    both = turn.turns_are ∙ sym (append_assoc turn.front (turn.turn ∷ []) turn.after)

    abbrev said_there : Said
    said_there = record {
      input = read_by turns_there;
      answers = answered_by turns_there;
      output = reply_text (reply_of setup.host Greeting) ++ written_by turns_there;
      offers = offered_by turns_there;
    }

    dialogue_there : IsDialogue setup said_there
    dialogue_there =
        let runs = up_to setup start dialogue.state turn.front turn.turn turn.after
        (subst (λ l. Turns setup start l dialogue.state) turn.turns_are dialogue.runs) in
        record {
          turns = turns_there;
          state = runs.0;
          rest = [];
          unanswered = [];
          runs = runs.1;
          input = sym (append-nil (read_by turns_there));
          output = refl;
          answers = refl;
          offers = sym (append-nil (offered_by turns_there));
          left = inl (none_left runs.0, refl);
        }

    acknowledged : Acknowledged world end.node one.0 (length one.1.envelope.recipients)
    acknowledged = record {
      on = on;
      link = link;
      is_there = is_there;
      end = end;
      serves = serves;
      its_node = refl;
      host = served.host;
      found = served.stands.host_at;
      said = said_there;
      dialogue = dialogue_there;
      was_read = (
        read_by turn.after ++ dialogue.rest,
        sym its.input ∙ dialogue.input
            ∙ ap (λ l. read_by l ++ dialogue.rest) both
            ∙ ap (λ l. l ++ dialogue.rest) (flat_map-append (λ (t : Turn). t.asked) turns_there turn.after)
            ∙ append_assoc (read_by turns_there) (read_by turn.after) dialogue.rest,
      );
      written =
          let closing = closing_after its.said.output its.closing in (
            written_by turn.after ++ closing.0,
            its.whole whole ∙ closing.1
                ∙ ap (λ l. l ++ closing.0) (dialogue.output
                ∙ ap (λ l. reply_text (reply_of setup.host Greeting) ++ written_by l) both
                ∙ ap (λ l. reply_text (reply_of setup.host Greeting) ++ l)
                (flat_map-append (λ (t : Turn). reply_text t.reply) turns_there turn.after)
                ∙ sym (append_assoc (reply_text (reply_of setup.host Greeting)) (written_by turns_there) (written_by turn.after)))
                ∙ append_assoc (reply_text (reply_of setup.host Greeting) ++ written_by turns_there) (written_by turn.after)
                closing.0,
          );
      answers = answered_by turn.front;
      last_answer = flat_map-append (λ (t : Turn). answers_in t.offer) turn.front (turn.turn ∷ [])
          ∙ ap (λ o. answered_by turn.front ++ (answers_in o ++ [])) turn.offer;
      offers = offered_by turn.front;
      offer = one.1;
      last_offer = flat_map-append (λ (t : Turn). offers_in t.offer) turn.front (turn.turn ∷ [])
          ∙ ap (λ o. offered_by turn.front ++ (offers_in o ++ [])) turn.offer;
      each = turns_answered turn.front;
      places_are = refl;
    }

  accepted : (number places : ℕ) → Contains {X = ℕ × ℕ} (accepts_on on world.ledger) (number, places)
      → Acknowledged world end.node number places
  accepted number places has =
      let found = found_in (accepts_on on world.ledger) (number, places) has in
      let one = of_map (λ (o : ℕ × Offered). (o.0, length o.1.envelope.recipients)) (queued_in its.said) found.0
      (number, places) (ap (λ l. slice_get l found.0) (sym its.accepts) ∙ found.1) in
      let turn = turn_of dialogue.turns dialogue.unanswered found.0 one.0
      (ap (λ l. slice_get (queued_by (answered_by dialogue.turns) l) found.0) (sym dialogue.offers)
      ∙ ap (λ l. slice_get (queued_by l its.said.offers) found.0) (sym dialogue.answers) ∙ one.1) in
      subst (λ (p : ℕ × ℕ). Acknowledged world end.node p.0 p.1) one.2 (acknowledged one.0 turn)

pub accepted_is_acknowledged : {D : Type 0} (honest : Type 0) (words : DiskWords D) → AcceptedIsAcknowledged honest words
accepted_is_acknowledged honest words world lists bound on link end is_there serves whole number places has =
    accepted honest words world lists bound on link end is_there serves whole number places has
