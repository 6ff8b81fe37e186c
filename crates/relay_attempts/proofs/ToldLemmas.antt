-- What is told of an attempt, and what its client follows.
use Rattle.std.proofs.Common.{◌≡◌, ℕ, zero, suc, ◌<◌, true, false, List, [], ◌∷◌, ◌++◌, length, take, Option, None, Some, Result, Ok, Err, IfOk, refl, sym, ap, ◌∙◌, subst}
use Rattle.std.specs.Prelude.{slice_set}
use Rattle.std.specs.declared.alloc.AllocError.{AllocError}
use Rattle.std.proofs.lemmas.List.{length-set}
use Rattle.relay_slots.specs.Slots.{slot_at}
use Rattle.relay_slots.proofs.Theorems.{has_slot}
use Rattle.relay_envelope.specs.declared.envelope.Envelope.{Envelope}
use Rattle.relay_routes.specs.Routes.{RouteTable}
use Rattle.relay_book.specs.declared.change.Outcome.{Outcome}
use Rattle.relay_book.specs.declared.change.Verdict.{Verdict}
use Rattle.relay_book.specs.declared.message.Message.{Message}
use Rattle.relay_book.specs.Queue.{Queue, message_of}
use Rattle.relay_course.specs.Course.{IsCourse}
use Rattle.relay_course.specs.VerdictTable.{all_later}
use Rattle.relay_course.proofs.Theorems.{course_is_one}
use Rattle.relay_client.specs.declared.attempt.Attempt.{Attempt}
use Rattle.relay_client.specs.declared.attempt.Driven.{Driven}
use Rattle.relay_client.specs.declared.attempt.Stage.TheVariants.{Running}
use Rattle.relay_client.specs.Attempt.{Follows, FollowsOn, Turns, TurnsAt}
use Rattle.relay_client.proofs.Theorems.{followed_may_be_lost}
use Rattle.relay_attempts.specs.declared.runs.Run.{Run}
use Rattle.relay_attempts.specs.Outcomes.{outcome_of, rulings_of}
use Rattle.relay_attempts.specs.Runs.{RunsFor}
use Rattle.relay_attempts.specs.Reply.{IsItsCourse, TellsAt, Told, outcome_at, told_more}

some_is : {A : Type 0} (x y : A) → Some x ≡ Some y → x ≡ y
some_is x y e = cc

-- a slot that was taken, and what is put back
pub put_back : (runs : List (Option Run)) (number : ℕ) (run : Run) (value : Option Run) → slot_at runs number ≡ Some run
    → slot_at (slice_set (slice_set runs number None) number value) number ≡ value
put_back [] number run value is = absurd (cc)
put_back (first ∷ runs) zero run value is = refl
put_back (first ∷ runs) (suc number) run value is = put_back runs number run value is

pub has_room : (runs : List (Option Run)) (number : ℕ) (run : Run) → slot_at runs number ≡ Some run
    → number < length (slice_set runs number None)
has_room runs number run is = subst (λ n. number < n) (sym (length-set runs number None)) (has_slot runs number run is)

-- what a client that has heard more of its message does, whatever its host, its places and what came before
abbrev pub Hears : Queue → Run → Attempt → List ℕ → List ℕ → Option (List Verdict) → Type 0
Hears queue run after more out verdicts =
    (message : Message) (host places input output : List ℕ) → message_of queue.messages run.message ≡ Some message
    → Follows run.client host message.accept.envelope message.accept.stored_text places input output
    → FollowsOn after host message.accept.envelope message.accept.stored_text places (input ++ more) (output ++ out)
    verdicts

-- a client that runs uses the whole piece, unless it ends
pub uses_all : (old new : Attempt) (driven : Driven) (len : ℕ) → old.stage ≡ Running → Turns old new driven len
    → driven.verdicts ≡ None → driven.used ≡ len
uses_all old new driven len runs turns none =
    let at_running = subst (λ s. TurnsAt s new driven len) runs turns in
    at_running.1 none

-- the message that its client was fed with is the queue's
pub hears_queued : (queue : Queue) (run : Run) (after : Attempt) (piece : List ℕ) (result : Result Driven AllocError)
    (fed : Message) (text : List ℕ) → message_of queue.messages run.message ≡ Some fed
    → text ≡ fed.accept.stored_text
    → IfOk result (λ driven. (host places input output : List ℕ)
    → Follows run.client host fed.accept.envelope text places input output
    → FollowsOn after host fed.accept.envelope text places (input ++ take driven.used piece)
    (output ++ driven.out.items) driven.verdicts)
    → IfOk result (λ driven. Hears queue run after (take driven.used piece) driven.out.items driven.verdicts)
hears_queued queue run after piece (Err fault) fed text found text_is fed_is = tt
hears_queued queue run after piece (Ok driven) fed text found text_is fed_is =
    λ message host places input output its follows.
    let one : fed ≡ message = some_is fed message (sym found ∙ its) in
    let same : text ≡ message.accept.stored_text = text_is ∙ ap (λ (m : Message). m.accept.stored_text) one in
    let envelope : fed.accept.envelope ≡ message.accept.envelope = ap (λ (m : Message). m.accept.envelope) one in
    let more : List ℕ = input ++ take driven.used piece in
    let written : List ℕ = output ++ driven.out.items in
    subst (λ (e : Envelope). FollowsOn after host e message.accept.stored_text places more written driven.verdicts)
    envelope
    (subst (λ (t : List ℕ). FollowsOn after host fed.accept.envelope t places more written driven.verdicts) same
    (fed_is host places input output
    (subst (λ (e : Envelope). Follows run.client host e text places input output) (sym envelope)
    (subst (λ (t : List ℕ). Follows run.client host message.accept.envelope t places input output) (sym same)
    follows))))

-- a run for the same message, hop and places has the same outcome
pub same_outcome : (run new : Run) (now : ℕ) (verdicts : List Verdict) → new.message ≡ run.message → new.hop ≡ run.hop
    → new.places ≡ run.places
    → outcome_of new.message now new.hop (rulings_of new.places.items verdicts)
    ≡ outcome_of run.message now run.hop (rulings_of run.places.items verdicts)
same_outcome run new now verdicts message hop places =
    ap (λ n. outcome_of n now new.hop (rulings_of new.places.items verdicts)) message
    ∙ ap (λ (h : List ℕ). outcome_of run.message now h (rulings_of new.places.items verdicts)) hop
    ∙ ap (λ p. outcome_of run.message now run.hop (rulings_of p.items verdicts)) places

-- an attempt of the queue that heard more and has ended has a course
pub ended_course : (host : List ℕ) (table : RouteTable) (queue : Queue) (run : Run) (runs : RunsFor host table queue run)
    (after : Attempt) (more out : List ℕ) (ended : Option (List Verdict)) (verdicts : List Verdict)
    → ended ≡ Some verdicts → Hears queue run after more out ended
    → IsCourse host runs.message.accept.envelope runs.message.accept.stored_text run.places.items (runs.input ++ more) false
    (runs.output ++ out) (Some verdicts)
ended_course host table queue run runs after more out ended verdicts is hears =
    let envelope = runs.message.accept.envelope in
    let text = runs.message.accept.stored_text in
    subst
    (λ (o : Option (List Verdict)). FollowsOn after host envelope text run.places.items (runs.input ++ more) (runs.output ++ out) o)
    is (hears runs.message host run.places.items runs.input runs.output runs.found runs.follows)

-- one that heard more and goes on follows what it has heard
pub going_follows : (host : List ℕ) (table : RouteTable) (queue : Queue) (run : Run) (after : Attempt) (more out : List ℕ)
    (ended : Option (List Verdict)) → ended ≡ None → Hears queue run after more out ended
    → (runs : RunsFor host table queue run)
    → Follows after host runs.message.accept.envelope runs.message.accept.stored_text run.places.items (runs.input ++ more)
    (runs.output ++ out)
going_follows host table queue run after more out ended is hears runs =
    let envelope = runs.message.accept.envelope in
    let text = runs.message.accept.stored_text in
    subst
    (λ (o : Option (List Verdict)). FollowsOn after host envelope text run.places.items (runs.input ++ more) (runs.output ++ out) o)
    is (hears runs.message host run.places.items runs.input runs.output runs.found runs.follows)

module _ (host : List ℕ) (queue : Queue) (runs : List (Option Run)) (number : ℕ) (told : Told) (run : Run)
    (tells : TellsAt host queue runs number told) (its : slot_at runs number ≡ Some run) where
  one : tells.run ≡ run
  one = some_is tells.run run (sym tells.at ∙ its)

  message_is : run.message ≡ told.message
  message_is = ap (λ (r : Run). r.message) (sym one) ∙ tells.its_message

  hop_is : run.hop ≡ told.hop
  hop_is = ap (λ (r : Run). r.hop) (sym one) ∙ tells.its_hop

  places_are : run.places.items ≡ told.places
  places_are = ap (λ (r : Run). r.places.items) (sym one) ∙ tells.its_places

  -- the attempt's outcome is the one that is told
  pub outcome_is_told : (now : ℕ) (verdicts : List Verdict)
      → outcome_of run.message now run.hop (rulings_of run.places.items verdicts) ≡ outcome_at now told verdicts
  outcome_is_told now verdicts =
      ap (λ n. outcome_of n now run.hop (rulings_of run.places.items verdicts)) message_is
      ∙ ap (λ (h : List ℕ). outcome_of told.message now h (rulings_of run.places.items verdicts)) hop_is
      ∙ ap (λ (l : List ℕ). outcome_of told.message now told.hop (rulings_of l verdicts)) places_are

  -- and so is that of a run for the same message, hop and places
  pub outcome_told : (new : Run) (now : ℕ) (verdicts : List Verdict) (outcome : Outcome)
      → outcome ≡ outcome_of new.message now new.hop (rulings_of new.places.items verdicts) → new.message ≡ run.message
      → new.hop ≡ run.hop → new.places ≡ run.places → outcome ≡ outcome_at now told verdicts
  outcome_told new now verdicts outcome is message hop places =
      is ∙ same_outcome run new now verdicts message hop places ∙ outcome_is_told now verdicts

  -- the client follows what is told
  pub follows_told : Follows run.client host told.envelope told.text told.places told.input told.output
  follows_told =
      subst (λ (r : Run). Follows r.client host told.envelope told.text told.places told.input told.output) one
      tells.follows

  -- what it hears more is told after it
  pub heard_told : (after : Attempt) (more out : List ℕ) (verdicts : Option (List Verdict))
      → Hears queue run after more out verdicts
      → FollowsOn after host told.envelope told.text told.places (told.input ++ more) (told.output ++ out) verdicts
  heard_told after more out verdicts hears =
      let text = tells.message.accept.stored_text in
      subst (λ (e : Envelope). FollowsOn after host e told.text told.places (told.input ++ more) (told.output ++ out) verdicts)
      tells.envelope_is
      (subst
      (λ (t : List ℕ). FollowsOn after host tells.message.accept.envelope t told.places (told.input ++ more) (told.output ++ out) verdicts)
      tells.text_is
      (hears tells.message host told.places told.input told.output (ap (message_of queue.messages) message_is ∙ tells.found)
      (subst (λ (e : Envelope). Follows run.client host e text told.places told.input told.output) (sym tells.envelope_is)
      (subst (λ (t : List ℕ). Follows run.client host told.envelope t told.places told.input told.output) (sym tells.text_is)
      follows_told))))

  -- it has ended with these verdicts
  pub ended_told : (after : Attempt) (more out : List ℕ) (ended : Option (List Verdict)) (verdicts : List Verdict)
      → ended ≡ Some verdicts → Hears queue run after more out ended
      → IsItsCourse host (told_more told more out) false verdicts
  ended_told after more out ended verdicts is hears =
      subst
      (λ (o : Option (List Verdict)). FollowsOn after host told.envelope told.text told.places (told.input ++ more) (told.output ++ out) o)
      is (heard_told after more out ended hears)

  -- it goes on, and this is told of it now
  pub goes_on_told : (new : Run) (after : List (Option Run)) (more out : List ℕ)
      → after ≡ slice_set (slice_set runs number None) number (Some new) → new.message ≡ run.message → new.hop ≡ run.hop
      → new.places ≡ run.places → (ended : Option (List Verdict)) → ended ≡ None → Hears queue run new.client more out ended
      → TellsAt host queue after number (told_more told more out)
  goes_on_told new after more out back message hop places ended is hears = record {
    run = new;
    at =
        subst (λ (l : List (Option Run)). slot_at l number ≡ Some new) (sym back)
        (put_back runs number run (Some new) its);
    its_message = message ∙ message_is;
    its_hop = hop ∙ hop_is;
    its_places = ap (λ p. p.items) places ∙ places_are;
    message = tells.message;
    found = tells.found;
    envelope_is = tells.envelope_is;
    text_is = tells.text_is;
    follows =
        subst
        (λ (o : Option (List Verdict)). FollowsOn new.client host told.envelope told.text told.places (told.input ++ more) (told.output ++ out) o)
        is (heard_told new.client more out ended hears);
  }

  -- its loss is told
  pub loss_told : IsItsCourse host told true (all_later told.places)
  loss_told = followed_may_be_lost run.client host told.text told.places told.input told.output told.envelope follows_told

  -- and has no other verdicts
  pub loss_is_later : (verdicts : List Verdict) → IsItsCourse host told true verdicts → verdicts ≡ all_later told.places
  loss_is_later verdicts course =
      some_is verdicts (all_later told.places)
      (course_is_one host told.envelope told.text told.places told.input true told.output told.output (Some verdicts)
      (Some (all_later told.places)) course loss_told).1
