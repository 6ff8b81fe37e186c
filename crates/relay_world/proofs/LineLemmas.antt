-- The sources of the ledger's lines, before an event and after it.
use Rattle.std.proofs.Common.{◌≡◌, ◌⊎◌, inl, inr, ◌+◌, ℕ, suc, List, [], ◌∷◌, ◌++◌, length, map, None, Some, refl, sym, subst, ap, ◌∙◌}
use Rattle.std.specs.Prelude.{slice_get}
use Rattle.std.specs.List.{AllByRecursion, Contains}
use Rattle.std.proofs.Math.Numerals.{add-one}
use Rattle.std.proofs.lemmas.List.{append_assoc, append_cancel_left}
use Rattle.std.proofs.lemmas.Option.{same_Some}
use Rattle.relay_octets.specs.Beginning.{Begins}
use Rattle.relay_disk.specs.Device.{DiskWords}
use Rattle.relay_book.specs.declared.change.Change.{Change}
use Rattle.relay_book.specs.declared.change.Change.TheVariants as change
use Rattle.relay_book.specs.declared.change.Outcome.{Outcome}
use Rattle.relay_book.specs.declared.fate.PlaceStep.{PlaceStep}
use Rattle.relay_book.specs.Marks.{place_steps}
use Rattle.relay_book.specs.Queue.{queue_of}
use Rattle.relay_world.specs.declared.attempt.Attempt.{Attempt}
use Rattle.relay_world.specs.declared.attempt.Fate.{Fate}
use Rattle.relay_world.specs.declared.attempt.Fate.TheVariants.{Replied, Lost}
use Rattle.relay_world.specs.declared.line.Line.{Line}
use Rattle.relay_world.specs.declared.line.Line.TheVariants.{Accepted, Became}
use Rattle.relay_world.specs.Bound.{IsBound, IsTried}
use Rattle.relay_world.specs.Growth.{AttemptsGrow, EndStays, FateGrows, HasGrown}
use Rattle.relay_world.specs.Ledger.{Accepts, Becomes, left_lines, report_number, steps_by, steps_in, steps_of}
use Rattle.relay_world.specs.Lines.{HasEndedOn, HasSource, HasSources, IsMadeBy, IsServedBy, SaysNoHop, SaysWithdrawn}
use Rattle.relay_world.specs.Steps.{AttemptOf, IsPut}
use Rattle.relay_world.specs.World.{World}
use Rattle.relay_world.proofs.AmongLemmas.{all_by, found_in, in_cons, in_found, in_map, in_none, of_map}
use Rattle.relay_world.proofs.ClaimLemmas.{there_too}
use Rattle.relay_world.proofs.FrameLemmas.{steps_in_more, steps_more}
use Rattle.relay_world.proofs.GrowLemmas.{list_grown}
use Rattle.relay_world.proofs.OpenLemmas.{list_there}
use Rattle.relay_world.proofs.PieceLemmas.{all_append}
use Rattle.relay_world.proofs.RecordLemmas.{left_steps}

-- an accept makes no such step, and an outcome those of its message
not_accepted : (number places : ℕ) (step : PlaceStep) (message place report : ℕ)
    → Accepts number places ≡ Becomes step message place report → ⊥
not_accepted number places step message place report same = cc

same_message : (step other : PlaceStep) (message its place at report queued : ℕ)
    → Becomes step message place report ≡ Becomes other its at queued → message ≡ its
same_message step other message its place at report queued same = cc

pub made_by : (before : List Change) (one : Change) (step : PlaceStep) (message place report : ℕ)
    → Contains (steps_by before one) (Becomes step message place report)
    → (outcome : Outcome) × (one ≡ change.Outcome outcome) × (outcome.message ≡ message)
made_by before (change.Accept accept) step message place report has =
    elim (in_cons (Accepts (suc (length before)) (length accept.envelope.recipients)) (Becomes step message place report) [] has) [
      | inl same ↦ absurd (not_accepted _ _ step message place report same)
      | inr none ↦ absurd (in_none (Becomes step message place report) none)
    ]
made_by before (change.Outcome outcome) step message place report has =
    let found = found_in (steps_by before (change.Outcome outcome)) (Becomes step message place report) has in
    let one = of_map (λ (s : ℕ × PlaceStep). Becomes s.1 outcome.message s.0 (report_number (suc (length before)) outcome.report))
    (place_steps (queue_of before) (change.Outcome outcome)) found.0 (Becomes step message place report) found.1 in
    (outcome, refl, same_message _ _ _ _ _ _ _ _ one.2)

-- a step that a list's change makes is made by a list that has grown
abbrev pub made_on : (changes after : List Change) (number : ℕ) (step : PlaceStep) (message place report : ℕ)
    → Begins changes after → IsMadeBy changes number step message place report
    → IsMadeBy after number step message place report
made_on changes after number step message place report begins made = record {
  front = made.front;
  one = made.one;
  after = made.after ++ begins.0;
  list = begins.1 ∙ ap (λ l. l ++ begins.0) made.list ∙ append_assoc made.front (made.one ∷ made.after) begins.0;
  number_is = made.number_is;
  makes = made.makes;
}

module _ {D : Type 0} (honest : Type 0) (words : DiskWords D) (old new : World D) (lists later : List (List Change))
    (bound : IsBound honest words old lists) (now : IsBound honest words new later) (grows : HasGrown old new)
    (goes : AttemptsGrow old new) where
  list_on : (node : ℕ) (changes : List Change) → slice_get lists node ≡ Some changes
      → (after : List Change) × (slice_get later node ≡ Some after) × Begins changes after
  list_on node changes is =
      let host = there_too lists old.hosts node changes bound.even is in
      let its = grows.records node host.0 host.1 in
      let listed = list_there new.hosts later node its.0 now.even its.1 in (
        listed.0,
        listed.1,
        list_grown host.0.records its.0.records its.2.0 changes listed.0
            (bound.hosts node host.0 changes (record { host_at = host.1; list_at = is })).list
            (now.hosts node its.0 listed.0 (record { host_at = its.1; list_at = listed.1 })).list its.2.1,
      )

  ended_on : (node message link number : ℕ) → HasEndedOn old node message link number
      → HasEndedOn new node message link number
  ended_on node message link number was =
      let its = goes was.at was.attempt was.is_there in
      let same : its.0 ≡ record was.attempt { fate = its.0.fate } = its.2.same in
      record {
        at = was.at;
        attempt = its.0;
        is_there = its.1;
        its_node = ap (λ (a : Attempt). a.node) same ∙ was.its_node;
        its_message = ap (λ (a : Attempt). a.message) same ∙ was.its_message;
        its_link = ap (λ (a : Attempt). a.link) same ∙ was.its_link;
        ended = elim was.ended [
          | inl replied ↦ inl (subst (λ f. FateGrows f its.0.fate) replied its.2.fate)
          | inr lost ↦ inr (subst (λ f. FateGrows f its.0.fate) lost its.2.fate)
        ];
      }

  served_on : (node link : ℕ) → IsServedBy old node link → IsServedBy new node link
  served_on node link was =
      let its = grows.octets link was.its was.is_there in
      elim (subst (λ e. EndStays e its.0.server) was.serves its.2.server) [
        | inl same ↦ record {
          its = its.0;
          is_there = its.1;
          end = was.end;
          serves = same;
          its_node = was.its_node;
        }
        | inr gone ↦ record {
          its = its.0;
          is_there = its.1;
          end = record was.end { session = None };
          serves = gone;
          its_node = was.its_node;
        }
      ]

  source_on : (line : Line) → HasSource old lists line → HasSource new later line
  source_on (Accepted node number places link) was = served_on node link was
  source_on (Became step node message place link report) was =
      let after = list_on node was.changes was.list_at in
      record {
        changes = after.0;
        list_at = after.1;
        number = was.number;
        made = made_on was.changes after.0 was.number step message place report after.2 was.made;
        cause = elim was.cause [
          | inl ended ↦ inl (ended_on node message link was.number ended)
          | inr none ↦ inr none
        ];
      }

  sources_on : (ledger : List Line) → AllByRecursion (HasSource old lists) ledger
      → AllByRecursion (HasSource new later) ledger
  sources_on [] was = tt
  sources_on (line ∷ ledger) was = (source_on line was.0, sources_on ledger was.1)

  -- no line has come
  pub sources_same : new.ledger ≡ old.ledger → HasSources old lists → HasSources new later
  sources_same same was =
      subst (λ l. AllByRecursion (HasSource new later) l) (sym same) (sources_on old.ledger was)

  -- these have
  sources_more : (added : List Line) → new.ledger ≡ old.ledger ++ added → AllByRecursion (HasSource new later) added
      → HasSources old lists → HasSources new later
  sources_more added is its was =
      subst (λ l. AllByRecursion (HasSource new later) l) (sym is)
      (all_append (HasSource new later) old.ledger added (sources_on old.ledger was) its)

  -- an accept
  pub accepted : (node number places link : ℕ) → new.ledger ≡ old.ledger ++ Accepted node number places link ∷ []
      → IsServedBy new node link → HasSources old lists → HasSources new later
  accepted node number places link is served was =
      sources_more (Accepted node number places link ∷ []) is (served, tt) was

  -- where a node's list has one change more, the lines of the node that have come are of its steps
  steps_added : (node : ℕ) (before : List Change) (one : Change) → slice_get lists node ≡ Some before
      → slice_get later node ≡ Some (before ++ one ∷ []) → (added : List Line) → new.ledger ≡ old.ledger ++ added
      → steps_in node added ≡ steps_by before one
  steps_added node before one first second added is =
      append_cancel_left (steps_of before) (steps_in node added) (steps_by before one)
      (ap (λ l. l ++ steps_in node added) (sym (bound.ledger node before first))
      ∙ sym (steps_in_more node old.ledger added)
      ∙ ap (λ l. steps_in node l) (sym is)
      ∙ now.ledger node (before ++ one ∷ []) second
      ∙ steps_more before one)

  -- what causes the lines of an outcome of a message on a link, by the change that it is
  abbrev pub Causes : ℕ → ℕ → ℕ → ℕ → List Change → Change → Type 0
  Causes node message link report before one =
      (step : PlaceStep) (place : ℕ) → Contains (steps_by before one) (Becomes step message place report)
      → HasEndedOn new node message link (suc (length before)) ⊎ ((link ≡ 0) × (SaysNoHop one ⊎ SaysWithdrawn one))

  -- the lines of an outcome
  pub recorded : (node message link report : ℕ) (left : List (ℕ × PlaceStep)) (before : List Change) (one : Change)
      → slice_get lists node ≡ Some before → slice_get later node ≡ Some (before ++ one ∷ [])
      → new.ledger ≡ old.ledger ++ left_lines node message link report left
      → Causes node message link report before one → HasSources old lists → HasSources new later
  recorded node message link report left before one first second is causes was =
      sources_more (left_lines node message link report left) is
      (all_by (HasSource new later) (left_lines node message link report left) each) was
    where
      steps : map (λ s. Becomes s.1 message s.0 report) left ≡ steps_by before one
      steps = sym (left_steps node message link report left)
          ∙ steps_added node before one first second (left_lines node message link report left) is

      each : (line : Line) → Contains (left_lines node message link report left) line → HasSource new later line
      each line has =
          let found = found_in (left_lines node message link report left) line has in
          let place = of_map (λ (s : ℕ × PlaceStep). Became s.1 node message s.0 link report) left found.0 line found.1 in
          let makes : Contains (steps_by before one) (Becomes place.0.1 message place.0.0 report) =
          in_found (steps_by before one) (Becomes place.0.1 message place.0.0 report) found.0
          (ap (λ l. slice_get l found.0) (sym steps)
          ∙ in_map (λ (s : ℕ × PlaceStep). Becomes s.1 message s.0 report) left found.0 place.0 place.1) in
          subst (λ l. HasSource new later l) place.2 (record {
            changes = before ++ one ∷ [];
            list_at = second;
            number = suc (length before);
            made = record {
              front = before;
              one = one;
              after = [];
              list = refl;
              number_is = refl;
              makes = makes;
            };
            cause = causes place.0.1 place.0.0 makes;
          })

  -- an attempt that has ended with the next change of its node is its cause
  pub ended_cause : (number change_now : ℕ) (of : AttemptOf old number) (fate : Fate)
      → (fate ≡ Replied change_now) ⊎ (fate ≡ Lost change_now)
      → IsPut old.attempts new.attempts of.place (record of.attempt { fate = fate }) → (before : List Change)
      → change_now ≡ length before + 1 → HasEndedOn new of.attempt.node of.attempt.message number (suc (length before))
  ended_cause number change_now of fate ends put before next =
      let tried : IsTried old lists number of.link of.place = bound.clients number of.place of.link of.link_is of.client in
      record {
        at = of.place;
        attempt = record of.attempt { fate = fate };
        is_there = put.at;
        its_node = refl;
        its_message = refl;
        its_link = ap (λ (a : Attempt). a.link) (same_Some of.attempt tried.attempt (sym of.attempt_at ∙ tried.attempt_at))
            ∙ tried.its_link;
        ended = subst (λ n. (fate ≡ Replied n) ⊎ (fate ≡ Lost n)) (next ∙ add-one (length before)) ends;
      }
