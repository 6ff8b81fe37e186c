-- Attempts that run, and one more.
use Rattle.std.proofs.Common.{◌≡◌, ◌⊎◌, inl, inr, ℕ, zero, suc, ◌&&◌, ◌||◌, Bool, true, false, List, [], ◌∷◌, Option, None, Some, bytes_eq, refl, sym, ap, ◌∙◌, subst}
use Rattle.std.specs.Prelude.{slice_set}
use Rattle.std.specs.List.{list_any}
use Rattle.std.proofs.lemmas.Bool.{eq-eqb, false≢true}
use Rattle.std.proofs.lemmas.Slice.Eq.{bytes_eq-Decides}
use Rattle.relay_slots.specs.Slots.{slot_at}
use Rattle.relay_routes.specs.Routes.{RouteTable}
use Rattle.relay_book.specs.Queue.{Queue, message_of}
use Rattle.relay_client.specs.Attempt.{Follows}
use Rattle.relay_attempts.specs.declared.runs.Run.{Run}
use Rattle.relay_attempts.specs.declared.start.Started.{Started}
use Rattle.relay_attempts.specs.Attempts.{Serves, AttemptTable, StartsAtMost}
use Rattle.relay_attempts.specs.Hops.{at_most, due_places_in, goes_to}
use Rattle.relay_attempts.specs.Runs.{AllGoTo, AreHeld, EachRuns, NoneTwice, RunsFor, is_run_for, is_running}
use Rattle.relay_attempts.proofs.PlaceLemmas.{due_are_held, due_go_there, each_at_most, held_at_most}

no_slot : {A : Type 0} (x : A) → None ≡ Some x → ⊥
no_slot x e = cc

-- what stands in a slot after a put: what was put there, or what stood there before
pub slot_in_set : (runs : List (Option Run)) (number other : ℕ) (value : Option Run) (run : Run) → slot_at (slice_set runs number value) other ≡ Some run
    → ((other ≡ number) × (value ≡ Some run)) ⊎ (slot_at runs other ≡ Some run)
slot_in_set [] number other value run is = inr is
slot_in_set (first ∷ runs) zero zero value run is = inl (refl, is)
slot_in_set (first ∷ runs) zero (suc other) value run is = inr is
slot_in_set (first ∷ runs) (suc number) zero value run is = inr is
slot_in_set (first ∷ runs) (suc number) (suc other) value run is = by (slot_in_set runs number other value run is)
  where
    by : ((other ≡ number) × (value ≡ Some run)) ⊎ (slot_at runs other ≡ Some run)
        → ((suc other ≡ suc number) × (value ≡ Some run)) ⊎ (slot_at (first ∷ runs) (suc other) ≡ Some run)
    by (inl here) = inl (ap suc here.0, here.1)
    by (inr there) = inr there

-- where none is running, no slot has one
pub none_runs : (message : ℕ) (hop : List ℕ) (runs : List (Option Run)) → is_running runs message hop ≡ false → (number : ℕ) (run : Run) → slot_at runs number ≡ Some run
    → run.message ≡ message → run.hop ≡ hop → ⊥
none_runs message hop [] free number run is same its = no_slot run is
none_runs message hop (first ∷ runs) free zero run is same its = false≢true (sym free ∙ ap (λ (b : Bool). b || list_any (is_run_for message hop) runs) here)
  where
    here : is_run_for message hop first ≡ true
    here = ap (is_run_for message hop) is ∙ ap (λ (b : Bool). b && bytes_eq run.hop hop) (eq-eqb run.message message same) ∙ (bytes_eq-Decides run.hop hop).1 its
none_runs message hop (first ∷ runs) free (suc number) run is same its = by (is_run_for message hop first) refl (λ less. none_runs message hop runs less number run is same its)
  where
    by : (b : Bool) → is_run_for message hop first ≡ b → (is_running runs message hop ≡ false → ⊥) → ⊥
    by true e rest = false≢true (sym free ∙ ap (λ (b : Bool). b || list_any (is_run_for message hop) runs) e)
    by false e rest = rest (ap (λ (b : Bool). b || list_any (is_run_for message hop) runs) (sym e) ∙ free)

some_run : (run other : Run) → Some run ≡ Some other → run ≡ other
some_run run other e = cc

module _ (host : List ℕ) (table : RouteTable) (number : ℕ) (hop : List ℕ) (most : Option ℕ) (now : ℕ) (queue : Queue) (old new : List (Option Run)) (started : Started)
    (starts : StartsAtMost host table number hop most now queue old new started) where
  -- the attempt that starts hands on what is queued
  begun_runs : RunsFor host table queue starts.run
  begun_runs =
      let message = starts.message in
      let places : starts.run.places.items ≡ at_most most (due_places_in table hop now message) = starts.begun.its_places ∙ starts.places in
      record {
        message = message;
        found = ap (message_of queue.messages) starts.begun.its_message ∙ starts.found;
        held = subst (λ (l : List ℕ). AreHeld message.places 0 l) (sym places)
            (held_at_most message.places 0 most (due_places_in table hop now message) (due_are_held table hop now message));
        some = λ none. starts.some (sym starts.begun.its_places ∙ none);
        its_hop =
            subst (λ (h : List ℕ). AllGoTo table h message starts.run.places.items) (sym starts.begun.its_hop)
            (subst (λ (l : List ℕ). AllGoTo table hop message l) (sym places)
            (each_at_most (λ n. goes_to table message.accept.envelope.recipients hop n ≡ true) most (due_places_in table hop now message) (due_go_there table hop now message)));
        input = [];
        output = [];
        follows =
            subst (λ (l : List ℕ). Follows starts.run.client host message.accept.envelope message.accept.stored_text l [] []) (sym starts.begun.its_places)
            (starts.begun.follows message.accept.envelope message.accept.stored_text);
      }

  stands : (other : ℕ) (run : Run) → slot_at new other ≡ Some run → ((other ≡ started.attempt) × (Some starts.run ≡ Some run)) ⊎ (slot_at old other ≡ Some run)
  stands other run is =
      slot_in_set old started.attempt other (Some starts.run) run (subst (λ (l : List (Option Run)). slot_at l other ≡ Some run) starts.put is)

  each_runs : EachRuns host table queue old → EachRuns host table queue new
  each_runs runs other run is = by (stands other run is)
    where
      by : ((other ≡ started.attempt) × (Some starts.run ≡ Some run)) ⊎ (slot_at old other ≡ Some run) → RunsFor host table queue run
      by (inl here) = subst (λ (r : Run). RunsFor host table queue r) (some_run starts.run run here.1) begun_runs
      by (inr there) = runs other run there

  -- none of the others was for this message and hop
  not_another : (other : ℕ) (run another : Run) → Some starts.run ≡ Some run → slot_at old other ≡ Some another → run.message ≡ another.message → run.hop ≡ another.hop → ⊥
  not_another other run another is there same its =
      let one = some_run starts.run run is in
      none_runs number hop old starts.free other another there
      (sym same ∙ sym (ap (λ (r : Run). r.message) one) ∙ starts.begun.its_message)
      (sym its ∙ sym (ap (λ (r : Run). r.hop) one) ∙ starts.begun.its_hop)

  none_twice : NoneTwice old → NoneTwice new
  none_twice once one other run another is there same its = by (stands one run is) (stands other another there)
    where
      by : ((one ≡ started.attempt) × (Some starts.run ≡ Some run)) ⊎ (slot_at old one ≡ Some run)
          → ((other ≡ started.attempt) × (Some starts.run ≡ Some another)) ⊎ (slot_at old other ≡ Some another) → one ≡ other
      by (inl here) (inl again) = here.0 ∙ sym again.0
      by (inl here) (inr before) = absurd (not_another other run another here.1 before same its)
      by (inr before) (inl again) = absurd (not_another one another run again.1 before (sym same) (sym its))
      by (inr before) (inr also) = once one other run another before also same its

  -- after a start the attempts still are those of the queue
  pub start_serves : (before after : AttemptTable) → before.runs ≡ old → after.runs ≡ new → after.stranded ≡ before.stranded → Serves host table before queue → Serves host table after queue
  start_serves before after old_is new_is same serves = record {
    stranded = same ∙ serves.stranded;
    runs = subst (λ (l : List (Option Run)). EachRuns host table queue l) (sym new_is) (each_runs (subst (λ (l : List (Option Run)). EachRuns host table queue l) old_is serves.runs));
    once = subst (λ (l : List (Option Run)). NoneTwice l) (sym new_is) (none_twice (subst (λ (l : List (Option Run)). NoneTwice l) old_is serves.once));
  }
