-- Attempts that serve a queue when a node is opened, and after an accept, which may be one more message with a held place that has no hop.
use Rattle.std.proofs.Common.{◌≡◌, ℕ, zero, suc, ◌==◌, Bool, true, false, cond, List, [], ◌∷◌, ◌++◌, map, Option, None, Some, refl, sym, subst, ap, ◌∙◌, if◌then◌else◌}
use Rattle.std.specs.Option.{option_map_or}
use Rattle.std.proofs.lemmas.Bool.{cond-true, eq-eqb}
use Rattle.relay_slots.specs.Slots.{AreFree, slot_at}
use Rattle.relay_routes.specs.Routes.{RouteTable}
use Rattle.relay_book.specs.declared.change.Accept.{Accept}
use Rattle.relay_book.specs.declared.change.Change.TheVariants as change
use Rattle.relay_book.specs.declared.message.Message.{Message}
use Rattle.relay_book.specs.Book.{Rise}
use Rattle.relay_book.specs.Queue.{Queue, accepted, step}
use Rattle.relay_attempts.specs.declared.runs.Run.{Run}
use Rattle.relay_attempts.specs.Attempts.{Serves, AttemptTable}
use Rattle.relay_attempts.specs.Hops.{is_any, is_stranded_at, stranded_of, stranded_places}
use Rattle.relay_attempts.specs.Runs.{RunsFor}
use Rattle.relay_attempts.proofs.MessageLemmas.{found_first, found_last, none_at_next}
use Rattle.relay_attempts.proofs.StrandedLemmas.{numbers_append}

no_run : (run : Run) → None ≡ Some run → ⊥
no_run run e = cc

free_has_none : (runs : List (Option Run)) (n : ℕ) (run : Run) → AreFree runs → slot_at runs n ≡ Some run → ⊥
free_has_none [] n run free is = no_run run is
free_has_none (None ∷ runs) zero run free is = no_run run is
free_has_none (None ∷ runs) (suc n) run free is = free_has_none runs n run free is
free_has_none (Some other ∷ runs) n run free is = absurd free

-- no attempt serves any queue whose stranded messages are known
pub idle_serves : (host : List ℕ) (table : RouteTable) (attempts : AttemptTable) (queue : Queue) → AreFree attempts.runs → attempts.stranded ≡ stranded_of table queue.messages → Serves host table attempts queue
idle_serves host table attempts queue free known = record {
  stranded = known;
  runs = λ n run is. absurd (free_has_none attempts.runs n run free is);
  once = λ n other run another is also same its. absurd (free_has_none attempts.runs n run free is);
}

-- after an accept the attempts go on, and the message that was accepted may be stranded
pub accepted_serves : (host : List ℕ) (table : RouteTable) (queue new : Queue) (accept : Accept) (number : ℕ) (before after : AttemptTable) → Rise 0 queue.next queue.messages → number ≡ queue.next
    → new ≡ step queue (change.Accept accept) → after.runs ≡ before.runs
    → after.stranded ≡ before.stranded ++ (if is_stranded_at table new.messages number then number ∷ [] else []) → Serves host table before queue → Serves host table after new
accepted_serves host table queue new accept number before after rise number_is new_is runs_are noted serves = record {
  stranded =
      noted ∙ ap (λ (l : List ℕ). l ++ one_if (is_stranded_at table new.messages number) number) serves.stranded
      ∙ ap (λ (n : ℕ). stranded_of table queue.messages ++ one_if (is_stranded_at table new.messages n) n) number_is
      ∙ ap (λ (q : Queue). stranded_of table queue.messages ++ one_if (is_stranded_at table q.messages queue.next) queue.next) new_is
      ∙ ap (λ (o : Option Message). stranded_of table queue.messages ++ one_if (option_map_or (λ m. is_any (stranded_places table m)) o false) queue.next)
      (found_last queue.messages last queue.next (none_at_next 0 queue.next queue.messages rise)
      ∙ cond-true (queue.next == queue.next) (Some (accepted queue.next accept)) None (eq-eqb queue.next queue.next refl))
      ∙ ap (λ (l : List ℕ). stranded_of table queue.messages ++ l) (by (is_any (stranded_places table (accepted queue.next accept))))
      ∙ sym (numbers_append table queue.messages last)
      ∙ ap (λ (q : Queue). stranded_of table q.messages) (sym new_is);
  runs = λ n run is.
      let runs = serves.runs n run (subst (λ (l : List (Option Run)). slot_at l n ≡ Some run) runs_are is) in
      subst (λ (q : Queue). RunsFor host table q run) (sym new_is) (record {
        message = runs.message;
        found = found_first queue.messages last run.message runs.message runs.found;
        held = runs.held;
        some = runs.some;
        its_hop = runs.its_hop;
        input = runs.input;
        output = runs.output;
        follows = runs.follows;
      });
  once = λ n other run another here there. serves.once n other run another
      (subst (λ (l : List (Option Run)). slot_at l n ≡ Some run) runs_are here) (subst (λ (l : List (Option Run)). slot_at l other ≡ Some another) runs_are there);
}
  where
    last : List (ℕ × Message)
    last = (queue.next, accepted queue.next accept) ∷ []

    one_if : Bool → ℕ → List ℕ
    one_if b n = if b then n ∷ [] else []

    by : (b : Bool) → (if b then queue.next ∷ [] else []) ≡ map (λ (e : ℕ × Message). e.0) (cond b last [])
    by true = refl
    by false = refl
