use Rattle.std.proofs.Common.{◌≡◌, List, Option, None, Some, true, false, sym, ap, ◌∙◌, rules, refl}
use Rattle.std.specs.Prelude.{slice_set}
use Rattle.std.proofs.lemmas.List.{get_or-set_same}
use Rattle.relay_slots.specs.Slots.{slot_at}
use Rattle.relay_attempts.specs.declared.runs.Run.{Run}
use Rattle.relay_attempts.specs.Hops.{at_most, due_places_in, is_any}
use Rattle.relay_attempts.proofs.RunLemmas.{start_serves}
use Rattle.relay_attempts.proofs.StartLemmas.{none_there, some_there}
use Rattle.relay_attempts.proofs.attempts.Attempts.start_at_most.Goals as goal

pub returns-then-not-has_first_due-clause-refused : goal.returns-then-not-has_first_due-clause-refused
returns-then-not-has_first_due-clause-refused g c =
    let none : is_any (at_most c.args.most (due_places_in c.args.config.now.routes c.args.hop.now c.args.now c.in-Some.queued.now)) ≡ false = search rules in
    (search rules, (record { message = c.in-Some.queued.now; found = search rules; least = c.in-Some-free.attempt; free = search rules }), search rules, none_there (at_most c.args.most (due_places_in c.args.config.now.routes c.args.hop.now c.args.now c.in-Some.queued.now)) none)

pub returns-in_default-first_due_places-clause-refused : goal.returns-in_default-first_due_places-clause-refused
returns-in_default-first_due_places-clause-refused g c =
    let some : is_any (at_most c.args.most (due_places_in c.args.config.now.routes c.args.hop.now c.args.now c.in-Some.queued.now)) ≡ true = search rules in
    (search rules, (record { message = c.in-Some.queued.now; found = search rules; least = c.in-Some-free.attempt; free = search rules }), search rules, some_there (at_most c.args.most (due_places_in c.args.config.now.routes c.args.hop.now c.args.now c.in-Some.queued.now)) some)

pub returns-in_default-begun-clause-refused : goal.returns-in_default-begun-clause-refused
returns-in_default-begun-clause-refused g c =
    let some : is_any (at_most c.args.most (due_places_in c.args.config.now.routes c.args.hop.now c.args.now c.in-Some.queued.now)) ≡ true = search rules in
    (search rules, (record { message = c.in-Some.queued.now; found = search rules; least = c.in-Some-free.attempt; free = search rules }), search rules, some_there (at_most c.args.most (due_places_in c.args.config.now.routes c.args.hop.now c.args.now c.in-Some.queued.now)) some)

pub returns-clause-starts : goal.returns-clause-starts
returns-clause-starts g c =
    let some : is_any (at_most c.args.most (due_places_in c.args.config.now.routes c.args.hop.now c.args.now c.in-Some.queued.now)) ≡ true = search rules in
    let put : c.put.new.self ≡ slice_set c.args.self.now.runs c.in-Some-free.attempt (Some c.in-Ok-begun.begun) = search rules in
    let due : c.in-Ok.places.items ≡ at_most c.args.most (due_places_in c.args.config.now.routes c.args.hop.now c.args.now c.in-Some.queued.now) = search rules in
    record {
      least = search rules;
      message = c.in-Some.queued.now;
      found = search rules;
      free = search rules;
      places = due;
      some = λ none. some_there (at_most c.args.most (due_places_in c.args.config.now.routes c.args.hop.now c.args.now c.in-Some.queued.now)) some (sym due ∙ none);
      run = c.in-Ok-begun.begun;
      put = put;
      at = ap (λ (l : List (Option Run)). slot_at l c.in-Some-free.attempt) put ∙ get_or-set_same c.args.self.now.runs c.in-Some-free.attempt (Some c.in-Ok-begun.begun) None (search rules);
      begun = search rules;
    }

pub returns-clause-serves : goal.returns-clause-serves
returns-clause-serves g c = λ serves. start_serves _ _ _ _ _ _ _ _ _ _ (returns-clause-starts g c) c.args.self.now _ refl refl (search rules) serves
