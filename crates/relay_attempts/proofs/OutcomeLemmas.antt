-- Outcomes that may come, and the attempts that go on after them.
use Rattle.std.proofs.Common.{◌≡◌, ◌≢◌, ◌⊎◌, inl, inr, ℕ, zero, suc, ◌+◌, ◌-◌, ◌<◌, ◌≤◌, ◌^◌, ◌||◌, not, Bool, true, false, List, [], ◌∷◌, length, Option, None, Some, MatchOption, is_some, bytes_eq, refl, sym, ap, ◌∙◌, subst, arith}
use Rattle.std.specs.List.{AllByRecursion, list_any}
use Rattle.std.specs.Option.{option_map_or}
use Rattle.std.proofs.lemmas.Bool.{and_parts, cases_eq, ne_eqb, false≢true}
use Rattle.relay_disk.specs.Device.{DiskWords}
use Rattle.relay_slots.specs.Slots.{slot_at}
use Rattle.relay_routes.specs.Routes.{RouteTable}
use Rattle.relay_book.specs.declared.version.Version.TheVariants.{WithDelay}
use Rattle.relay_book.specs.declared.change.Change.TheVariants as change
use Rattle.relay_book.specs.declared.change.Outcome.{Outcome}
use Rattle.relay_book.specs.declared.change.Ruling.{Ruling}
use Rattle.relay_book.specs.declared.message.Message.{Message}
use Rattle.relay_book.specs.declared.message.Place.{Place}
use Rattle.relay_book.specs.Queue.{AllWithoutHop, AreRulings, Queue, holds_at, is_held, message_after, message_of, reported, ruled, step}
use Rattle.relay_book.specs.Record.{AreOfVersion, IsRuling}
use Rattle.relay_records.specs.declared.fault.NodeFault.{NodeFault}
use Rattle.relay_records.specs.declared.fault.NodeFault.TheVariants.{NoMemory, Stopped, Unknown, TooMany, NotDue, Busy, Open, Full, NoSecond}
use Rattle.relay_records.specs.Records.{Kept}
use Rattle.relay_report.specs.Report.{Reporter}
use Rattle.relay_attempts.specs.AddedOutcome.{HasNoRoom, MayCome, RefusesOutcome, RulesOn}
use Rattle.relay_attempts.specs.declared.runs.Run.{Run}
use Rattle.relay_attempts.specs.Attempts.{Serves, AttemptTable}
use Rattle.relay_attempts.specs.Hops.{goes_to, hop_of_place, is_any, is_stranded, stranded_of, stranded_places}
use Rattle.relay_attempts.specs.Outcomes.{HasStranded, RefusesToGiveUp, unroutable, unrouted}
use Rattle.relay_attempts.specs.Runs.{AllGoTo, AreHeld, RunsFor}
use Rattle.relay_attempts.proofs.MessageLemmas.{found_first, is_ruled, other_stays, place_stays, same_ruled}
use Rattle.relay_attempts.proofs.PlaceLemmas.{each_passes, stranded_are_held}
use Rattle.relay_attempts.proofs.StrandedLemmas.{held_any}

-- held places are places
pub holds_within : (places : List Place) (n : ℕ) → holds_at places n ≡ true → n < length places
holds_within [] n held = absurd (false≢true held)
holds_within (place ∷ places) zero held = omega arith
holds_within (place ∷ places) (suc n) held = let rest = holds_within places n held in omega (arith, rest)

-- there are no more of them than places
pub held_are_few : (places : List Place) (least : ℕ) (numbers : List ℕ) → AreHeld places least numbers → length numbers ≤ length places - least
held_are_few places least [] held = omega arith
held_are_few places least (n ∷ numbers) held =
    let rest = held_are_few places (n + 1) numbers held.2 in
    let within = holds_within places n held.1 in
    omega (arith, rest, within, held.0)

unrouted_are_rulings : (places : List Place) (least : ℕ) (numbers : List ℕ) → AreHeld places least numbers → AreRulings places least (unrouted numbers)
unrouted_are_rulings places least [] held = tt
unrouted_are_rulings places least (n ∷ numbers) held = (held.0, held.1, unrouted_are_rulings places (n + 1) numbers held.2)

unrouted_are_of_version : (numbers : List ℕ) → AreOfVersion WithDelay (unrouted numbers)
unrouted_are_of_version [] = tt
unrouted_are_of_version (n ∷ numbers) = (refl, unrouted_are_of_version numbers)

all_without_hop : (numbers : List ℕ) → AllWithoutHop (unrouted numbers)
all_without_hop [] = tt
all_without_hop (n ∷ numbers) = (refl, all_without_hop numbers)

each_may_be_stored : (places : List Place) (least : ℕ) (numbers : List ℕ) → length places ≤ 100 → AreHeld places least numbers → AllByRecursion IsRuling (unrouted numbers)
each_may_be_stored places least [] few held = tt
each_may_be_stored places least (n ∷ numbers) few held =
    let within = holds_within places n held.1 in
    ((record { place = omega (arith, within, few); verdict = tt }), each_may_be_stored places (n + 1) numbers few held.2)

unrouted_length : (numbers : List ℕ) → length (unrouted numbers) ≡ length numbers
unrouted_length [] = refl
unrouted_length (n ∷ numbers) = ap suc (unrouted_length numbers)

some_length : (numbers : List ℕ) → is_any numbers ≡ true → 1 ≤ length numbers
some_length [] some = absurd (false≢true some)
some_length (n ∷ numbers) some = omega arith

-- the outcome of held places without a hop fits the queue
pub unroutable_may_come : (table : RouteTable) (queue : Queue) (number at : ℕ) (message : Message) (outcome : Outcome) → outcome ≡ unroutable table number at message
    → number < 2 ^ 64 → message_of queue.messages number ≡ Some message → is_any (stranded_places table message) ≡ true → length message.places ≤ 100 → MayCome queue outcome
unroutable_may_come table queue number at message outcome is fits found some few = subst (MayCome queue) (sym is) may
  where
    numbers : List ℕ
    numbers = stranded_places table message

    may : MayCome queue (unroutable table number at message)
    may = record {
      version = refl;
      number = fits;
      message =
          subst (λ (o : Option Message). MatchOption o ⊥ (RulesOn (unroutable table number at message))) (sym found) (record {
            rulings = unrouted_are_rulings message.places 0 (stranded_places table message) (stranded_are_held table message);
            hop = ((λ _. all_without_hop (stranded_places table message)), (λ _. refl));
          });
      hop = tt;
      some = let l = unrouted_length (stranded_places table message) in let s = some_length (stranded_places table message) some in omega (arith, l, s);
      within =
          let l = unrouted_length (stranded_places table message) in
          let s = held_are_few message.places 0 (stranded_places table message) (stranded_are_held table message) in
          omega (arith, l, s, few);
      rulings = each_may_be_stored message.places 0 (stranded_places table message) few (stranded_are_held table message);
      verdicts = unrouted_are_of_version (stranded_places table message);
    }

-- no ruling of the outcome is for a place of these
abbrev pub AreApart : List Ruling → List ℕ → Type 0
AreApart rulings numbers = AllByRecursion (λ number. is_ruled rulings number ≡ false) numbers

stay_held : (outcome : Outcome) (message : Message) (least : ℕ) (numbers : List ℕ) → AreApart outcome.rulings numbers → AreHeld message.places least numbers
    → AreHeld (message_after outcome message).places least numbers
stay_held outcome message least [] apart held = tt
stay_held outcome message least (n ∷ numbers) apart held = (
  held.0,
  ap (λ (o : Option Place). option_map_or is_held o false) (place_stays outcome.version message.accept outcome.at message.places outcome.rulings n apart.0) ∙ held.1,
  stay_held outcome message (n + 1) numbers apart.1 held.2,
)

first_is_held : (outcome : Outcome) (message : Message) (least : ℕ) (numbers : List ℕ) → numbers ≢ [] → AreHeld (message_after outcome message).places least numbers
    → list_any is_held (message_after outcome message).places ≡ true
first_is_held outcome message least [] some held = absurd (some refl)
first_is_held outcome message least (n ∷ numbers) some held = held_any (message_after outcome message).places n held.1

some_is : {A : Type 0} (x y : A) → Some x ≡ Some y → x ≡ y
some_is x y e = cc

module _ (host : List ℕ) (table : RouteTable) (queue : Queue) (outcome : Outcome) where
  abbrev afterwards : Queue
  afterwards = step queue (change.Outcome outcome)

  -- an attempt none of whose places is ruled on goes on
  pub run_goes_on : (run : Run) (runs : RunsFor host table queue run) → (run.message ≡ outcome.message → AreApart outcome.rulings run.places.items) → RunsFor host table afterwards run
  run_goes_on run runs apart = by (cases_eq run.message outcome.message)
    where
      more : List (ℕ × Message)
      more = reported queue.next outcome outcome.report (message_of queue.messages outcome.message)

      by : (run.message ≡ outcome.message) ⊎ (run.message ≡ outcome.message → ⊥) → RunsFor host table afterwards run
      by (inl same) =
          let held = stay_held outcome runs.message 0 run.places.items (apart same) runs.held in
          let found = ap (message_of queue.messages) (sym same) ∙ runs.found in
          let kept = same_ruled outcome queue.messages runs.message found (first_is_held outcome runs.message 0 run.places.items runs.some held) in
          record {
            message = message_after outcome runs.message;
            found = ap (message_of afterwards.messages) same
                ∙ found_first (ruled outcome queue.messages) (reported queue.next outcome outcome.report (message_of queue.messages outcome.message)) outcome.message (message_after outcome runs.message) kept;
            held = held;
            some = runs.some;
            its_hop = runs.its_hop;
            input = runs.input;
            output = runs.output;
            follows = runs.follows;
          }
      by (inr off) = record {
        message = runs.message;
        found =
            found_first (ruled outcome queue.messages) (reported queue.next outcome outcome.report (message_of queue.messages outcome.message)) run.message runs.message
            (other_stays outcome queue.messages run.message off ∙ runs.found);
        held = runs.held;
        some = runs.some;
        its_hop = runs.its_hop;
        input = runs.input;
        output = runs.output;
        follows = runs.follows;
      }

-- a place that is ruled on for want of a hop has none
ruled_has_none : (P : ℕ → Type 0) (numbers : List ℕ) (place : ℕ) → AllByRecursion P numbers → is_ruled (unrouted numbers) place ≡ true → P place
ruled_has_none P [] place all is = absurd (false≢true is)
ruled_has_none P (n ∷ numbers) place all is = by (cases_eq n place) (ruled_has_none P numbers place all.1)
  where
    by : (n ≡ place) ⊎ (n ≡ place → ⊥) → (is_ruled (unrouted numbers) place ≡ true → P place) → P place
    by (inl same) rest = subst P same all.0
    by (inr off) rest = rest (ap (λ (b : Bool). b || is_ruled (unrouted numbers) place) (sym (ne_eqb n place off)) ∙ is)

module _ (table : RouteTable) (message : Message) (hop : List ℕ) where
  goes_nowhere : (place : ℕ) → goes_to table message.accept.envelope.recipients hop place ≡ true → not (is_some (hop_of_place table message.accept.envelope.recipients place)) ≡ true → ⊥
  goes_nowhere place goes none = by (hop_of_place table message.accept.envelope.recipients place) goes none
    where
      by : (found : Option (List ℕ)) → option_map_or (λ name. bytes_eq name hop) found false ≡ true → not (is_some found) ≡ true → ⊥
      by None goes none = false≢true goes
      by (Some name) goes none = false≢true none

  one_apart : (place : ℕ) → goes_to table message.accept.envelope.recipients hop place ≡ true → is_ruled (unrouted (stranded_places table message)) place ≡ false
  one_apart place goes = by (is_ruled (unrouted (stranded_places table message)) place) refl
    where
      by : (b : Bool) → is_ruled (unrouted (stranded_places table message)) place ≡ b → is_ruled (unrouted (stranded_places table message)) place ≡ false
      by false is = is
      by true is =
          absurd (goes_nowhere place goes
          (ruled_has_none (λ n. not (is_some (hop_of_place table message.accept.envelope.recipients n)) ≡ true) (stranded_places table message) place
          (each_passes (λ n. not (is_some (hop_of_place table message.accept.envelope.recipients n)) ≡ true) (is_stranded table message.accept.envelope.recipients)
          (λ n p passes. (and_parts p.held (not (is_some (hop_of_place table message.accept.envelope.recipients n))) passes).1) 0 message.places) is))

  -- what goes to a hop is apart from what has none
  routed_are_apart : (numbers : List ℕ) → AllGoTo table hop message numbers → AreApart (unrouted (stranded_places table message)) numbers
  routed_are_apart [] all = tt
  routed_are_apart (n ∷ numbers) all = (one_apart n all.0, routed_are_apart numbers all.1)

-- the attempts go on where a message is given up
pub given_up_serves : (host : List ℕ) (table : RouteTable) (queue new : Queue) (number at : ℕ) (message : Message) (outcome : Outcome) (report : List ℕ) (before after : AttemptTable)
    → outcome ≡ unroutable table number at message → message_of queue.messages number ≡ Some message
    → new ≡ step queue (change.Outcome (record outcome { report = report })) → after.runs ≡ before.runs → after.stranded ≡ stranded_of table new.messages
    → Serves host table before queue → Serves host table after new
given_up_serves host table queue new number at message outcome report before after is found new_is runs_are known serves = record {
  stranded = known;
  runs = λ n run at_n.
      let runs = serves.runs n run (subst (λ (l : List (Option Run)). slot_at l n ≡ Some run) runs_are at_n) in
      subst (λ (q : Queue). RunsFor host table q run) (sym new_is)
      (run_goes_on host table queue (record outcome { report = report }) run runs (λ same. apart run runs same));
  once = λ n other run another here there. serves.once n other run another
      (subst (λ (l : List (Option Run)). slot_at l n ≡ Some run) runs_are here) (subst (λ (l : List (Option Run)). slot_at l other ≡ Some another) runs_are there);
}
  where
    apart : (run : Run) (runs : RunsFor host table queue run) → run.message ≡ outcome.message → AreApart outcome.rulings run.places.items
    apart run runs same =
        let its : outcome.message ≡ number = ap (λ (o : Outcome). o.message) is in
        let one : runs.message ≡ message = some_is runs.message message (sym runs.found ∙ ap (message_of queue.messages) (same ∙ its) ∙ found) in
        subst (λ (o : Outcome). AreApart o.rulings run.places.items) (sym is)
        (routed_are_apart table message run.hop run.places.items (subst (λ (m : Message). AllGoTo table run.hop m run.places.items) one runs.its_hop))

not_none : (numbers : List ℕ) → is_any numbers ≡ true → numbers ≢ []
not_none numbers some none = false≢true (sym (ap (λ (ns : List ℕ). is_any ns) none) ∙ some)

-- a message with a held place that has no hop
pub has_stranded : {D : Type 0} (words : DiskWords D) (reporter : Reporter) (table : RouteTable) (number at : ℕ) (message : Message) (old : Kept D)
    → message_of old.queue.messages number ≡ Some message → is_any (stranded_places table message) ≡ true → HasStranded words reporter table number at old
has_stranded words reporter table number at message old found some =
    record { message = message; found = found; some = not_none (stranded_places table message) some }

-- why a message isn't given up
pub refused_to_give_up : {D : Type 0} (words : DiskWords D) (reporter : Reporter) (table : RouteTable) (number at : ℕ) (message : Message) (outcome : Outcome) (old new : Kept D) (fault : NodeFault)
    → old.spool.live ≡ true → message_of old.queue.messages number ≡ Some message → is_any (stranded_places table message) ≡ true
    → outcome ≡ unroutable table number at message
    → RefusesOutcome words reporter outcome old new fault → RefusesToGiveUp words reporter table number at old new fault
refused_to_give_up words reporter table number at message outcome old new NoMemory live found some is refused =
    (live, has_stranded words reporter table number at message old found some, refused)
refused_to_give_up words reporter table number at message outcome old new Stopped live found some is refused = inr refused
refused_to_give_up words reporter table number at message outcome old new Unknown live found some is refused = absurd refused
refused_to_give_up words reporter table number at message outcome old new TooMany live found some is refused = absurd refused
refused_to_give_up words reporter table number at message outcome old new NotDue live found some is refused = absurd refused
refused_to_give_up words reporter table number at message outcome old new Busy live found some is refused = absurd refused
refused_to_give_up words reporter table number at message outcome old new (Open cause) live found some is refused = absurd refused
refused_to_give_up words reporter table number at message outcome old new NoSecond live found some is refused = absurd refused
refused_to_give_up words reporter table number at message outcome old new Full live found some is refused =
    (live, refused.0, record { message = message; found = found; some = not_none (stranded_places table message) some; room = subst (λ (o : Outcome). HasNoRoom reporter o old) is refused.1 })
