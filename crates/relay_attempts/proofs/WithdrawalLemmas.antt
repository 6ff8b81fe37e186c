-- Places that the postmaster withdraws: their outcome may come, and the attempts go on after it.
use Rattle.std.proofs.Common.{◌≡◌, ◌≢◌, ◌⊎◌, inl, inr, ℕ, zero, suc, ◌+◌, ◌<◌, ◌≤◌, ◌^◌, ◌||◌, ◌&&◌, Bool, true, false, List, [], ◌∷◌, ◌++◌, length, Option, None, Some, MatchOption, refl, sym, ap, ◌∙◌, subst, arith, if◌then◌else◌}
use Rattle.std.specs.List.{AllByRecursion, list_any}
use Rattle.std.proofs.lemmas.Bool.{and_from, and_parts, cases_eq, eq-eqb, ne_eqb, false≢true}
use Rattle.relay_disk.specs.Device.{DiskWords}
use Rattle.relay_slots.specs.Slots.{slot_at}
use Rattle.relay_routes.specs.Routes.{RouteTable}
use Rattle.relay_book.specs.declared.version.Version.TheVariants.{WithWithdrawal}
use Rattle.relay_book.specs.declared.change.Change.TheVariants as change
use Rattle.relay_book.specs.declared.change.Outcome.{Outcome}
use Rattle.relay_book.specs.declared.change.Withdrawal.{Withdrawal}
use Rattle.relay_book.specs.declared.message.Message.{Message}
use Rattle.relay_book.specs.declared.message.Place.{Place}
use Rattle.relay_book.specs.Queue.{AllWithoutHop, AreRulings, Queue, holds_at, message_of, step}
use Rattle.relay_book.specs.Record.{AreOfVersion, IsRuling}
use Rattle.relay_records.specs.declared.fault.NodeFault.{NodeFault}
use Rattle.relay_records.specs.declared.fault.NodeFault.TheVariants.{NoMemory, Stopped, Unknown, TooMany, NotDue, Busy, Open, Full, NoSecond}
use Rattle.relay_records.specs.Records.{Kept}
use Rattle.relay_records.specs.Staged.{Row}
use Rattle.relay_report.specs.Report.{Reporter}
use Rattle.relay_attempts.specs.AddedOutcome.{HasNoRoom, MayCome, RefusesOutcome, RulesOn}
use Rattle.relay_attempts.specs.declared.runs.Run.{Run}
use Rattle.relay_attempts.specs.Attempts.{AttemptTable, Serves}
use Rattle.relay_attempts.specs.Hops.{places_where, stranded_of}
use Rattle.relay_attempts.specs.Runs.{AreHeld, RunsFor}
use Rattle.relay_attempts.specs.Staging.{HasNoRoomAfter, RefusesToStageOutcome}
use Rattle.relay_attempts.specs.StagedWithdrawals.{RefusesToStageWithdrawal}
use Rattle.relay_attempts.specs.Withdrawals.{NamesHeld, RefusesToWithdraw, is_held_of, is_named, is_tried, named_places, tries_one, withdrawal_of, withdrawn}
use Rattle.relay_attempts.proofs.MessageLemmas.{is_ruled}
use Rattle.relay_attempts.proofs.OutcomeLemmas.{AreApart, held_are_few, holds_within, run_goes_on}
use Rattle.relay_attempts.proofs.PlaceLemmas.{each_passes, named_are_held}

withdrawn_are_rulings : (withdrawal : Withdrawal) (places : List Place) (least : ℕ) (numbers : List ℕ) → AreHeld places least numbers
    → AreRulings places least (withdrawn withdrawal numbers)
withdrawn_are_rulings withdrawal places least [] held = tt
withdrawn_are_rulings withdrawal places least (n ∷ numbers) held =
    (held.0, held.1, withdrawn_are_rulings withdrawal places (n + 1) numbers held.2)

withdrawn_are_of_version : (withdrawal : Withdrawal) (numbers : List ℕ) → AreOfVersion WithWithdrawal (withdrawn withdrawal numbers)
withdrawn_are_of_version withdrawal [] = tt
withdrawn_are_of_version withdrawal (n ∷ numbers) = (refl, withdrawn_are_of_version withdrawal numbers)

withdrawn_without_hop : (withdrawal : Withdrawal) (numbers : List ℕ) → AllWithoutHop (withdrawn withdrawal numbers)
withdrawn_without_hop withdrawal [] = tt
withdrawn_without_hop withdrawal (n ∷ numbers) = (refl, withdrawn_without_hop withdrawal numbers)

each_may_be_stored : (withdrawal : Withdrawal) (places : List Place) (least : ℕ) (numbers : List ℕ) → length places ≤ 100
    → AreHeld places least numbers → AllByRecursion IsRuling (withdrawn withdrawal numbers)
each_may_be_stored withdrawal places least [] few held = tt
each_may_be_stored withdrawal places least (n ∷ numbers) few held =
    let within = holds_within places n held.1 in
    ((record { place = omega (arith, within, few); verdict = tt }), each_may_be_stored withdrawal places (n + 1) numbers few held.2)

withdrawn_length : (withdrawal : Withdrawal) (numbers : List ℕ) → length (withdrawn withdrawal numbers) ≡ length numbers
withdrawn_length withdrawal [] = refl
withdrawn_length withdrawal (n ∷ numbers) = ap suc (withdrawn_length withdrawal numbers)

-- a held place that is named is among those that are withdrawn
some_from : (names : List ℕ) (n : ℕ) (places : List Place) (i : ℕ) → holds_at places i ≡ true → is_named names (n + i) ≡ true
    → 1 ≤ length (places_where (is_held_of names) n places)
some_from names n [] i held named = absurd (false≢true held)
some_from names n (place ∷ places) zero held named =
    let same : n + 0 ≡ n = omega arith in
    let here = and_from place.held (is_named names n) held (subst (λ k. is_named names k ≡ true) same named) in
    let first : length (places_where (is_held_of names) n (place ∷ places)) ≡ suc (length (places_where (is_held_of names) (suc n) places)) =
    ap (λ (b : Bool). length ((if b then n ∷ [] else []) ++ places_where (is_held_of names) (suc n) places)) here in
    omega (arith, first)
some_from names n (place ∷ places) (suc i) held named =
    let same : n + suc i ≡ suc n + i = omega arith in
    by (is_held_of names n place) (some_from names (suc n) places i held (subst (λ k. is_named names k ≡ true) same named))
  where
    by : (b : Bool) → 1 ≤ length (places_where (is_held_of names) (suc n) places)
        → 1 ≤ length ((if b then n ∷ [] else []) ++ places_where (is_held_of names) (suc n) places)
    by true rest = omega arith
    by false rest = rest

some_named : (names : List ℕ) (message : Message) → NamesHeld names message → 1 ≤ length (named_places names message)
some_named names message named = by names named.some named.held
  where
    first : (name : ℕ) (rest : List ℕ) → is_named (name ∷ rest) name ≡ true
    first name rest = ap (λ (b : Bool). b || is_named rest name) (eq-eqb name name refl)

    by : (given : List ℕ) → given ≢ [] → AllByRecursion (λ name. holds_at message.places name ≡ true) given
        → 1 ≤ length (named_places given message)
    by [] some held = absurd (some refl)
    by (name ∷ rest) some held =
        let same : name ≡ 0 + name = omega arith in
        some_from (name ∷ rest) 0 message.places name held.0
        (subst (λ k. is_named (name ∷ rest) k ≡ true) same (first name rest))

-- the outcome of named places that are held fits the queue
pub withdrawal_may_come : (queue : Queue) (number at : ℕ) (withdrawal : Withdrawal) (names : List ℕ) (message : Message) (outcome : Outcome)
    → outcome ≡ withdrawal_of number at withdrawal names message → number < 2 ^ 64 → message_of queue.messages number ≡ Some message
    → NamesHeld names message → length message.places ≤ 100 → MayCome queue outcome
withdrawal_may_come queue number at withdrawal names message outcome is fits found named few = subst (MayCome queue) (sym is) may
  where
    numbers : List ℕ
    numbers = named_places names message

    held : AreHeld message.places 0 (named_places names message)
    held = named_are_held names message

    may : MayCome queue (withdrawal_of number at withdrawal names message)
    may = record {
      version = refl;
      number = fits;
      message =
          subst (λ (o : Option Message). MatchOption o ⊥ (RulesOn (withdrawal_of number at withdrawal names message))) (sym found) (record {
            rulings = withdrawn_are_rulings withdrawal message.places 0 (named_places names message) held;
            hop = ((λ _. withdrawn_without_hop withdrawal (named_places names message)), (λ _. refl));
          });
      hop = tt;
      some = let l = withdrawn_length withdrawal (named_places names message) in let s = some_named names message named in omega (arith, l, s);
      within =
          let l = withdrawn_length withdrawal (named_places names message) in
          let s = held_are_few message.places 0 (named_places names message) held in
          omega (arith, l, s, few);
      rulings = each_may_be_stored withdrawal message.places 0 (named_places names message) few held;
      verdicts = withdrawn_are_of_version withdrawal (named_places names message);
    }

-- a place that is ruled on so is named
ruled_is_named : (withdrawal : Withdrawal) (P : ℕ → Type 0) (numbers : List ℕ) (place : ℕ) → AllByRecursion P numbers
    → is_ruled (withdrawn withdrawal numbers) place ≡ true → P place
ruled_is_named withdrawal P [] place all is = absurd (false≢true is)
ruled_is_named withdrawal P (n ∷ numbers) place all is = by (cases_eq n place) (ruled_is_named withdrawal P numbers place all.1)
  where
    by : (n ≡ place) ⊎ (n ≡ place → ⊥) → (is_ruled (withdrawn withdrawal numbers) place ≡ true → P place) → P place
    by (inl same) rest = subst P same all.0
    by (inr off) rest = rest (ap (λ (b : Bool). b || is_ruled (withdrawn withdrawal numbers) place) (sym (ne_eqb n place off)) ∙ is)

module _ (withdrawal : Withdrawal) (names : List ℕ) (message : Message) where
  one_apart : (place : ℕ) → is_named names place ≡ false → is_ruled (withdrawn withdrawal (named_places names message)) place ≡ false
  one_apart place unnamed = by (is_ruled (withdrawn withdrawal (named_places names message)) place) refl
    where
      by : (b : Bool) → is_ruled (withdrawn withdrawal (named_places names message)) place ≡ b
          → is_ruled (withdrawn withdrawal (named_places names message)) place ≡ false
      by false is = is
      by true is =
          absurd (false≢true (sym unnamed
          ∙ ruled_is_named withdrawal (λ n. is_named names n ≡ true) (named_places names message) place
          (each_passes (λ n. is_named names n ≡ true) (is_held_of names) (λ n p passes. (and_parts p.held (is_named names n) passes).1) 0 message.places)
          is))

  -- places that aren't named are apart from those that are withdrawn
  unnamed_are_apart : (numbers : List ℕ) → list_any (is_named names) numbers ≡ false
      → AreApart (withdrawn withdrawal (named_places names message)) numbers
  unnamed_are_apart [] none = tt
  unnamed_are_apart (n ∷ numbers) none = by (is_named names n) refl (unnamed_are_apart numbers)
    where
      by : (b : Bool) → is_named names n ≡ b
          → (list_any (is_named names) numbers ≡ false → AreApart (withdrawn withdrawal (named_places names message)) numbers)
          → AreApart (withdrawn withdrawal (named_places names message)) (n ∷ numbers)
      by true is rest = absurd (false≢true (sym none ∙ ap (λ (b : Bool). b || list_any (is_named names) numbers) is))
      by false is rest =
          (one_apart n is, rest (ap (λ (b : Bool). b || list_any (is_named names) numbers) (sym is) ∙ none))

no_slot : {A : Type 0} (x : A) → None ≡ Some x → ⊥
no_slot x e = cc

-- where none is tried, no attempt for the message tries one
none_tries : (number : ℕ) (names : List ℕ) (runs : List (Option Run)) → is_tried runs number names ≡ false → (n : ℕ) (run : Run)
    → slot_at runs n ≡ Some run → run.message ≡ number → list_any (is_named names) run.places.items ≡ false
none_tries number names [] free n run is same = absurd (no_slot run is)
none_tries number names (first ∷ runs) free zero run is same = by (list_any (is_named names) run.places.items) refl
  where
    by : (b : Bool) → list_any (is_named names) run.places.items ≡ b → list_any (is_named names) run.places.items ≡ false
    by false e = e
    by true e =
        let here : tries_one number names first ≡ true =
        ap (tries_one number names) is
        ∙ ap (λ (b : Bool). b && list_any (is_named names) run.places.items) (eq-eqb run.message number same) ∙ e in
        absurd (false≢true (sym free ∙ ap (λ (b : Bool). b || list_any (tries_one number names) runs) here))
none_tries number names (first ∷ runs) free (suc n) run is same =
    by (tries_one number names first) refl (λ less. none_tries number names runs less n run is same)
  where
    by : (b : Bool) → tries_one number names first ≡ b
        → (is_tried runs number names ≡ false → list_any (is_named names) run.places.items ≡ false)
        → list_any (is_named names) run.places.items ≡ false
    by true e rest = absurd (false≢true (sym free ∙ ap (λ (b : Bool). b || list_any (tries_one number names) runs) e))
    by false e rest = rest (ap (λ (b : Bool). b || list_any (tries_one number names) runs) (sym e) ∙ free)

-- the attempts go on where places are withdrawn that none of them tries
pub withdrawn_serves : (host : List ℕ) (table : RouteTable) (queue new : Queue) (number at : ℕ) (withdrawal : Withdrawal) (names : List ℕ)
    (message : Message) (outcome : Outcome) (report : List ℕ) (before after : AttemptTable)
    → outcome ≡ withdrawal_of number at withdrawal names message → message_of queue.messages number ≡ Some message
    → is_tried before.runs number names ≡ false
    → new ≡ step queue (change.Outcome (record outcome { report = report })) → after.runs ≡ before.runs
    → after.stranded ≡ stranded_of table new.messages → Serves host table before queue → Serves host table after new
withdrawn_serves host table queue new number at withdrawal names message outcome report before after is found free new_is runs_are known serves = record {
  stranded = known;
  runs = λ n run there.
      let was = subst (λ (l : List (Option Run)). slot_at l n ≡ Some run) runs_are there in
      subst (λ (q : Queue). RunsFor host table q run) (sym new_is)
      (run_goes_on host table queue (record outcome { report = report }) run (serves.runs n run was) (apart n run was));
  once = λ n other run another here there. serves.once n other run another
      (subst (λ (l : List (Option Run)). slot_at l n ≡ Some run) runs_are here) (subst (λ (l : List (Option Run)). slot_at l other ≡ Some another) runs_are there);
}
  where
    apart : (n : ℕ) (run : Run) → slot_at before.runs n ≡ Some run → run.message ≡ outcome.message → AreApart outcome.rulings run.places.items
    apart n run was same =
        let its : outcome.message ≡ number = ap (λ (o : Outcome). o.message) is in
        subst (λ (o : Outcome). AreApart o.rulings run.places.items) (sym is)
        (unnamed_are_apart withdrawal names message run.places.items (none_tries number names before.runs free n run was (same ∙ its)))

-- why places aren't withdrawn
pub refused_to_withdraw : {D : Type 0} (words : DiskWords D) (reporter : Reporter) (runs : List (Option Run)) (number at : ℕ) (withdrawal : Withdrawal)
    (names : List ℕ) (message : Message) (outcome : Outcome) (old new : Kept D) (fault : NodeFault)
    → old.spool.live ≡ true → message_of old.queue.messages number ≡ Some message → NamesHeld names message
    → is_tried runs number names ≡ false → outcome ≡ withdrawal_of number at withdrawal names message
    → RefusesOutcome words reporter outcome old new fault → RefusesToWithdraw words reporter runs number at withdrawal names old new fault
refused_to_withdraw words reporter runs number at withdrawal names message outcome old new NoMemory live found named free is refused =
    (live, record { message = message; found = found; named = named }, free, refused)
refused_to_withdraw words reporter runs number at withdrawal names message outcome old new Stopped live found named free is refused = inr refused
refused_to_withdraw words reporter runs number at withdrawal names message outcome old new Unknown live found named free is refused = absurd refused
refused_to_withdraw words reporter runs number at withdrawal names message outcome old new TooMany live found named free is refused = absurd refused
refused_to_withdraw words reporter runs number at withdrawal names message outcome old new NotDue live found named free is refused = absurd refused
refused_to_withdraw words reporter runs number at withdrawal names message outcome old new Busy live found named free is refused = absurd refused
refused_to_withdraw words reporter runs number at withdrawal names message outcome old new (Open cause) live found named free is refused = absurd refused
refused_to_withdraw words reporter runs number at withdrawal names message outcome old new NoSecond live found named free is refused = absurd refused
refused_to_withdraw words reporter runs number at withdrawal names message outcome old new Full live found named free is refused = (
  live,
  free,
  refused.0,
  record { message = message; found = found; named = named; room = subst (λ (o : Outcome). HasNoRoom reporter o old) is refused.1 },
)

-- why none is staged
pub refused_to_stage : {D : Type 0} (words : DiskWords D) (reporter : Reporter) (runs : List (Option Run)) (number at : ℕ) (withdrawal : Withdrawal)
    (names : List ℕ) (message : Message) (outcome : Outcome) (old new : Kept D) (row left : Row) (fault : NodeFault)
    → message_of old.queue.messages number ≡ Some message → NamesHeld names message
    → is_tried runs number names ≡ false → outcome ≡ withdrawal_of number at withdrawal names message
    → RefusesToStageOutcome reporter outcome old new row left fault → RefusesToStageWithdrawal words reporter runs number at withdrawal names old new row left fault
refused_to_stage words reporter runs number at withdrawal names message outcome old new row left NoMemory found named free is refused =
    (record { message = message; found = found; named = named }, free, refused.0, refused.1)
refused_to_stage words reporter runs number at withdrawal names message outcome old new row left Stopped found named free is refused = absurd refused
refused_to_stage words reporter runs number at withdrawal names message outcome old new row left Unknown found named free is refused = absurd refused
refused_to_stage words reporter runs number at withdrawal names message outcome old new row left TooMany found named free is refused = absurd refused
refused_to_stage words reporter runs number at withdrawal names message outcome old new row left NotDue found named free is refused = absurd refused
refused_to_stage words reporter runs number at withdrawal names message outcome old new row left Busy found named free is refused = absurd refused
refused_to_stage words reporter runs number at withdrawal names message outcome old new row left (Open cause) found named free is refused = absurd refused
refused_to_stage words reporter runs number at withdrawal names message outcome old new row left NoSecond found named free is refused = absurd refused
refused_to_stage words reporter runs number at withdrawal names message outcome old new row left Full found named free is refused = (
  free,
  refused.0,
  refused.1,
  record { message = message; found = found; named = named; room = subst (λ (o : Outcome). HasNoRoomAfter reporter o old row) is refused.2 },
)
