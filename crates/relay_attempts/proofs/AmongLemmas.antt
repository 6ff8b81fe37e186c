-- The attempts of a node where one of them goes on, ends or is dropped.
use Rattle.std.proofs.Common.{◌≡◌, ◌⊎◌, inl, inr, ℕ, zero, suc, ◌||◌, Bool, true, false, List, [], ◌∷◌, ◌++◌, Option, None, Some, bytes_eq, refl, sym, ap, ◌∙◌, subst}
use Rattle.std.specs.Prelude.{slice_set}
use Rattle.std.specs.List.{AllByRecursion}
use Rattle.std.specs.Option.{option_map_or}
use Rattle.std.proofs.lemmas.Bool.{cases_eq, ne_eqb, false≢true}
use Rattle.relay_slots.specs.Slots.{slot_at}
use Rattle.relay_slots.proofs.Theorems.{taken_is_none}
use Rattle.relay_routes.specs.Routes.{RouteTable}
use Rattle.relay_book.specs.declared.change.Change.TheVariants as change
use Rattle.relay_book.specs.declared.change.Outcome.{Outcome}
use Rattle.relay_book.specs.declared.change.Verdict.{Verdict}
use Rattle.relay_book.specs.declared.message.Message.{Message}
use Rattle.relay_book.specs.Queue.{Queue, message_of, step}
use Rattle.relay_client.specs.Attempt.{Follows}
use Rattle.relay_attempts.specs.declared.runs.Run.{Run}
use Rattle.relay_attempts.specs.Attempts.{Serves, AttemptTable}
use Rattle.relay_attempts.specs.Hops.{goes_to, hop_of_place, stranded_of}
use Rattle.relay_attempts.specs.Outcomes.{outcome_of, rulings_of}
use Rattle.relay_attempts.specs.Runs.{AllGoTo, AreHeld, EachRuns, NoneTwice, RunsFor}
use Rattle.relay_attempts.proofs.NameLemmas.{same_name}
use Rattle.relay_attempts.proofs.MessageLemmas.{is_ruled}
use Rattle.relay_attempts.proofs.OutcomeLemmas.{AreApart, run_goes_on}
use Rattle.relay_attempts.proofs.RunLemmas.{slot_in_set}

-- a place that is ruled on is one of the attempt's
ruled_is_its : (P : ℕ → Type 0) (numbers : List ℕ) (verdicts : List Verdict) (place : ℕ) → AllByRecursion P numbers
    → is_ruled (rulings_of numbers verdicts) place ≡ true → P place
ruled_is_its P [] verdicts place all is = absurd (false≢true is)
ruled_is_its P (n ∷ numbers) [] place all is = absurd (false≢true is)
ruled_is_its P (n ∷ numbers) (verdict ∷ verdicts) place all is =
    by (cases_eq n place) (ruled_is_its P numbers verdicts place all.1)
  where
    by : (n ≡ place) ⊎ (n ≡ place → ⊥) → (is_ruled (rulings_of numbers verdicts) place ≡ true → P place) → P place
    by (inl same) rest = subst P same all.0
    by (inr off) rest =
        rest (ap (λ (b : Bool). b || is_ruled (rulings_of numbers verdicts) place) (sym (ne_eqb n place off)) ∙ is)

-- a place goes to one hop
one_hop : (found : Option (List ℕ)) (hop other : List ℕ) → option_map_or (λ name. bytes_eq name hop) found false ≡ true
    → option_map_or (λ name. bytes_eq name other) found false ≡ true → hop ≡ other
one_hop None hop other goes also = absurd (false≢true goes)
one_hop (Some name) hop other goes also = sym (same_name name hop goes) ∙ same_name name other also

two_hops_apart : (table : RouteTable) (message : Message) (hop other : List ℕ) (numbers : List ℕ) (verdicts : List Verdict)
    → (hop ≡ other → ⊥) → AllGoTo table hop message numbers → (places : List ℕ) → AllGoTo table other message places
    → AreApart (rulings_of numbers verdicts) places
two_hops_apart table message hop other numbers verdicts off goes [] also = tt
two_hops_apart table message hop other numbers verdicts off goes (place ∷ places) also = (
  by (is_ruled (rulings_of numbers verdicts) place) refl,
  two_hops_apart table message hop other numbers verdicts off goes places also.1,
)
  where
    by : (b : Bool) → is_ruled (rulings_of numbers verdicts) place ≡ b
        → is_ruled (rulings_of numbers verdicts) place ≡ false
    by false is = is
    by true is =
        let its = ruled_is_its (λ n. goes_to table message.accept.envelope.recipients hop n ≡ true) numbers verdicts place
        goes is in
        absurd (off (one_hop (hop_of_place table message.accept.envelope.recipients place) hop other its also.0))

some_is : {A : Type 0} (x y : A) → Some x ≡ Some y → x ≡ y
some_is x y e = cc

pub no_run : (run : Run) → None ≡ Some run → ⊥
no_run run e = cc

-- to free a slot that is free changes nothing
pub still_free : (runs : List (Option Run)) (number : ℕ) → slot_at runs number ≡ None → slice_set runs number None ≡ runs
still_free [] number free = refl
still_free (run ∷ runs) zero free = ap (λ (r : Option Run). r ∷ runs) (sym free)
still_free (run ∷ runs) (suc number) free = ap (λ (l : List (Option Run)). run ∷ l) (still_free runs number free)

-- The others go on after an attempt that is gone.
module _ (host : List ℕ) (table : RouteTable) (queue : Queue) (number : ℕ) (run : Run) (before after : AttemptTable)
    (serves : Serves host table before queue) (its : slot_at before.runs number ≡ Some run)
    (gone : after.runs ≡ slice_set before.runs number None) where
  -- what runs after it ran before, under another number
  still : (n : ℕ) (other : Run) → slot_at after.runs n ≡ Some other → slot_at before.runs n ≡ Some other
  still n other is =
      by (slot_in_set before.runs number n None other (subst (λ (l : List (Option Run)). slot_at l n ≡ Some other) gone is))
    where
      by : ((n ≡ number) × (None ≡ Some other)) ⊎ (slot_at before.runs n ≡ Some other)
          → slot_at before.runs n ≡ Some other
      by (inl none) = absurd (no_run other none.1)
      by (inr was) = was

  not_itself : (n : ℕ) (other : Run) → slot_at after.runs n ≡ Some other → n ≡ number → ⊥
  not_itself n other is same =
      no_run other
      (sym (taken_is_none before.runs number) ∙ ap (slot_at (slice_set before.runs number None)) (sym same)
      ∙ subst (λ (l : List (Option Run)). slot_at l n ≡ Some other) gone is)

  apart : (n : ℕ) (other : Run) (verdicts : List Verdict) → slot_at after.runs n ≡ Some other
      → RunsFor host table queue other → other.message ≡ run.message
      → AreApart (rulings_of run.places.items verdicts) other.places.items
  apart n other verdicts is runs same =
      let mine = serves.runs number run its in
      let one : mine.message ≡ runs.message =
      some_is mine.message runs.message (sym mine.found ∙ ap (message_of queue.messages) (sym same) ∙ runs.found) in
      two_hops_apart table runs.message run.hop other.hop run.places.items verdicts
      (λ hop. not_itself n other is (serves.once n number other run (still n other is) its same (sym hop)))
      (subst (λ (m : Message). AllGoTo table run.hop m run.places.items) one mine.its_hop) other.places.items runs.its_hop

  once_after : NoneTwice after.runs
  once_after n other one another here there = serves.once n other one another (still n one here) (still other another there)

  -- nothing was added
  pub dropped_serves : after.stranded ≡ before.stranded → Serves host table after queue
  dropped_serves known = record {
    stranded = known ∙ serves.stranded;
    runs = λ n other is. serves.runs n other (still n other is);
    once = once_after;
  }

  -- its outcome was refused, and the queue is the same
  pub refused_serves : (new : Queue) → new ≡ queue → after.stranded ≡ stranded_of table new.messages
      → Serves host table after new
  refused_serves new same known =
      subst (λ (q : Queue). Serves host table after q) (sym same)
      (dropped_serves (known ∙ ap (λ (q : Queue). stranded_of table q.messages) same ∙ sym serves.stranded))

  -- its outcome was added
  pub ended_serves : (outcome : Outcome) (report : List ℕ) (now : ℕ) (verdicts : List Verdict) (new : Queue)
      → outcome ≡ outcome_of run.message now run.hop (rulings_of run.places.items verdicts)
      → new ≡ step queue (change.Outcome (record outcome { report = report }))
      → after.stranded ≡ stranded_of table new.messages → Serves host table after new
  ended_serves outcome report now verdicts new is new_is known = record {
    stranded = known;
    runs = λ n other at.
        let runs = serves.runs n other (still n other at) in
        subst (λ (q : Queue). RunsFor host table q other) (sym new_is)
        (run_goes_on host table queue (record outcome { report = report }) other runs
        (λ same. subst (λ (o : Outcome). AreApart o.rulings other.places.items) (sym is)
        (apart n other verdicts at runs (same ∙ ap (λ (o : Outcome). o.message) is))));
    once = once_after;
  }

some_run : (run other : Run) → Some run ≡ Some other → run ≡ other
some_run run other e = cc

-- An attempt goes on among the others: it was taken out, and put back for the same message, hop and places.
module _ (host : List ℕ) (table : RouteTable) (queue : Queue) (number : ℕ) (run new : Run) (before after : AttemptTable)
    (serves : Serves host table before queue) (its : slot_at before.runs number ≡ Some run)
    (back : after.runs ≡ slice_set (slice_set before.runs number None) number (Some new))
    (message : new.message ≡ run.message) (hop : new.hop ≡ run.hop) (places : new.places ≡ run.places) where
  -- what stands in a slot is itself, or ran there before
  stands : (n : ℕ) (other : Run) → slot_at after.runs n ≡ Some other
      → ((n ≡ number) × (Some new ≡ Some other)) ⊎ (slot_at before.runs n ≡ Some other)
  stands n other is =
      by (slot_in_set (slice_set before.runs number None) number n (Some new) other
      (subst (λ (l : List (Option Run)). slot_at l n ≡ Some other) back is))
    where
      was : ((n ≡ number) × (None ≡ Some other)) ⊎ (slot_at before.runs n ≡ Some other)
          → ((n ≡ number) × (Some new ≡ Some other)) ⊎ (slot_at before.runs n ≡ Some other)
      was (inl none) = absurd (no_run other none.1)
      was (inr there) = inr there

      by : ((n ≡ number) × (Some new ≡ Some other)) ⊎ (slot_at (slice_set before.runs number None) n ≡ Some other)
          → ((n ≡ number) × (Some new ≡ Some other)) ⊎ (slot_at before.runs n ≡ Some other)
      by (inl here) = inl here
      by (inr there) = was (slot_in_set before.runs number n None other there)

  -- before it, there ran one for the same message and hop
  ran : (n : ℕ) (other : Run) → slot_at after.runs n ≡ Some other
      → (old : Run) × (slot_at before.runs n ≡ Some old) × (old.message ≡ other.message) × (old.hop ≡ other.hop)
  ran n other is = by (stands n other is)
    where
      by : ((n ≡ number) × (Some new ≡ Some other)) ⊎ (slot_at before.runs n ≡ Some other)
          → (old : Run) × (slot_at before.runs n ≡ Some old) × (old.message ≡ other.message) × (old.hop ≡ other.hop)
      by (inl here) =
          let one = some_run new other here.1 in (
            run,
            ap (slot_at before.runs) here.0 ∙ its,
            sym message ∙ ap (λ (r : Run). r.message) one,
            sym hop ∙ ap (λ (r : Run). r.hop) one,
          )
      by (inr there) = (other, there, refl, refl)

  -- what it hands on is still queued
  hands_on : (runs : RunsFor host table queue run) (input output : List ℕ)
      → Follows new.client host runs.message.accept.envelope runs.message.accept.stored_text run.places.items input output
      → RunsFor host table queue new
  hands_on runs input output follows =
      let items : new.places.items ≡ run.places.items = ap (λ p. p.items) places in
      let envelope = runs.message.accept.envelope in
      let text = runs.message.accept.stored_text in
      record {
        message = runs.message;
        found = ap (message_of queue.messages) message ∙ runs.found;
        held = subst (λ (l : List ℕ). AreHeld runs.message.places 0 l) (sym items) runs.held;
        some = λ none. runs.some (sym items ∙ none);
        its_hop =
            subst (λ (h : List ℕ). AllGoTo table h runs.message new.places.items) (sym hop)
            (subst (λ (l : List ℕ). AllGoTo table run.hop runs.message l) (sym items) runs.its_hop);
        input = input;
        output = output;
        follows = subst (λ (l : List ℕ). Follows new.client host envelope text l input output) (sym items) follows;
      }

  pub heard_serves : (more out : List ℕ)
      → ((runs : RunsFor host table queue run)
      → Follows new.client host runs.message.accept.envelope runs.message.accept.stored_text run.places.items
      (runs.input ++ more) (runs.output ++ out))
      → after.stranded ≡ before.stranded → Serves host table after queue
  heard_serves more out follows known = record {
    stranded = known ∙ serves.stranded;
    runs = each;
    once = λ n other one another here there same its_hop.
        let first = ran n one here in
        let second = ran other another there in
        serves.once n other first.0 second.0 first.1 second.1 (first.2 ∙ same ∙ sym second.2)
        (first.3 ∙ its_hop ∙ sym second.3);
  }
    where
      each : EachRuns host table queue after.runs
      each n other is = by (stands n other is)
        where
          by : ((n ≡ number) × (Some new ≡ Some other)) ⊎ (slot_at before.runs n ≡ Some other)
              → RunsFor host table queue other
          by (inl here) =
              let runs = serves.runs number run its in
              subst (λ (r : Run). RunsFor host table queue r) (some_run new other here.1)
              (hands_on runs (runs.input ++ more) (runs.output ++ out) (follows runs))
          by (inr there) = serves.runs n other there
