-- Events one after another, and the promise that they keep.
use Rattle.std.proofs.Common.{List, [], ◌∷◌, ◌++◌, Result, refl, subst, arith}
use Rattle.std.specs.List.{AllByRecursion}
use Rattle.std.proofs.lemmas.List.Elements.{Contains-append_left, Contains-push}
use Rattle.relay_disk.specs.Device.{DiskWords}
use Rattle.relay_book.specs.declared.change.Change.{Change}
use Rattle.relay_world.specs.Bound.{IsBound}
use Rattle.relay_world.specs.HopLinks.{AreLinkedToHops}
use Rattle.relay_world.specs.Leaks.{NothingLeaks}
use Rattle.relay_world.specs.Lines.{HasSources}
use Rattle.relay_world.specs.Once.{IsTriedOnce}
use Rattle.relay_world.specs.Promise.{KeepsPromise, PromiseIsKept}
use Rattle.relay_world.specs.World.{World}
use Rattle.relay_events.specs.declared.event.Event.{Event}
use Rattle.relay_events.specs.declared.fault.PairFault.{PairFault}
use Rattle.relay_events.specs.declared.seen.Seen.{Seen}
use Rattle.relay_world.specs.GivingUp.{Withdrawing}
use Rattle.relay_events.specs.declared.event.Event.TheVariants.{Connect, Send, Carry, Break, Tick, Give, Compact, Stop, Withdraw}
use Rattle.relay_events.specs.Happened.{Asking, HasHappenedAsking, HasHappenedFor, Unasked, asked_for}
use Rattle.relay_events.specs.Relays.{AreBound}
use Rattle.relay_events.specs.Step.{Steps}
use Rattle.relay_events.proofs.Theorems.{both_asking}
use Rattle.relay_world.proofs.Theorems.{one_row}
use Rattle.relay_pair.specs.Promise.{IsAskedBy, KeepsItsPromise, RunKeepsItsPromise}
use Rattle.relay_pair.specs.Run.{StepsEach}

-- what one of some events asks for, one of more does
more_events : (done : List Event) (event : Event) (asked : List Withdrawing) → AllByRecursion (IsAskedBy done) asked
    → AllByRecursion (IsAskedBy (done ++ event ∷ [])) asked
more_events done event [] by_events = tt
more_events done event (one ∷ asked) by_events = (
  record {
    event = by_events.0.event;
    there = Contains-append_left done (event ∷ []) by_events.0.event by_events.0.there;
    asks = by_events.0.asks;
  },
  more_events done event asked by_events.1,
)

-- what an event asks for, it asks for
own_asks : (done : List Event) (event : Event) → AllByRecursion (IsAskedBy (done ++ event ∷ [])) (asked_for event)
own_asks done (Connect node) = tt
own_asks done (Send number octets) = tt
own_asks done (Carry number node count) = tt
own_asks done (Break number) = tt
own_asks done (Tick now) = tt
own_asks done (Give node) = tt
own_asks done (Compact node) = tt
own_asks done (Stop node calls pick) = tt
own_asks done (Withdraw node message place withdrawal) = (
  record {
    event = Withdraw node message place withdrawal;
    there = Contains-push done (Withdraw node message place withdrawal);
    asks = Contains-push [] (record { node = node; message = message; withdrawal = withdrawal; names = place ∷ [] });
  },
  tt,
)

both_all : (P : Withdrawing → Type 0) (xs ys : List Withdrawing) → AllByRecursion P xs → AllByRecursion P ys
    → AllByRecursion P (xs ++ ys)
both_all P [] ys all rest = rest
both_all P (x ∷ xs) ys all rest = (all.0, both_all P xs ys all.1 rest)

module _ {D : Type 0} (honest : Type 0) (words : DiskWords D) where
  -- The promise is kept with whatever was asked for before, by the lists that the relays have now.
  kept_by : honest → PromiseIsKept honest words → (asked : List Withdrawing) (old new : World D)
      (before lists : List (List Change)) → IsBound honest words old before → AreLinkedToHops old → HasSources old before
      → HasHappenedAsking honest words asked old new → IsBound honest words new lists → (earlier : List Withdrawing)
      → IsTriedOnce old before earlier → KeepsPromise honest words new lists (asked ++ earlier)
  kept_by is_honest keeps asked old new before lists were linked sources happened theirs earlier once =
      let later = keeps is_honest happened.count old new before earlier were once linked sources happened.run in
      subst (λ l. KeepsPromise honest words new l (asked ++ earlier)) (one_row honest words new later.0 lists later.1 theirs)
      (subst (λ l. KeepsPromise honest words new later.0 l) (happened.asks earlier) later.2)

  -- and the promise is kept
  pub promise_kept : honest → PromiseIsKept honest words → (asked : List Withdrawing) (old new : World D) → AreBound honest words old
      → NothingLeaks new → HasHappenedAsking honest words asked old new → KeepsItsPromise honest words asked old new
  promise_kept is_honest keeps asked old new bound leaks happened =
      let later = keeps is_honest happened.count old new bound.lists bound.asked bound.bound bound.once bound.linked
      bound.sources happened.run in
      record {
        lists = later.0;
        theirs = later.1;
        before = bound.lists;
        were = bound.bound;
        promise = kept_by is_honest keeps asked old new bound.lists later.0 bound.bound bound.linked bound.sources happened
            later.1;
        grown = later.3;
        attempts = later.4;
        leaks = leaks;
        asked_before = bound.asked;
        once_before = bound.once;
        linked_before = bound.linked;
        sources_before = bound.sources;
        longer = later.5;
        happened = happened;
      }

  -- and so after events that follow
  pub promise_on : honest → PromiseIsKept honest words → (asked more : List Withdrawing) (old now new : World D)
      → KeepsItsPromise honest words asked old now → NothingLeaks new
      → HasHappenedAsking honest words more now new → KeepsItsPromise honest words (more ++ asked) old new
  promise_on is_honest keeps asked more old now new kept leaks happened =
      let both = both_asking honest words asked more old now new kept.happened happened in
      let later = keeps is_honest both.count old new kept.before kept.asked_before kept.were kept.once_before
      kept.linked_before kept.sources_before both.run in
      record {
        lists = later.0;
        theirs = later.1;
        before = kept.before;
        were = kept.were;
        promise = kept_by is_honest keeps (more ++ asked) old new kept.before later.0 kept.were kept.linked_before
            kept.sources_before both later.1;
        grown = later.3;
        attempts = later.4;
        leaks = leaks;
        asked_before = kept.asked_before;
        once_before = kept.once_before;
        linked_before = kept.linked_before;
        sources_before = kept.sources_before;
        longer = later.5;
        happened = both;
      }

  -- one step more
  pub one_more : (old now new : World D) (done : List Event) (event : Event) (answer : Result Seen PairFault)
      → StepsEach honest words old done now → Steps honest words now event new answer
      → StepsEach honest words old (done ++ event ∷ []) new
  one_more old now new [] event answer same step =
      (new, (answer, subst (λ w. Steps honest words w event new answer) same step, refl))
  one_more old now new (first ∷ done) event answer steps step =
      (steps.0, (steps.1.0, steps.1.1, one_more steps.0 now new done event answer steps.1.2 step))

  -- what has happened by these events
  pub record HappenedBy (events : List Event) (old new : World D) : Type 0 where
    pub asked : List Withdrawing
    pub by_events : AllByRecursion (IsAskedBy events) asked
    pub happened : HasHappenedAsking honest words asked old new

  -- by no event nothing has happened
  pub none_by : (world : World D) → HappenedBy [] world world
  none_by world = record {
    asked = [];
    by_events = tt;
    happened = record { count = 0; run = refl; asks = λ before. refl };
  }

  -- and by one more
  pub by_one_more : (done : List Event) (event : Event) (old now new : World D) → HappenedBy done old now
      → HasHappenedFor honest words event now new → HappenedBy (done ++ event ∷ []) old new
  by_one_more done event old now new so (Unasked more) = record {
    asked = so.asked;
    by_events = more_events done event so.asked so.by_events;
    happened = both_asking honest words so.asked [] old now new so.happened more;
  }
  by_one_more done event old now new so (Asking more) = record {
    asked = asked_for event ++ so.asked;
    by_events = both_all (IsAskedBy (done ++ event ∷ [])) (asked_for event) so.asked (own_asks done event)
        (more_events done event so.asked so.by_events);
    happened = both_asking honest words so.asked (asked_for event) old now new so.happened more;
  }

  -- the promise of a run
  pub run_kept : honest → PromiseIsKept honest words → (events : List Event) (old new : World D) → AreBound honest words old
      → NothingLeaks new → HappenedBy events old new → RunKeepsItsPromise honest words events old new
  run_kept is_honest keeps events old new bound leaks so = record {
    asked = so.asked;
    by_events = so.by_events;
    keeps = promise_kept is_honest keeps so.asked old new bound leaks so.happened;
  }

  -- by no event nothing is asked for
  pub none_asked : (old new : World D) → RunKeepsItsPromise honest words [] old new → KeepsItsPromise honest words [] old new
  none_asked old new run = by run.asked run.by_events run.keeps
    where
      by : (asked : List Withdrawing) → AllByRecursion (IsAskedBy []) asked → KeepsItsPromise honest words asked old new
          → KeepsItsPromise honest words [] old new
      by [] by_events kept = kept
      by (one ∷ asked) by_events kept = let there = by_events.0.there in absurd (omega (arith, there.1))
