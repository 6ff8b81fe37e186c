-- Places that a node gives up, without a hop or as the postmaster asks, and a node that stopped in that call.
use Rattle.std.proofs.Common.{inr, ◌≡◌, ◌≤◌, ◌+◌, ℕ, suc, List, [], ◌∷◌, ◌++◌, length, Option, None, Some, Ok, Err, refl, sym, subst, ap, ◌∙◌, arith}
use Rattle.std.specs.Prelude.{slice_get, slice_set}
use Rattle.std.specs.Option.{option_map_or}
use Rattle.std.proofs.lemmas.List.{length-map, length-set}
use Rattle.std.proofs.lemmas.Option.{same_Some}
use Rattle.relay_disk.specs.Device.{DiskWords}
use Rattle.relay_attempts.specs.declared.work.Work.TheVariants.{NoRoute}
use Rattle.relay_book.specs.declared.version.Version.{Version}
use Rattle.relay_book.specs.declared.message.Message.{Message}
use Rattle.relay_book.specs.declared.change.Change.{Change}
use Rattle.relay_book.specs.declared.change.Change.TheVariants as change
use Rattle.relay_book.specs.declared.change.Outcome.{Outcome}
use Rattle.relay_book.specs.declared.change.Ruling.{Ruling}
use Rattle.relay_book.specs.declared.change.Withdrawal.{Withdrawal}
use Rattle.relay_book.specs.declared.fate.PlaceStep.{PlaceStep}
use Rattle.relay_book.specs.Marks.{place_step, place_steps, place_steps_by}
use Rattle.relay_book.specs.Queue.{FitsFrom, Queue, empty_queue, message_of, queue_of, step}
use Rattle.relay_book.specs.Record.{IsOutcome}
use Rattle.relay_records.specs.declared.noted.Noted.{Noted}
use Rattle.relay_records.specs.Note.{IsNoted}
use Rattle.relay_node.specs.Node.{NodeState}
use Rattle.relay_records.specs.Records.{IsStopped}
use Rattle.relay_records.specs.declared.fault.NodeFault.{NodeFault}
use Rattle.relay_world.specs.GivingUp.{Reason, NoHop, Postmaster, CutsGivenUp, asked_by, outcome_for}
use Rattle.relay_world.specs.declared.line.Line.{Line}
use Rattle.relay_world.specs.Crashes.{CrashesGivingUp, GoesDown}
use Rattle.relay_world.specs.CrashRuns.{RestingCrashHappens}
use Rattle.relay_world.specs.Ledger.{left_lines, report_told}
use Rattle.relay_world.specs.Once.{GivesUp as GivesUpEvent, RunsKeepAll}
use Rattle.relay_world.specs.Steps.{HasGivenUp}
use Rattle.relay_world.specs.World as world
use Rattle.relay_world.specs.World.{Host, Up, World}
use Rattle.relay_events.specs.declared.event.Event.TheVariants.{Give, Withdraw}
use Rattle.relay_hosts.specs.declared.host.Origin.TheVariants.{FromGivingUp}
use Rattle.relay_hosts.specs.declared.recorded.Recorded.{Recorded}
use Rattle.relay_hosts.specs.declared.work.GivenUp.TheVariants.{Done, Refused, Stopped}
use Rattle.relay_events.specs.declared.seen.Seen.TheVariants as seen
use Rattle.relay_events.specs.Give.{IsCalledToGiveUp, IsFirstWork}
use Rattle.relay_events.specs.FirstFault.{unless_up}
use Rattle.relay_events.specs.Happened.{HasHappenedAsking}
use Rattle.relay_events.specs.Relays.{AreBound}
use Rattle.relay_events.specs.Restart.{CrashesAt, IsCutShortAt, IsReadyToCrash, Restarts}
use Rattle.relay_hosts.specs.Room.{HasRoom, lines_held, lines_left, lines_to_come}
use Rattle.relay_events.specs.Step.{GivesUpPlaces, Refuses, RefusesToWithdraw, Shows, Steps, WithdrawsPlace, fault_of}
use Rattle.relay_events.specs.Told.{LearnsOfBreaks}
use Rattle.relay_hosts.specs.Work.{HasChanges, HoldsChanges, KnowsChanges}
use Rattle.relay_events.proofs.CutShortLemmas.{cut_short, goes_down, held_more, note_there, stopped_same}
use Rattle.relay_events.proofs.EventLemmas.{given_up}
use Rattle.relay_events.proofs.GiveLemmas.{first_is}
use Rattle.relay_events.proofs.HungLemmas.{hung_lines}
use Rattle.relay_events.proofs.PlaceLemmas.{set_same, value_put}
use Rattle.relay_events.proofs.ReopenLemmas.{held_put}
use Rattle.relay_events.proofs.RunLemmas.{one_happened, opened_happened, run_happened, still_bound_asking, then_happened}
use Rattle.relay_events.proofs.StepLemmas.{told_already}
use Rattle.relay_report.specs.Report.{reporter_of}

-- no more places leave or are late by an outcome than it rules on
one_step : (made : Option PlaceStep) (place : ℕ) (rest : List (ℕ × PlaceStep))
    → length (option_map_or (λ one. (place, one) ∷ []) made [] ++ rest) ≤ suc (length rest)
one_step None place rest = omega arith
one_step (Some made) place rest = omega arith

few_by : (version : Version) (message : Message) (at : ℕ) (rulings : List Ruling)
    → length (place_steps_by version message at rulings) ≤ length rulings
few_by version message at [] = omega arith
few_by version message at (ruling ∷ rulings) =
    let one = one_step (place_step version message at ruling) ruling.place (place_steps_by version message at rulings) in
    let rest = few_by version message at rulings in
    omega (arith, one, rest)

few_of : (version : Version) (message : Option Message) (at : ℕ) (rulings : List Ruling)
    → length (option_map_or (λ m. place_steps_by version m at rulings) message []) ≤ length rulings
few_of version None at rulings = omega arith
few_of version (Some message) at rulings = few_by version message at rulings

few_steps : (changes : List Change) (outcome : Outcome)
    → length (place_steps (queue_of changes) (change.Outcome outcome)) ≤ length outcome.rulings
few_steps changes outcome =
    few_of outcome.version (message_of (queue_of changes).messages outcome.message) outcome.at outcome.rulings

-- the last of changes that fit
last_fits : (queue : Queue) (changes : List Change) (outcome : Outcome) → FitsFrom queue (changes ++ change.Outcome outcome ∷ [])
    → IsOutcome outcome
last_fits queue [] outcome fits = fits.0.2
last_fits queue (one ∷ changes) outcome fits = last_fits (step queue one) changes outcome fits.1

-- at most 100 places leave by a noted outcome that may be stored
few_noted : (changes : List Change) (outcome : Outcome) (noted : Option Noted) (note : Noted) (used : ℕ) → IsOutcome outcome
    → IsNoted noted changes (change.Outcome outcome) used → noted ≡ Some note → length note.left.items ≤ 100
few_noted changes outcome noted note used stored its is =
    let same : its.note ≡ note = same_Some its.note note (sym its.is ∙ is) in
    let left = ap (λ (n : Noted). length n.left.items) (sym same) ∙ ap (λ (l : List (ℕ × PlaceStep)). length l) its.left in
    let few = few_steps changes outcome in
    let within = stored.within in
    omega (arith, left, few, within)

-- the changes of a host that is up with this node
knows_of : {D : Type 0} (honest : Type 0) (words : DiskWords D) (was : Host D) (before : NodeState D) → was.state ≡ Up before
    → HasChanges honest words was → KnowsChanges honest words before
knows_of honest words was before up has = subst (λ h. HoldsChanges honest words h) up has

module _ {D : Type 0} (honest : Type 0) (words : DiskWords D) (reason : Reason) (old called : World D) (node message : ℕ) where
  -- the places have ended
  module _ (change : ℕ) (recorded : Recorded)
      (calls : IsCalledToGiveUp honest words reason old called node message (Done change recorded)) where
    abbrev lines : List Line
    lines = left_lines node message 0 (report_told change recorded.report) recorded.left.items

    pub few_given : length recorded.left.items ≤ 100
    few_given =
        let gives = calls.gives in
        let knows = knows_of honest words calls.was gives.before gives.up calls.has in
        let adds = gives.gives_up knows.changes knows.keeps in
        let outcome : Outcome = record (outcome_for reason gives.before.config.routes message old.clock adds.message) {
          report = adds.adds.report;
        } in
        let stored = last_fits empty_queue knows.changes outcome adds.adds.adds.keeps.fitting in
        let few = few_noted knows.changes outcome gives.after.records.noted gives.notes.noted 0 stored adds.adds.adds.noted
        gives.notes.note_is in
        let left = ap (λ (l : List (ℕ × PlaceStep)). length l) gives.notes.tells.left in
        omega (arith, few, left)

    module _ (new : World D)
        (new_is : new ≡ record called {
          ledger = called.ledger ++ left_lines node message 0 (report_told change recorded.report) recorded.left.items;
        }) where
      abbrev given_world : World D
      given_world = record old { hosts = slice_set old.hosts node calls.now; ledger = old.ledger ++ lines }

      given_is : new ≡ given_world
      given_is =
          new_is
          ∙ ap (λ (w : World D). let next : World D = record w { ledger = w.ledger ++ lines } in next) calls.new_is

      pub has_given_up : HasGivenUp honest words old new reason node message change
      has_given_up =
          subst (λ (w : World D). HasGivenUp honest words old w reason node message change) (sym given_is)
          (given_up honest words old given_world reason node message change calls.was calls.now recorded calls.was_at calls.gives
          (value_put old.hosts node calls.was calls.now calls.was_at) refl
          (refl, refl, refl, length-set old.hosts node calls.now))

      pub given_happened : HasHappenedAsking honest words (asked_by reason node message) old new
      given_happened = one_happened honest words old new (GivesUpEvent reason node message change has_given_up)

      pub given_bound : honest → RunsKeepAll honest words → AreBound honest words old → AreBound honest words new
      given_bound is_honest keeps bound =
          still_bound_asking honest words is_honest keeps (asked_by reason node message) old new bound given_happened

      pub given_told : LearnsOfBreaks old → LearnsOfBreaks new
      given_told told = subst (λ (w : World D). LearnsOfBreaks w) (sym given_is) told

      pub given_room : (free free_now : ℕ) → lines_to_come old.attempts + lines_left 0 old.hosts + 100 ≤ free
          → free ≤ free_now + length recorded.left.items → HasRoom new free_now
      given_room free free_now room most =
          let few = few_given in
          let put = held_put old.hosts node 0 node calls.was calls.now (omega arith) calls.was_at in
          let none : lines_held node calls.was.state ≡ 0 = ap (λ h. lines_held node h) calls.gives.up in
          let none_now : lines_held node calls.now.state ≡ 0 =
          ap (λ (h : Host D). lines_held node h.state) calls.gives.notes.new_is in
          subst (λ (w : World D). HasRoom w free_now) (sym given_is) (omega (arith, room, most, few, put, none, none_now))

  -- the node stopped
  module _ (calls : IsCalledToGiveUp honest words reason old called node message Stopped) where
    pub halted_short : IsCutShortAt called node
    halted_short =
        cut_short honest words old called node calls.was calls.now calls.was_at calls.new_is calls.gives.before calls.gives.after
        calls.gives.runs calls.gives.failed.live calls.gives.noted calls.gives.note_is

    module _ (down : World D) (crashes : CrashesAt honest words called down node (FromGivingUp message)) where
      after_same : calls.gives.after ≡ crashes.before
      after_same =
          stopped_same honest words old called node calls.was calls.now calls.was_at calls.new_is calls.gives.before
          calls.gives.after calls.gives.runs (FromGivingUp message) down crashes

      fell : GoesDown old down node calls.was crashes.disk
          (Some (record { note = crashes.noted; origin = world.FromGivingUp message }))
      fell =
          goes_down honest words old called node calls.was calls.now calls.was_at calls.new_is calls.gives.before
          calls.gives.after calls.gives.runs (FromGivingUp message) down crashes

      crashes_giving_up : CrashesGivingUp honest words old down reason node message
      crashes_giving_up = record {
        host = calls.was;
        host_at = calls.was_at;
        before = calls.gives.before;
        up = calls.gives.runs.up;
        stopped = crashes.before.records;
        failed = subst (λ (n : NodeState D). IsStopped words 4 calls.gives.before.records n.records) after_same
            calls.gives.failed;
        cuts = λ changes keeps. subst
            (λ (n : NodeState D). CutsGivenUp honest words (reporter_of calls.gives.before.config) calls.gives.before.config.routes
            reason message old.clock changes calls.gives.before.records n.records) after_same (calls.gives.cuts changes keeps);
        noted = crashes.noted;
        note_is = crashes.note_is;
        disk = crashes.disk;
        left = crashes.left;
        down = fell;
      }

      crash_happened : RestingCrashHappens honest words → HasHappenedAsking honest words (asked_by reason node message) old down
      crash_happened happens =
          run_happened honest words (asked_by reason node message) 2 old down
          ((happens old down reason node message).1 crashes_giving_up)

      few_halted : length crashes.noted.left.items ≤ 100
      few_halted =
          let gives = calls.gives in
          let knows = knows_of honest words calls.was gives.before gives.runs.up calls.has in
          let cut = gives.cuts knows.changes knows.keeps in
          let outcome : Outcome = record (outcome_for reason gives.before.config.routes message old.clock cut.message) {
            report = cut.cuts.report;
          } in
          few_noted knows.changes outcome gives.after.records.noted crashes.noted 0 cut.cuts.cuts.fits.2 cut.cuts.cuts.noted
          (note_there honest words old called node calls.was calls.now calls.was_at calls.new_is gives.before gives.after
          gives.runs (FromGivingUp message) down crashes)

      crash_room : (free : ℕ) → lines_to_come old.attempts + lines_left 0 old.hosts + 100 ≤ free → HasRoom down free
      crash_room free room =
          let less = hung_lines node old.attempts in
          let attempts = ap (λ (w : World D). lines_to_come w.attempts) fell.new_is in
          let held = held_more honest words old called node calls.was calls.now calls.was_at calls.new_is calls.gives.before
          calls.gives.after calls.gives.runs (FromGivingUp message) down crashes in
          let lines_are : length (left_lines node message 0 (report_told crashes.noted.number crashes.noted.report)
          crashes.noted.left.items) ≡ length crashes.noted.left.items =
          length-map crashes.noted.left.items _ in
          let few = few_halted in
          omega (arith, room, less, attempts, held, lines_are, few)

    pub halted_ready : honest → RunsKeepAll honest words → RestingCrashHappens honest words → AreBound honest words old → (free : ℕ)
        → lines_to_come old.attempts + lines_left 0 old.hosts + 100 ≤ free
        → IsReadyToCrash honest words called node (FromGivingUp message) free
    halted_ready is_honest keeps happens bound free room down crashes = (
      still_bound_asking honest words is_honest keeps (asked_by reason node message) old down bound
          (crash_happened down crashes happens),
      crash_room down crashes free room,
    )

    module _ (new : World D) (restarts : Restarts honest words called new node (FromGivingUp message)) where
      pub halted_crash : CrashesGivingUp honest words old restarts.down reason node message
      halted_crash = crashes_giving_up restarts.down restarts.crashes

      pub halted_happened : RestingCrashHappens honest words → HasHappenedAsking honest words (asked_by reason node message) old new
      halted_happened happens =
          then_happened honest words (asked_by reason node message) old restarts.down new (crash_happened restarts.down restarts.crashes happens)
          (opened_happened honest words restarts.down new node restarts.opened)

  -- a node that wasn't called, or refused, is as it was
  pub called_same : (was now : Host D) → slice_get old.hosts node ≡ Some was → now ≡ was
      → called ≡ record old { hosts = slice_set old.hosts node now } → called ≡ old
  called_same was now at same is =
      is ∙ ap (λ (hs : List (Host D)). let next : World D = record old { hosts = hs } in next) (set_same old.hosts node was now at same)

-- the first work of a node was to give up places without a hop, and they have ended
module _ {D : Type 0} (honest : Type 0) (words : DiskWords D) (old called : World D) (node message change : ℕ) (recorded : Recorded)
    (calls : IsCalledToGiveUp honest words NoHop old called node message (Done change recorded)) (new : World D)
    (new_is : new ≡ record called {
      ledger = called.ledger ++ left_lines node message 0 (report_told change recorded.report) recorded.left.items;
    }) where
  pub given_steps : IsFirstWork old node (NoRoute message) → LearnsOfBreaks old
      → Steps honest words old (Give node) new (Ok (seen.NoRoute message change))
  given_steps first told = (
    first_is old node (NoRoute message) first,
    (
      new,
      (
        Shows (seen.NoRoute message change),
        GivesUpPlaces message change first (has_given_up honest words NoHop old called node message change recorded calls new new_is),
        (
          told_already honest words new
              (given_told honest words NoHop old called node message change recorded calls new new_is told),
          refl,
        ),
      ),
    ),
  )

-- the postmaster has withdrawn a place
module _ {D : Type 0} (honest : Type 0) (words : DiskWords D) (withdrawal : Withdrawal) (place : ℕ) (old called : World D)
    (node message : ℕ) where
  abbrev by_him : Reason
  by_him = Postmaster withdrawal (place ∷ [])

  module _ (change : ℕ) (recorded : Recorded)
      (calls : IsCalledToGiveUp honest words by_him old called node message (Done change recorded)) (new : World D)
      (new_is : new ≡ record called {
        ledger = called.ledger ++ left_lines node message 0 (report_told change recorded.report) recorded.left.items;
      }) where
    pub withdrawn_steps : unless_up old node None ≡ None → LearnsOfBreaks old
        → Steps honest words old (Withdraw node message place withdrawal) new (Ok (seen.Withdrawn change))
    withdrawn_steps up told = (
      up,
      (
        new,
        (
          Shows (seen.Withdrawn change),
          WithdrawsPlace change (has_given_up honest words by_him old called node message change recorded calls new new_is),
          (
            told_already honest words new
                (given_told honest words by_him old called node message change recorded calls new new_is told),
            refl,
          ),
        ),
      ),
    )

  -- the node has refused to
  module _ (why : NodeFault) (calls : IsCalledToGiveUp honest words by_him old called node message (Refused why)) where
    pub unwithdrawn_same : called ≡ old
    unwithdrawn_same =
        called_same honest words by_him old called node message calls.was calls.now calls.was_at calls.gives.new_is calls.new_is

    pub unwithdrawn_steps : unless_up old node None ≡ None → LearnsOfBreaks old
        → Steps honest words old (Withdraw node message place withdrawal) called (Err (fault_of why))
    unwithdrawn_steps up told =
        inr (inr (
          up,
          (
            called,
            (
              Refuses (fault_of why),
              RefusesToWithdraw calls.was calls.was_at why (record {
                before = calls.gives.before;
                up = calls.gives.up;
                refused = calls.gives.refused;
                new_is = refl;
              }) unwithdrawn_same,
              (
                told_already honest words called (subst (λ (w : World D). LearnsOfBreaks w) (sym unwithdrawn_same) told),
                refl,
              ),
            ),
          ),
        ))
