-- Mail that is handed on, work by work.
use Rattle.std.proofs.Common.{◌≡◌, ◌≢◌, ◌⊎◌, inl, inr, ℕ, true, false, true≢false, List, [], ◌∷◌, ◌++◌, Option, None, Result, Ok, Err, IsErr, MatchResult, refl, sym, ap, ◌∙◌, subst, append-nil, ◌+◌, ◌<◌, ◌≤◌, length, take, drop, get_or, add-one, take-append-drop}
use Rattle.std.proofs.Math.Seq.{take-suc}
use Rattle.std.proofs.lemmas.Bool.{cases_eq}
use Rattle.std.proofs.lemmas.List.{take_all}
use Rattle.relay_disk.specs.Device.{DiskWords}
use Rattle.relay_slots.specs.Slots.{OthersStay, slot_at}
use Rattle.relay_book.specs.declared.change.Change.{Change}
use Rattle.relay_book.specs.declared.change.Outcome.{Outcome}
use Rattle.relay_records.specs.declared.fault.NodeFault.{NodeFault}
use Rattle.relay_records.specs.declared.fault.NodeFault.TheVariants as node_fault
use Rattle.relay_records.specs.Records.{Keeps, Kept}
use Rattle.relay_records.specs.declared.noted.Noted.{Noted}
use Rattle.relay_attempts.specs.AddedOutcome.{AddsOutcome}
use Rattle.relay_course.specs.VerdictTable.{all_later}
use Rattle.relay_attempts.specs.declared.runs.Run.{Run}
use Rattle.relay_attempts.specs.declared.start.Started.{Started}
use Rattle.relay_attempts.specs.declared.work.Work.{Work}
use Rattle.relay_attempts.specs.declared.work.Work.TheVariants.{NoRoute, Try}
use Rattle.relay_attempts.specs.Outcomes.{AddsUnroutable, RefusesToGiveUp, unroutable}
use Rattle.relay_attempts.specs.Reply.{Told, outcome_at}
use Rattle.relay_node.specs.Attempts.{Begins, Tells, begun_with}
use Rattle.relay_node.specs.Node.{NodeState}
use Rattle.relay_links.specs.declared.fault.LinkFault.{LinkFault}
use Rattle.relay_links.specs.declared.fault.LinkFault.TheVariants as link_fault
use Rattle.relay_links.specs.declared.push.Pushed.{Pushed}
use Rattle.relay_links.specs.declared.push.Pushed.TheVariants as pushed
use Rattle.relay_links.specs.Push.{PushHasEnded, IsAt, PushesTo, push_start_at}
use Rattle.relay_service.specs.Pushing.{Concludes, DoesEach, DoesOne, DoesSome, Ends, HandsOn, IsDone, IsSameButNote, StaysBeside, TellsDevice, WorksOff, WorksTo, HasEnded as EndsOn}
use Rattle.relay_routes.specs.declared.config.Config.{Config}
use Rattle.relay_report.specs.Report.{Reporter, reporter_of}

-- the same node with this note
abbrev pub noted_as : {D : Type 0} → Option Noted → NodeState D → NodeState D
noted_as kept node = record node { records = record node.records { noted = kept } }

-- what is told of an attempt is told by the same name of the host
pub tells_here : {D : Type 0} (changes : List Change) (old mid : NodeState D) (number : ℕ) (told : Told) → mid.config ≡ old.config → Tells old.config.host changes mid.attempts number told → Tells mid.config.host changes mid.attempts number told
tells_here changes old mid number told same tells = subst (λ host. Tells host changes mid.attempts number told) (sym (ap (λ config. config.host) same)) tells

module _ {D : Type 0} (honest : Type 0) (words : DiskWords D) where
  -- a node of the same records keeps the same
  pub keeps_here : (changes : List Change) (old mid : NodeState D) → Keeps honest words old.records changes → mid.records ≡ old.records → Keeps honest words mid.records changes
  keeps_here changes old mid keeps same = subst (λ (records : Kept D). Keeps honest words records changes) (sym same) keeps

  -- what the records keep doesn't rest on the note
  keeps_noted : (kept : Option Noted) (records : Kept D) (changes : List Change) → Keeps honest words records changes → Keeps honest words (record records { noted = kept }) changes
  keeps_noted kept records changes keeps =
      record { live = keeps.live; fitting = keeps.fitting; queue = keeps.queue; bodies = keeps.bodies; images = keeps.images }

  -- an outcome that was added is the one change more
  concluded : (reporter : Reporter) (changes : List Change) (outcome : Outcome) (used : ℕ) (new : Kept D) (number : ℕ) → AddsOutcome honest words reporter changes outcome used new number
      → (later : List Change) × (Concludes reporter changes later outcome × Keeps honest words new later)
  concluded reporter changes outcome used new number adds =
      (_, (record { report = adds.report; reported = adds.reported; later_is = refl }, adds.adds.keeps))

  -- all attempts stay where the one that began is gone
  pub all_stay : (old mid new : List (Option Run)) (number : ℕ) → slot_at old number ≡ None → OthersStay old mid number → OthersStay mid new number → slot_at new number ≡ None → (other : ℕ) → slot_at new other ≡ slot_at old other
  all_stay old mid new number free before now gone other =
      elim (cases_eq other number) [
        | inl same ↦
            ap (λ n. slot_at new n) same ∙ (gone ∙ sym (ap (λ n. slot_at old n) same ∙ free))
        | inr differs ↦ now other differs ∙ before other differs
      ]

  module _ (now : ℕ) where
    -- whatever its note says, a work is done as before
    pub done_noted : (kept : Option Noted) (work : Work) (changes : List Change) (old new : NodeState D) → IsDone honest words now work changes old new → IsDone honest words now work changes old (noted_as kept new)
    done_noted kept work changes old new done =
        let one = done.1 in (
          done.0,
          record {
            does = one.does;
            keeps = keeps_noted kept new.records done.0 one.keeps;
            beside = record { config = one.beside.config; seats = one.beside.seats; attempts = one.beside.attempts };
          },
        )

    -- a work that is done is so whatever is answered
    pub whatever : {X Y : Type 0} (work : Work) (changes : List Change) (old new : NodeState D) (result : Result X Y) → IsDone honest words now work changes old new → WorksTo honest words now work changes old new result
    whatever work changes old new (Ok x) done = done
    whatever work changes old new (Err e) done = inl done

    -- the same, where its note is another after it
    pub whatever_noted : {X Y : Type 0} (kept : Option Noted) (work : Work) (changes : List Change) (old mid new : NodeState D) (result : Result X Y) → IsDone honest words now work changes old mid → new ≡ noted_as kept mid → WorksTo honest words now work changes old new result
    whatever_noted kept work changes old mid new result done same =
        whatever work changes old new result (subst (λ (node : NodeState D). IsDone honest words now work changes old node) (sym same) (done_noted kept work changes old mid done))

    -- nothing was done of a work
    pub stays_due : (work : Work) (changes : List Change) (old new : NodeState D) → Keeps honest words old.records changes → new ≡ old → IsDone honest words now work changes old new
    stays_due (NoRoute number) changes old new keeps same = (
      changes,
      record {
        does = inr refl;
        keeps = subst (λ (node : NodeState D). Keeps honest words node.records changes) (sym same) keeps;
        beside = record {
          config = ap (λ (node : NodeState D). node.config) same;
          seats = ap (λ (node : NodeState D). node.seats) same;
          attempts = λ number. ap (λ (node : NodeState D). slot_at node.attempts number) same;
        };
      },
    )
    stays_due (Try number hop) changes old new keeps same = (
      changes,
      record {
        does = inr refl;
        keeps = subst (λ (node : NodeState D). Keeps honest words node.records changes) (sym same) keeps;
        beside = record {
          config = ap (λ (node : NodeState D). node.config) same;
          seats = ap (λ (node : NodeState D). node.seats) same;
          attempts = λ number. ap (λ (node : NodeState D). slot_at node.attempts number) same;
        };
      },
    )

    -- the places of a message without a hop have ended
    pub gave_up : (number : ℕ) (changes : List Change) (old new : NodeState D) (added : ℕ) → AddsUnroutable honest words (reporter_of old.config) old.config.routes number now changes old.records new.records added
        → new.config ≡ old.config → new.seats ≡ old.seats → new.attempts ≡ old.attempts → IsDone honest words now (NoRoute number) changes old new
    gave_up number changes old new added adds config seats attempts =
        let all = concluded (reporter_of old.config) changes (unroutable old.config.routes number now adds.message) 0 new.records added adds.adds in (
          all.0,
          record {
            does = inl (record { message = adds.message; found = adds.found; concludes = all.1.0 });
            keeps = all.1.1;
            beside = record { config = config; seats = seats; attempts = λ other. ap (λ (runs : List (Option Run)). slot_at runs other) attempts };
          },
        )

    -- what a fault of `give_up_unroutable` leaves, where all but a failed device leaves the work
    pub gave_up_not : {X : Type 0} {F : Type 0} (ended : F) (number : ℕ) (changes : List Change) (old new : NodeState D) (fault : NodeFault) (result : Result X F) → Keeps honest words old.records changes
        → RefusesToGiveUp words (reporter_of old.config) old.config.routes number now old.records new.records fault
        → new.config ≡ old.config → new.seats ≡ old.seats → new.attempts ≡ old.attempts
        → MatchResult result (λ _. fault ≢ node_fault.Stopped) (λ e. (fault ≡ node_fault.Stopped) × (e ≡ ended))
        → WorksTo honest words now (NoRoute number) changes old new result
    gave_up_not {X} {F} ended number changes old new fault result keeps refuses config seats attempts told = by_result result told
      where
        same : new.records ≡ old.records → IsDone honest words now (NoRoute number) changes old new
        same records = (
          changes,
          record {
            does = inr refl;
            keeps = subst (λ (kept : Kept D). Keeps honest words kept changes) (sym records) keeps;
            beside = record { config = config; seats = seats; attempts = λ other. ap (λ (runs : List (Option Run)). slot_at runs other) attempts };
          },
        )

        left_by : (fault : NodeFault) → RefusesToGiveUp words (reporter_of old.config) old.config.routes number now old.records new.records fault → fault ≢ node_fault.Stopped → IsDone honest words now (NoRoute number) changes old new
        left_by node_fault.NoMemory refuses other = same refuses.2
        left_by node_fault.Stopped refuses other = absurd (other refl)
        left_by node_fault.Unknown refuses other = same refuses.2
        left_by node_fault.TooMany refuses other = absurd refuses
        left_by node_fault.NotDue refuses other = same refuses.2
        left_by node_fault.Busy refuses other = absurd refuses
        left_by (node_fault.Open cause) refuses other = absurd refuses
        left_by node_fault.Full refuses other = same refuses.1
        left_by node_fault.NoSecond refuses other = absurd refuses

        stopped_by : RefusesToGiveUp words (reporter_of old.config) old.config.routes number now old.records new.records node_fault.Stopped → new.records.spool.live ≡ false
        stopped_by refuses = elim refuses [ inl before ↦ absurd (true≢false (sym keeps.live ∙ before.0)) | inr here ↦ here.live ]

        by_result : (result : Result X F) → MatchResult result (λ _. fault ≢ node_fault.Stopped) (λ e. (fault ≡ node_fault.Stopped) × (e ≡ ended))
            → WorksTo honest words now (NoRoute number) changes old new result
        by_result (Ok x) other = left_by fault refuses other
        by_result (Err e) is = inr (stopped_by (subst (λ f. RefusesToGiveUp words (reporter_of old.config) old.config.routes number now old.records new.records f) is.0 refuses))

  -- a link has ended, of an attempt of which this was told
  pub handed : (at : ℕ) (left held new_left new_held : Option (List ℕ)) (node : NodeState D) (records : Kept D) (changes : List Change) (told : Told) (result : Result Pushed LinkFault)
      → PushesTo honest words (push_start_at left held node changes told) at new_left new_held records result → HandsOn honest words (reporter_of node.config) changes told records result
  handed at left held new_left new_held node records changes told result pushes = by_result result pushes
    where
      ended : (unwritten : List ℕ) → PushHasEnded honest words (push_start_at left held node changes told) at new_left new_held unwritten records → EndsOn honest words (reporter_of node.config) changes told records
      ended unwritten h =
          let all = concluded (reporter_of node.config) changes (outcome_at at told h.verdicts) h.concludes.used records h.concludes.number h.concludes.adds in
          record {
            later = all.0;
            at = at;
            ends = record { verdicts = h.verdicts; lost = false; input = _; output = _; course = h.goes.course; concludes = all.1.0 };
            keeps = all.1.1;
          }

      by_result : (result : Result Pushed LinkFault) → PushesTo honest words (push_start_at left held node changes told) at new_left new_held records result → HandsOn honest words (reporter_of node.config) changes told records result
      by_result (Ok pushed.Ended) h = ended [] h
      by_result (Ok pushed.Unwritten) h = ended h.0 h.2
      by_result (Ok pushed.Lost) h =
          let all = concluded (reporter_of node.config) changes (outcome_at at told (all_later told.places)) h.concludes.used records h.concludes.number h.concludes.adds in
          record {
            later = all.0;
            at = at;
            ends = record { verdicts = all_later told.places; lost = true; input = _; output = _; course = h.goes.course; concludes = all.1.0 };
            keeps = all.1.1;
          }
      by_result (Err link_fault.Input) h = h
      by_result (Err link_fault.Output) h = h
      by_result (Err link_fault.NoMemory) h = h.keeps
      by_result (Err link_fault.Full) h = h.keeps
      by_result (Err link_fault.Device) h = h.cut.cuts.cuts.halted.stopped

  -- a fault that isn't the device's leaves the changes of before
  pub keeps_but : (reporter : Reporter) (changes : List Change) (told : Told) (records : Kept D) (fault : LinkFault) → HandsOn honest words reporter changes told records (Err fault) → fault ≢ link_fault.Device → Keeps honest words records changes
  keeps_but reporter changes told records link_fault.Input h other = absurd h
  keeps_but reporter changes told records link_fault.Output h other = absurd h
  keeps_but reporter changes told records link_fault.NoMemory h other = h
  keeps_but reporter changes told records link_fault.Full h other = h
  keeps_but reporter changes told records link_fault.Device h other = absurd (other refl)

  -- before an attempt has read or written anything its link begins, whatever it is read from and written to
  pub begins_here : (at number : ℕ) (node : NodeState D) (changes : List Change) (told : Told) → Keeps honest words node.records changes → Tells node.config.host changes node.attempts number told
      → IsAt honest words (push_start_at None None node changes told) at number None None [] [] node
  begins_here at number node changes told keeps tells = record {
    input = [];
    written = [];
    reporter = refl;
    reads = tt;
    writes = tt;
    keeps = keeps;
    tells =
        subst (λ input. Tells node.config.host changes node.attempts number (record told { input = input; output = told.output ++ ([] ++ []) })) (sym (append-nil told.input))
        (subst (λ output. Tells node.config.host changes node.attempts number (record told { output = output })) (sym (append-nil told.output)) tells);
  }

  -- What has come of an attempt that has begun for a message and a hop, and is gone.
  module _ (now number : ℕ) (hop : List ℕ) (changes : List Change) (old mid new : NodeState D) (started : Started)
      (begins : Begins old.config changes number hop now old.attempts mid.attempts started) (config : mid.config ≡ old.config)
      (seats : mid.seats ≡ old.seats) (gone : new.records.spool.live ≡ true → slot_at new.attempts started.attempt ≡ None)
      (others : OthersStay mid.attempts new.attempts started.attempt) (same_config : new.config ≡ mid.config)
      (same_seats : new.seats ≡ mid.seats) where
    beside : new.records.spool.live ≡ true → StaysBeside old new
    beside live = record {
      config = same_config ∙ config;
      seats = same_seats ∙ seats;
      attempts = all_stay old.attempts mid.attempts new.attempts started.attempt begins.least.free begins.others others (gone live);
    }

    -- it has ended
    tried : EndsOn honest words (reporter_of mid.config) changes (begun_with number hop started.places.items begins.message) new.records → IsDone honest words now (Try number hop) changes old new
    tried h = (
      h.later,
      record {
        does = inl (record {
          begun = mid.attempts;
          started = started;
          begins = begins;
          at = h.at;
          ended = inl (subst (λ reporter. Ends reporter changes h.later (begun_with number hop started.places.items begins.message) h.at) (ap (λ (c : Config). reporter_of c) config) h.ends);
        });
        keeps = h.keeps;
        beside = beside h.keeps.live;
      },
    )

    -- it has no outcome
    dropped : Keeps honest words new.records changes → IsDone honest words now (Try number hop) changes old new
    dropped keeps = (
      changes,
      record {
        does = inl (record { begun = mid.attempts; started = started; begins = begins; at = now; ended = inr refl });
        keeps = keeps;
        beside = beside keeps.live;
      },
    )

    -- it was handed on, and what is said of it then changes no more than the note
    pub handed_over : {X Y : Type 0} (pushed : Result Pushed LinkFault) (last : NodeState D) (result : Result X Y)
        → HandsOn honest words (reporter_of mid.config) changes (begun_with number hop started.places.items begins.message) new.records pushed
        → IsSameButNote new last → TellsDevice pushed result → WorksTo honest words now (Try number hop) changes old last result
    handed_over (Ok pushed.Ended) last result h same told = whatever_noted now last.records.noted (Try number hop) changes old new last result (tried h) same
    handed_over (Ok pushed.Unwritten) last result h same told = whatever_noted now last.records.noted (Try number hop) changes old new last result (tried h) same
    handed_over (Ok pushed.Lost) last result h same told = whatever_noted now last.records.noted (Try number hop) changes old new last result (tried h) same
    handed_over {X} {Y} (Err fault) last (Ok done) h same told =
        let begun : Told = begun_with number hop started.places.items begins.message in
        whatever_noted now {X = X} {Y = Y} last.records.noted (Try number hop) changes old new last (Ok done) (dropped (keeps_but (reporter_of mid.config) changes begun new.records fault h told)) same
    handed_over (Err fault) last (Err ended) h same told =
        inr (ap (λ (node : NodeState D). node.records.spool.live) same
        ∙ subst (λ (f : LinkFault). HandsOn honest words (reporter_of mid.config) changes (begun_with number hop started.places.items begins.message) new.records (Err f)) told h)

  module _ (now : ℕ) where
    -- after each of these works one more was done
    pub does_more : (works : List Work) (work : Work) (changes between later : List Change) (old middle new : NodeState D) → DoesEach honest words now works changes old between middle → DoesOne honest words now work between later middle new
        → DoesEach honest words now (works ++ work ∷ []) changes old later new
    does_more [] work changes between later old middle new done one =
        (later, new, subst (λ (list : List Change). DoesOne honest words now work list later old new) done.0 (subst (λ (node : NodeState D). DoesOne honest words now work between later node new) done.1 one), (refl, refl))
    does_more (first ∷ works) work changes between later old middle new done one =
        (done.0, done.1, done.2, does_more works work done.0 between later done.1 middle new done.3 one)

    -- the node keeps what the works left
    pub each_keeps : (works : List Work) (changes later : List Change) (old new : NodeState D) → Keeps honest words old.records changes → DoesEach honest words now works changes old later new → Keeps honest words new.records later
    each_keeps [] changes later old new keeps done =
        subst (λ (list : List Change). Keeps honest words new.records list) (sym done.0) (subst (λ (node : NodeState D). Keeps honest words node.records changes) (sym done.1) keeps)
    each_keeps (work ∷ works) changes later old new keeps done = each_keeps works done.0 later done.1 new done.2.keeps done.3

    -- the works before the first were done
    pub begins_with_none : (works : List Work) (changes : List Change) (node : NodeState D) → (later : List Change) × DoesEach honest words now (take 0 works) changes node later node
    begins_with_none works changes node = (changes, (refl, refl))

    -- one work more is the next
    next_work : (works : List Work) (at : ℕ) (work : Work) → at < length works → work ≡ get_or works at work → take (at + 1) works ≡ take at works ++ work ∷ []
    next_work works at work below is = rw add-one (take-suc works at work below ∙ ap (λ next. take at works ++ next ∷ []) (sym is))

    -- the next work was done too
    pub goes_further : (works : List Work) (at : ℕ) (work : Work) (changes : List Change) (old node new : NodeState D) → at < length works → work ≡ get_or works at work → Keeps honest words old.records changes
        → (later : List Change) × DoesEach honest words now (take at works) changes old later node → ((later : List Change) → Keeps honest words node.records later → IsDone honest words now work later node new)
        → (later : List Change) × DoesEach honest words now (take (at + 1) works) changes old later new
    goes_further works at work changes old node new below is keeps so_far one =
        let done = one so_far.0 (each_keeps (take at works) changes so_far.0 old node keeps so_far.1) in
        (done.0, subst (λ (list : List Work). DoesEach honest words now list changes old done.0 new) (sym (next_work works at work below is)) (does_more (take at works) work changes so_far.0 done.0 old node new so_far.1 done.1))

    -- the next work has ended them, where it was done or not
    pub stops_here : (works : List Work) (at : ℕ) (work : Work) (changes : List Change) (old node new : NodeState D) → at < length works → work ≡ get_or works at work → Keeps honest words old.records changes
        → (later : List Change) × DoesEach honest words now (take at works) changes old later node
        → ((later : List Change) → Keeps honest words node.records later → IsDone honest words now work later node new ⊎ (new.records.spool.live ≡ false))
        → DoesSome honest words now works changes old new
    stops_here works at work changes old node new below is keeps so_far one =
        elim (one so_far.0 (each_keeps (take at works) changes so_far.0 old node keeps so_far.1)) [
          | inl done ↦
              record {
                front = take (at + 1) works;
                rest = drop (at + 1) works;
                works_are = sym (take-append-drop (at + 1) works);
                later = done.0;
                middle = new;
                each = subst (λ (list : List Work). DoesEach honest words now list changes old done.0 new) (sym (next_work works at work below is)) (does_more (take at works) work changes so_far.0 done.0 old node new so_far.1 done.1);
                ends = inl refl;
              }
          | inr stopped ↦
              record {
                front = take at works;
                rest = drop at works;
                works_are = sym (take-append-drop at works);
                later = so_far.0;
                middle = node;
                each = so_far.1;
                ends = inr stopped;
              }
        ]

    -- all works were done
    pub all_done : (works : List Work) (at : ℕ) (changes : List Change) (old new : NodeState D) → length works ≤ at → (later : List Change) × DoesEach honest words now (take at works) changes old later new → (later : List Change) × DoesEach honest words now works changes old later new
    all_done works at changes old new end so_far = (so_far.0, subst (λ (list : List Work). DoesEach honest words now list changes old so_far.0 new) (take_all at works end) so_far.1)

    -- no work was done
    pub none_done : (works : List Work) (changes : List Change) (node : NodeState D) → DoesSome honest words now works changes node node
    none_done works changes node = record { front = []; rest = works; works_are = refl; later = changes; middle = node; each = (refl, refl); ends = inl refl }

    -- what is told by an error, where some of the works were done
    pub refused_by : {X Y : Type 0} (works : List Work) (changes : List Change) (old new : NodeState D) (result : Result X Y) → IsErr result → DoesSome honest words now works changes old new → WorksOff honest words now works changes old new result
    refused_by works changes old new (Ok x) is_err some = absurd (true≢false (sym is_err))
    refused_by works changes old new (Err e) is_err some = some

    -- the same of one work, where the device failed
    pub stopped_by : {X Y : Type 0} (work : Work) (changes : List Change) (old new : NodeState D) (result : Result X Y) → IsErr result → new.records.spool.live ≡ false → WorksTo honest words now work changes old new result
    stopped_by work changes old new (Ok x) is_err stopped = absurd (true≢false (sym is_err))
    stopped_by work changes old new (Err e) is_err stopped = inr stopped
