-- An attempt whose node was told of the loss of its link: it has ended, or its node stopped in that call.
use Rattle.std.proofs.Common.{◌≡◌, ◌<◌, ◌≤◌, ◌+◌, ◌-◌, ◌++◌, ℕ, List, [], length, refl, sym, subst, ap, ◌∙◌, arith}
use Rattle.std.proofs.lemmas.List.{length-map}
use Rattle.std.proofs.lemmas.Option.{same_Some}
use Rattle.relay_disk.specs.Device.{DiskWords}
use Rattle.relay_book.specs.declared.change.Change.{Change}
use Rattle.relay_book.specs.declared.fate.PlaceStep.{PlaceStep}
use Rattle.relay_records.specs.declared.noted.Noted.{Noted}
use Rattle.relay_records.specs.Records.{IsStopped, Keeps}
use Rattle.relay_attempts.specs.Reply.{CutsLoss}
use Rattle.relay_course.specs.VerdictTable.{all_later}
use Rattle.relay_node.specs.Attempts.{Tells}
use Rattle.relay_node.specs.Node.{NodeState}
use Rattle.relay_world.specs.declared.attempt.Attempt.{Attempt}
use Rattle.relay_world.specs.declared.attempt.Fate.TheVariants.{Lost}
use Rattle.relay_world.specs.declared.line.Line.{Line}
use Rattle.relay_world.specs.Bound.{IsBound}
use Rattle.relay_world.specs.Crashes.{CrashesLosing}
use Rattle.relay_world.specs.CrashRuns.{CrashingHappens}
use Rattle.relay_world.specs.Ledger.{left_lines, report_told}
use Rattle.relay_world.specs.Once.{Loses as LosesEvent, RunsKeepAll}
use Rattle.relay_world.specs.Steps.{HasLost}
use Rattle.relay_world.specs.World.{Host, World}
use Rattle.relay_hosts.specs.declared.calls.ToldLoss.TheVariants.{Ended, Stopped}
use Rattle.relay_events.specs.declared.client_end.ClientEnd.{ClientEnd}
use Rattle.relay_hosts.specs.declared.host.Origin.TheVariants.{FromLoss}
use Rattle.relay_hosts.specs.declared.recorded.Recorded.{Recorded}
use Rattle.relay_events.specs.ClientEnd.{EndsBy, IsCalledToLose, RunsThere}
use Rattle.relay_events.specs.Happened.{HasHappened}
use Rattle.relay_events.specs.Relays.{AreBound}
use Rattle.relay_events.specs.Restart.{CrashesAt, IsCutShortAt, IsReadyToCrash, Restarts}
use Rattle.relay_hosts.specs.Room.{HasRoom}
use Rattle.relay_events.specs.Told.{CrashesTold, ends_of}
use Rattle.relay_events.proofs.ClientEndLemmas.{crash_fewer, crash_room, ended_is, its, over, was_is}
use Rattle.relay_events.proofs.CutShortLemmas.{cut_short as was_cut, goes_down, note_there, stopped_same}
use Rattle.relay_events.proofs.LossLemmas.{attempt_of, few_left, few_recorded, has_lost, lines_room, over_fewer, over_room, same_before}
use Rattle.relay_events.proofs.RunLemmas.{both_happened, one_happened, opened_happened, run_happened, still_bound}
use Rattle.relay_report.specs.Report.{reporter_of}

module _ {D : Type 0} (honest : Type 0) (words : DiskWords D) (old called : World D) (number : ℕ) (end : ClientEnd)
    (runs : RunsThere honest words old number end) where
  -- it has ended
  module _ (change : ℕ) (recorded : Recorded)
      (calls : IsCalledToLose honest words old called end.node end.slot (Ended change recorded)) where
    same : calls.was ≡ runs.on.host
    same = was_is honest words old called number end runs calls.was calls.now calls.was_at calls.new_is

    abbrev pub attempt : Attempt
    attempt = its honest words old called number end runs calls.was calls.now calls.was_at calls.new_is

    abbrev pub lines : List Line
    lines = left_lines end.node end.message number (report_told change recorded.report) recorded.left.items

    few : length recorded.left.items ≤ length attempt.places.items
    few =
        few_recorded honest words old number end.place end.slot attempt runs.on calls.was calls.now same change recorded
        calls.tells

    -- there is room for its lines
    pub room_for : (len capacity : ℕ) → len ≤ capacity → HasRoom old (capacity - len)
        → len + length recorded.left.items ≤ capacity
    room_for len capacity fits room =
        lines_room honest words old number end.place end.slot attempt runs.on calls.was calls.now same len capacity
        (length recorded.left.items) fits few room

    module _ (new : World D) (ends : EndsBy called new end.place (Lost change) lines) where
      new_is : new ≡ over honest words old called number end runs calls.was calls.now calls.was_at calls.new_is (Lost change)
          (old.ledger ++ lines)
      new_is =
          ended_is honest words old called number end runs calls.was calls.now calls.was_at calls.new_is new (Lost change) lines
          ends

      pub has_ended : HasLost honest words old new number change
      has_ended =
          subst (λ (w : World D). HasLost honest words old w number change) (sym new_is)
          (has_lost honest words old number end.place end.slot attempt runs.on calls.was calls.now same change recorded
          (record attempt { fate = Lost change }) (old.ledger ++ lines) refl refl calls.tells)

      pub ended_happened : HasHappened honest words old new
      ended_happened = one_happened honest words old new (LosesEvent number change has_ended)

      pub ended_room : (free free_now : ℕ) → free ≤ free_now + length recorded.left.items → HasRoom old free
          → HasRoom new free_now
      ended_room free free_now most room =
          subst (λ (w : World D). HasRoom w free_now) (sym new_is)
          (over_room honest words old number end.place end.slot attempt runs.on calls.was calls.now same
          (record attempt { fate = Lost change }) (Lost change) (old.ledger ++ lines) _ (length recorded.left.items) free free_now
          refl refl (ap (λ (h : Host D). h.state) calls.tells.notes.new_is) few most room)

      pub ended_fewer : ends_of new < ends_of old
      ended_fewer =
          subst (λ (w : World D). ends_of w < ends_of old) (sym new_is)
          (over_fewer honest words old number end.place end.slot attempt runs.on calls.was calls.now same
          (record attempt { fate = Lost change }) (Lost change) (old.ledger ++ lines) refl refl)

  -- its node stopped
  module _ (calls : IsCalledToLose honest words old called end.node end.slot Stopped) where
    abbrev it : Attempt
    it = its honest words old called number end runs calls.was calls.now calls.was_at calls.new_is

    host_is : calls.was ≡ runs.on.host
    host_is = was_is honest words old called number end runs calls.was calls.now calls.was_at calls.new_is

    pub cut_short : IsCutShortAt called end.node
    cut_short =
        was_cut honest words old called end.node calls.was calls.now calls.was_at calls.new_is calls.tells.before calls.tells.after
        calls.tells.runs calls.tells.failed.live calls.tells.noted calls.tells.note_is

    module _ (down : World D) (crashes : CrashesAt honest words called down end.node (FromLoss number end.place end.message)) where
      after_same : calls.tells.after ≡ crashes.before
      after_same =
          stopped_same honest words old called end.node calls.was calls.now calls.was_at calls.new_is calls.tells.before
          calls.tells.after calls.tells.runs (FromLoss number end.place end.message) down crashes

      pub crashes_losing : (crash : CrashesLosing honest words old down number) × (crash.of.attempt.node ≡ end.node)
      crashes_losing = (
        record {
          of = attempt_of honest words old number end.place end.slot it runs.on calls.was calls.now host_is calls.tells.before
              calls.tells.runs.up;
          stopped = crashes.before.records;
          failed = subst (λ (n : NodeState D). IsStopped words 4 calls.tells.before.records n.records) after_same
              calls.tells.failed;
          cuts = λ changes told keeps tells. subst
              (λ (n : NodeState D). CutsLoss honest words (reporter_of calls.tells.before.config) old.clock changes end.slot told n.records)
              after_same (calls.tells.cuts changes told keeps tells);
          crash = record {
            noted = crashes.noted;
            note_is = crashes.note_is;
            disk = crashes.disk;
            left = crashes.left;
            down = goes_down honest words old called end.node calls.was calls.now calls.was_at calls.new_is calls.tells.before
                calls.tells.after calls.tells.runs (FromLoss number end.place end.message) down crashes;
          };
        },
        refl,
      )

      crash_happened : CrashingHappens honest words → (lists : List (List Change)) → IsBound honest words old lists
          → HasHappened honest words old down
      crash_happened happens lists bound = run_happened honest words [] 2 old down ((happens old down lists number 0 bound).2 crashes_losing.0)

      few_noted : length crashes.noted.left.items ≤ length it.places.items
      few_noted =
          let on = runs.on in
          let before = same_before honest words old number end.place end.slot it on calls.was calls.now host_is calls.tells.before
          calls.tells.runs.up in
          let cut = calls.tells.cuts on.changes on.told
          (subst (λ (n : NodeState D). Keeps honest words n.records on.changes) before on.keeps)
          (subst (λ (n : NodeState D). Tells n.config.host on.changes n.attempts end.slot on.told) before on.tells) in
          let noted = cut.cuts.cuts.noted in
          let one : crashes.noted ≡ noted.note =
          same_Some crashes.noted noted.note
          (sym (note_there honest words old called end.node calls.was calls.now calls.was_at calls.new_is calls.tells.before
          calls.tells.after calls.tells.runs (FromLoss number end.place end.message) down crashes) ∙ noted.is) in
          let left = ap (λ (n : Noted). length n.left.items) one ∙ ap (λ (l : List (ℕ × PlaceStep)). length l) noted.left in
          let few = few_left on.changes on.told.message old.clock on.told.hop on.told.places (all_later on.told.places)
          cut.cuts.report in
          let places = ap (λ (l : List ℕ). length l) on.places in
          omega (arith, left, few, places)

      down_room : (free : ℕ) → HasRoom old free → HasRoom down free
      down_room free room =
          let lines : length (left_lines end.node end.message number (report_told crashes.noted.number crashes.noted.report)
          crashes.noted.left.items) ≡ length crashes.noted.left.items =
          length-map crashes.noted.left.items _ in
          let few = few_noted in
          crash_room honest words old called number end runs calls.was calls.now calls.was_at calls.new_is calls.tells.before
          calls.tells.after calls.tells.runs (FromLoss number end.place end.message) down crashes free
          (subst (λ n. n ≤ length it.places.items) (sym lines) few) room

    pub ready_to_crash : honest → RunsKeepAll honest words → CrashingHappens honest words → AreBound honest words old → (free : ℕ)
        → HasRoom old free → IsReadyToCrash honest words called end.node (FromLoss number end.place end.message) free
    ready_to_crash is_honest keeps happens bound free room down crashes = (
      still_bound honest words is_honest keeps old down bound (crash_happened down crashes happens bound.lists bound.bound),
      down_room down crashes free room,
    )

    module _ (new : World D)
        (restarts : Restarts honest words called new end.node (FromLoss number end.place end.message)) where
      pub crashes_told : CrashesTold honest words old new number end.node
      crashes_told =
          let crash = crashes_losing restarts.down restarts.crashes in
          record { down = restarts.down; crash = crash.0; its_node = crash.1; opened = restarts.opened }

      pub restart_happened : CrashingHappens honest words → (lists : List (List Change)) → IsBound honest words old lists
          → HasHappened honest words old new
      restart_happened happens lists bound =
          both_happened honest words old restarts.down new (crash_happened restarts.down restarts.crashes happens lists bound)
          (opened_happened honest words restarts.down new end.node restarts.opened)

      pub restart_fewer : ends_of new < ends_of old
      restart_fewer =
          let less = crash_fewer honest words old called number end runs calls.was calls.now calls.was_at calls.new_is
          calls.tells.before calls.tells.after calls.tells.runs (FromLoss number end.place end.message) restarts.down
          restarts.crashes in
          let fewer = restarts.fewer in
          omega (arith, less, fewer)
