-- An attempt whose node was called to read replies: it has read them, or its node stopped in that call.
use Rattle.std.proofs.Common.{◌≡◌, ◌≤◌, ◌+◌, ◌-◌, ◌++◌, ℕ, true, false, List, [], length, Option, Some, refl, sym, subst, ap, ◌∙◌, arith}
use Rattle.std.specs.Prelude.{slice_get, slice_set}
use Rattle.std.proofs.lemmas.List.{length-map}
use Rattle.std.proofs.lemmas.Option.{same_Some}
use Rattle.relay_disk.specs.Device.{DiskWords}
use Rattle.relay_book.specs.declared.change.Change.{Change}
use Rattle.relay_book.specs.declared.fate.PlaceStep.{PlaceStep}
use Rattle.relay_records.specs.declared.noted.Noted.{Noted}
use Rattle.relay_records.specs.Records.{IsStopped, Keeps}
use Rattle.relay_attempts.specs.declared.reply.Replied.{Replied}
use Rattle.relay_attempts.specs.Reply.{CutsReply}
use Rattle.relay_node.specs.Attempts.{Tells}
use Rattle.relay_node.specs.Node.{NodeState}
use Rattle.relay_world.specs.declared.attempt.Attempt.{Attempt}
use Rattle.relay_world.specs.declared.link.Link.{Link}
use Rattle.relay_world.specs.Bound.{IsBound}
use Rattle.relay_world.specs.Crashes.{CrashesReading}
use Rattle.relay_world.specs.CrashRuns.{CrashingHappens}
use Rattle.relay_world.specs.Ledger.{left_lines, report_told}
use Rattle.relay_world.specs.Once.{RunsKeepAll}
use Rattle.relay_world.specs.Steps.{waiting_down}
use Rattle.relay_world.specs.World.{World, link_at}
use Rattle.relay_events.specs.declared.act.Act.{Act}
use Rattle.relay_hosts.specs.declared.calls.Read.{Read}
use Rattle.relay_hosts.specs.declared.calls.Read.TheVariants.{Done, Stopped}
use Rattle.relay_events.specs.declared.client_end.ClientEnd.{ClientEnd}
use Rattle.relay_hosts.specs.declared.host.Origin.TheVariants.{FromReplies}
use Rattle.relay_hosts.specs.declared.recorded.Recorded.{Recorded}
use Rattle.relay_events.specs.Act.{did_of}
use Rattle.relay_hosts.specs.Call.{Reads, StopsReading}
use Rattle.relay_events.specs.Carried.{IsAnswered, RunsAndWaits, TakesReplies, TriesWhole}
use Rattle.relay_hosts.specs.Replied.{replied_attempt, replied_lines}
use Rattle.relay_events.specs.ClientEnd.{HasMore, IsCalledToRead, RunsThere}
use Rattle.relay_events.specs.Happened.{HasHappened}
use Rattle.relay_events.specs.Relays.{AreBound}
use Rattle.relay_events.specs.Restart.{CrashesAt, IsCutShortAt, IsReadyToCrash, Restarts}
use Rattle.relay_hosts.specs.Room.{HasRoom}
use Rattle.relay_events.specs.Step.{Carries, CrashesInReading, Stops}
use Rattle.relay_events.proofs.CarriedLemmas.{attempt_node, carried_to}
use Rattle.relay_events.proofs.ClientEndLemmas.{crash_room, its, still_there, was_is}
use Rattle.relay_events.proofs.CutShortLemmas.{cut_short as was_cut, goes_down, note_there, stopped_same}
use Rattle.relay_events.proofs.LossLemmas.{attempt_of, few_left, lines_room, same_before}
use Rattle.relay_events.proofs.ReadLemmas.{answered_carries, answered_happened, carried_world, few_replied, read_room, used_within}
use Rattle.relay_events.proofs.RunLemmas.{both_happened, opened_happened, run_happened, still_bound}
use Rattle.relay_report.specs.Report.{reporter_of}

module _ {D : Type 0} (honest : Type 0) (words : DiskWords D) (old called : World D) (number count : ℕ) (end : ClientEnd)
    (runs : RunsThere honest words old number end) where
  module _ (read : Read) (calls : IsCalledToRead honest words old called number end.node end.slot count read) where
    abbrev pub attempt : Attempt
    attempt = its honest words old called number end runs calls.was calls.now calls.was_at calls.new_is

    pub host_is : calls.was ≡ runs.on.host
    host_is = was_is honest words old called number end runs calls.was calls.now calls.was_at calls.new_is

    pub link_same : calls.link ≡ runs.on.link
    link_same = same_Some calls.link runs.on.link (sym calls.link_is ∙ runs.on.link_is)

    pub link_there : link_at called.links number ≡ Some runs.on.link
    link_there = ap (λ (w : World D). link_at w.links number) calls.new_is ∙ runs.on.link_is

    pub there : slice_get called.attempts end.place ≡ Some attempt
    there = still_there honest words old called number end runs calls.was calls.now calls.was_at calls.new_is

    pub its_whole : TriesWhole old number → runs.on.link.broken ≡ false
    its_whole tries = ap (λ (l : Link). l.broken) (same_Some runs.on.link tries.link (sym runs.on.link_is ∙ tries.link_is)) ∙ tries.whole

    pub its_node : (node : ℕ) → RunsAndWaits old number node true → end.node ≡ node
    its_node node waits =
        attempt_node old number node runs.on.link runs.on.link_is end.place runs.on.client attempt runs.on.attempt_at waits.at

  -- replies were read
  module _ (replied : Replied) (recorded : Option Recorded)
      (calls : IsCalledToRead honest words old called number end.node end.slot count (Done replied recorded)) where
    abbrev it : Attempt
    it = attempt (Done replied recorded) calls

    same : calls.was ≡ runs.on.host
    same = host_is (Done replied recorded) calls

    reads : Reads honest words old.clock calls.was calls.now end.slot (waiting_down count runs.on.link) replied recorded
    reads =
        subst
        (λ (l : Link). Reads honest words old.clock calls.was calls.now end.slot (waiting_down count l) replied recorded)
        (link_same (Done replied recorded) calls) calls.reads

    pub has_more : AreBound honest words old → HasMore called number replied.used
    has_more bound =
        let within = (bound.bound.reads number runs.on.link runs.on.link_is).down in
        record {
          link = runs.on.link;
          link_is = link_there (Done replied recorded) calls;
          within = used_within runs.on.link.down count runs.on.link.down_read replied.used within reads.used;
        }

    few : length (replied_lines number it replied.change recorded) ≤ length it.places.items
    few =
        few_replied honest words old number end.place end.slot it runs.on calls.was calls.now same count replied recorded reads

    pub room_for : (len capacity : ℕ) → len ≤ capacity → HasRoom old (capacity - len) → (one : Attempt)
        → slice_get called.attempts end.place ≡ Some one
        → len + length (replied_lines number one replied.change recorded) ≤ capacity
    room_for len capacity fits room one one_there =
        subst (λ a. len + length (replied_lines number a replied.change recorded) ≤ capacity)
        (same_Some it one (sym (there (Done replied recorded) calls) ∙ one_there))
        (lines_room honest words old number end.place end.slot it runs.on calls.was calls.now same len capacity
        (length (replied_lines number it replied.change recorded)) fits few room)

    module _ (new : World D) (did : Act) (takes : TakesReplies called new number end.place replied recorded did) where
      abbrev ended : Attempt
      ended = replied_attempt it replied.change

      abbrev made : World D
      made = carried_world honest words old number end.place end.slot it runs.on calls.was calls.now same count replied recorded
          reads ended (old.ledger ++ replied_lines number it replied.change recorded) refl refl takes.moved

      new_is : new ≡ made
      new_is =
          takes.new_is
          ∙ ap (λ (w : World D). let next : World D = record w {
            links = slice_set w.links (number - 1) takes.moved;
            attempts = slice_set w.attempts end.place (replied_attempt takes.attempt replied.change);
            ledger = w.ledger ++ replied_lines number takes.attempt replied.change recorded;
          } in next) calls.new_is
          ∙ ap (λ (a : Attempt). let next : World D = record old {
            hosts = slice_set old.hosts end.node calls.now;
            links = slice_set old.links (number - 1) takes.moved;
            attempts = slice_set old.attempts end.place (replied_attempt a replied.change);
            ledger = old.ledger ++ replied_lines number a replied.change recorded;
          } in next) (same_Some takes.attempt it (sym takes.attempt_at ∙ there (Done replied recorded) calls))

      answered : IsAnswered runs.on.link takes.moved replied did
      answered =
          subst (λ (l : Link). IsAnswered l takes.moved replied did)
          (same_Some takes.link runs.on.link (sym takes.link_is ∙ link_there (Done replied recorded) calls)) takes.answered

      pub done_carries : (node : ℕ) → RunsAndWaits old number node true → TriesWhole old number
          → Carries honest words old number node count new (did_of did)
      done_carries node waits tries =
          subst (λ (w : World D). Carries honest words old number node count w (did_of did)) (sym new_is)
          (answered_carries honest words old number end.place end.slot it runs.on calls.was calls.now same count replied recorded
          reads ended (old.ledger ++ replied_lines number it replied.change recorded) refl refl takes.moved did answered
          (its_whole (Done replied recorded) calls tries) node waits)

      pub done_happened : TriesWhole old number → HasHappened honest words old new
      done_happened tries =
          subst (λ (w : World D). HasHappened honest words old w) (sym new_is)
          (answered_happened honest words old number end.place end.slot it runs.on calls.was calls.now same count replied recorded
          reads ended (old.ledger ++ replied_lines number it replied.change recorded) refl refl takes.moved did answered
          (its_whole (Done replied recorded) calls tries))

      pub done_room : (len capacity len_now capacity_now : ℕ) → HasRoom old (capacity - len) → capacity ≤ capacity_now
          → ((one : Attempt) → slice_get called.attempts end.place ≡ Some one
          → len_now ≡ len + length (replied_lines number one replied.change recorded)) → HasRoom new (capacity_now - len_now)
      done_room len capacity len_now capacity_now room more grown =
          let long = grown it (there (Done replied recorded) calls) in
          subst (λ (w : World D). HasRoom w (capacity_now - len_now)) (sym new_is)
          (read_room honest words old number end.place end.slot it runs.on calls.was calls.now same count replied recorded reads
          ended (old.ledger ++ replied_lines number it replied.change recorded) (capacity - len) (capacity_now - len_now) refl
          (omega (arith, long, more)) room)

  -- its node stopped
  module _ (calls : IsCalledToRead honest words old called number end.node end.slot count Stopped) where
    abbrev halted : Attempt
    halted = attempt Stopped calls

    was_same : calls.was ≡ runs.on.host
    was_same = host_is Stopped calls

    stops : StopsReading honest words old.clock calls.was calls.now end.slot (waiting_down count runs.on.link)
    stops =
        subst (λ (l : Link). StopsReading honest words old.clock calls.was calls.now end.slot (waiting_down count l))
        (link_same Stopped calls) calls.reads

    pub cut_short : IsCutShortAt called end.node
    cut_short =
        was_cut honest words old called end.node calls.was calls.now calls.was_at calls.new_is stops.before stops.after stops.runs
        stops.failed.live stops.noted stops.note_is

    module _ (down : World D)
        (crashes : CrashesAt honest words called down end.node (FromReplies number end.place end.message)) where
      after_same : stops.after ≡ crashes.before
      after_same =
          stopped_same honest words old called end.node calls.was calls.now calls.was_at calls.new_is stops.before stops.after
          stops.runs (FromReplies number end.place end.message) down crashes

      abbrev crashes_reading : CrashesReading honest words old down number count
      crashes_reading = record {
        of = attempt_of honest words old number end.place end.slot halted runs.on calls.was calls.now was_same stops.before
            stops.runs.up;
        stopped = crashes.before.records;
        failed = subst (λ (n : NodeState D). IsStopped words 4 stops.before.records n.records) after_same stops.failed;
        cuts = λ changes told keeps tells. subst
            (λ (n : NodeState D). CutsReply honest words (reporter_of stops.before.config) old.clock changes end.slot told
            (waiting_down count runs.on.link) n.records) after_same (stops.cuts changes told keeps tells);
        crash = record {
          noted = crashes.noted;
          note_is = crashes.note_is;
          disk = crashes.disk;
          left = crashes.left;
          down = goes_down honest words old called end.node calls.was calls.now calls.was_at calls.new_is stops.before stops.after
              stops.runs (FromReplies number end.place end.message) down crashes;
        };
      }

      crash_happened : CrashingHappens honest words → (lists : List (List Change)) → IsBound honest words old lists
          → HasHappened honest words old down
      crash_happened happens lists bound = run_happened honest words [] 2 old down ((happens old down lists number count bound).1 crashes_reading)

      few_noted : length crashes.noted.left.items ≤ length halted.places.items
      few_noted =
          let on = runs.on in
          let before = same_before honest words old number end.place end.slot halted on calls.was calls.now was_same stops.before
          stops.runs.up in
          let cut = stops.cuts on.changes on.told (subst (λ (n : NodeState D). Keeps honest words n.records on.changes) before on.keeps)
          (subst (λ (n : NodeState D). Tells n.config.host on.changes n.attempts end.slot on.told) before on.tells) in
          let noted = cut.cuts.cuts.noted in
          let one : crashes.noted ≡ noted.note =
          same_Some crashes.noted noted.note
          (sym (note_there honest words old called end.node calls.was calls.now calls.was_at calls.new_is stops.before stops.after
          stops.runs (FromReplies number end.place end.message) down crashes) ∙ noted.is) in
          let left = ap (λ (n : Noted). length n.left.items) one ∙ ap (λ (l : List (ℕ × PlaceStep)). length l) noted.left in
          let few = few_left on.changes on.told.message old.clock on.told.hop on.told.places cut.ends.verdicts cut.cuts.report in
          let places = ap (λ (l : List ℕ). length l) on.places in
          omega (arith, left, few, places)

      down_room : (free : ℕ) → HasRoom old free → HasRoom down free
      down_room free room =
          let lines : length (left_lines end.node end.message number (report_told crashes.noted.number crashes.noted.report)
          crashes.noted.left.items) ≡ length crashes.noted.left.items =
          length-map crashes.noted.left.items _ in
          let few = few_noted in
          crash_room honest words old called number end runs calls.was calls.now calls.was_at calls.new_is stops.before stops.after
          stops.runs (FromReplies number end.place end.message) down crashes free
          (subst (λ n. n ≤ length halted.places.items) (sym lines) few) room

    pub ready_to_crash : honest → RunsKeepAll honest words → CrashingHappens honest words → AreBound honest words old → (free : ℕ)
        → HasRoom old free → IsReadyToCrash honest words called end.node (FromReplies number end.place end.message) free
    ready_to_crash is_honest keeps happens bound free room down crashes = (
      still_bound honest words is_honest keeps old down bound (crash_happened down crashes happens bound.lists bound.bound),
      down_room down crashes free room,
    )

    module _ (new : World D)
        (restarts : Restarts honest words called new end.node (FromReplies number end.place end.message)) where
      pub crash_carries : (node : ℕ) → RunsAndWaits old number node true
          → Carries honest words old number node count new (Stops end.node)
      crash_carries node waits =
          let same = its_node Stopped calls node waits in
          let here = subst (λ n. RunsAndWaits old number n true) (sym same) waits in
          subst (λ n. Carries honest words old number n count new (Stops end.node)) same
          (CrashesInReading restarts.down (crashes_reading restarts.down restarts.crashes)
          (carried_to old number end.node runs.on.link runs.on.link_is end.place runs.on.client halted runs.on.attempt_at true here)
          restarts.opened)

      pub restart_happened : CrashingHappens honest words → (lists : List (List Change)) → IsBound honest words old lists
          → HasHappened honest words old new
      restart_happened happens lists bound =
          both_happened honest words old restarts.down new (crash_happened restarts.down restarts.crashes happens lists bound)
          (opened_happened honest words restarts.down new end.node restarts.opened)
