-- A node that stopped in the call in which it heard octets of a link.
use Rattle.std.proofs.Common.{◌≡◌, ℕ, List, [], Some, sym, subst, ap, ◌∙◌, arith}
use Rattle.std.specs.Prelude.{slice_get, slice_set}
use Rattle.relay_disk.specs.Device.{DiskWords}
use Rattle.relay_book.specs.declared.change.Change.{Change}
use Rattle.relay_node.specs.Node.{CutsTalk, NodeState}
use Rattle.relay_records.specs.Records.{IsStopped}
use Rattle.relay_world.specs.Bound.{IsBound}
use Rattle.relay_world.specs.Crashes.{CrashesHearing, GoesDown}
use Rattle.relay_world.specs.CrashRuns.{CrashingHappens}
use Rattle.relay_world.specs.Once.{RunsKeepAll}
use Rattle.relay_world.specs.Steps.{waiting_up}
use Rattle.relay_world.specs.World as world
use Rattle.relay_world.specs.World.{World}
use Rattle.relay_hosts.specs.declared.calls.Heard.TheVariants.{Stopped}
use Rattle.relay_hosts.specs.declared.host.Origin.TheVariants.{FromClient}
use Rattle.relay_events.specs.Hear.{IsCalledToHear, WaitsAt}
use Rattle.relay_events.specs.Happened.{HasHappened}
use Rattle.relay_events.specs.Relays.{AreBound}
use Rattle.relay_events.specs.Restart.{CrashesAt, IsCutShortAt, IsReadyToCrash, Restarts}
use Rattle.relay_hosts.specs.Room.{HasRoom, HasRoomFor, lines_to_come}
use Rattle.relay_events.specs.Step.{Carries, CrashesInHearing, Stops}
use Rattle.relay_events.proofs.CutShortLemmas.{cut_short as was_cut, goes_down, held_more, stopped_same}
use Rattle.relay_events.proofs.HearLemmas.{its_node, waits_there}
use Rattle.relay_events.proofs.HungLemmas.{hung_lines}
use Rattle.relay_events.proofs.RunLemmas.{both_happened, opened_happened, run_happened, still_bound}

module _ {D : Type 0} (honest : Type 0) (words : DiskWords D) (old called : World D) (number node count : ℕ)
    (waits : WaitsAt old number node) (calls : IsCalledToHear honest words old called number count Stopped) where
  pub node_is : calls.of.end.node ≡ node
  node_is = its_node honest words old called number node count waits calls.of

  pub host_at : slice_get old.hosts node ≡ Some calls.of.host
  host_at = subst (λ n. slice_get old.hosts n ≡ Some calls.of.host) node_is calls.of.host_at

  called_is : called ≡ record old { hosts = slice_set old.hosts node calls.now }
  called_is =
      calls.new_is
      ∙ ap (λ (n : ℕ). let new : World D = record old { hosts = slice_set old.hosts n calls.now } in new) node_is

  pub cut_short : IsCutShortAt called node
  cut_short =
      was_cut honest words old called node calls.of.host calls.now host_at called_is calls.hears.before calls.hears.after
      calls.hears.runs calls.hears.failed.live calls.hears.noted calls.hears.note_is

  module _ (down : World D) (crashes : CrashesAt honest words called down node (FromClient number)) where
    pub same : calls.hears.after ≡ crashes.before
    same =
        stopped_same honest words old called node calls.of.host calls.now host_at called_is calls.hears.before
        calls.hears.after calls.hears.runs (FromClient number) down crashes

    pub fell : GoesDown old down node calls.of.host crashes.disk
        (Some (record { note = crashes.noted; origin = world.FromClient number }))
    fell =
        goes_down honest words old called node calls.of.host calls.now host_at called_is calls.hears.before
        calls.hears.after calls.hears.runs (FromClient number) down crashes

    abbrev pub crash_heard : CrashesHearing honest words old down number count
    crash_heard = record {
      of = record calls.of { before = calls.hears.before; up = calls.hears.runs.up };
      stopped = crashes.before.records;
      failed = subst (λ (n : NodeState D). IsStopped words 4 calls.hears.before.records n.records) same calls.hears.failed;
      cuts = λ changes said keeps says. subst
          (λ (n : NodeState D). CutsTalk honest words calls.hears.before.config changes calls.of.end.peer old.clock said
          (waiting_up count calls.of.link) calls.hears.before.records n.records)
          same (calls.hears.cuts changes calls.of.end.peer said keeps says);
      noted = crashes.noted;
      note_is = crashes.note_is;
      disk = crashes.disk;
      left = crashes.left;
      down = subst
          (λ (n : ℕ). GoesDown old down n calls.of.host crashes.disk
          (Some (record { note = crashes.noted; origin = world.FromClient number }))) (sym node_is) fell;
    }

    pub crash_happened : CrashingHappens honest words → (lists : List (List Change)) → IsBound honest words old lists
        → HasHappened honest words old down
    crash_happened happens lists bound = run_happened honest words [] 2 old down ((happens old down lists number count bound).0 crash_heard)

    crash_room : (free : ℕ) → HasRoomFor old 1 free → HasRoom down free
    crash_room free room =
        let less = hung_lines node old.attempts in
        let attempts = ap (λ (w : World D). lines_to_come w.attempts) fell.new_is in
        let held = held_more honest words old called node calls.of.host calls.now host_at called_is calls.hears.before
        calls.hears.after calls.hears.runs (FromClient number) down crashes in
        omega (arith, room, less, attempts, held)

    crash_bound : honest → RunsKeepAll honest words → CrashingHappens honest words → AreBound honest words old
        → AreBound honest words down
    crash_bound is_honest keeps happens bound =
        still_bound honest words is_honest keeps old down bound (crash_happened happens bound.lists bound.bound)

  pub ready_to_crash : honest → RunsKeepAll honest words → CrashingHappens honest words → AreBound honest words old → (free : ℕ)
      → HasRoomFor old 1 free → IsReadyToCrash honest words called node (FromClient number) free
  ready_to_crash is_honest keeps happens bound free room down crashes =
      (crash_bound down crashes is_honest keeps happens bound, crash_room down crashes free room)

  module _ (new : World D) (restarts : Restarts honest words called new node (FromClient number)) where
    pub restart_carries : Carries honest words old number node count new (Stops node)
    restart_carries =
        CrashesInHearing restarts.down (crash_heard restarts.down restarts.crashes) node_is
        (waits_there honest words old called number node count waits calls.of) restarts.opened

    pub restart_happened : CrashingHappens honest words → (lists : List (List Change)) → IsBound honest words old lists
        → HasHappened honest words old new
    restart_happened happens lists bound =
        both_happened honest words old restarts.down new (crash_happened restarts.down restarts.crashes happens lists bound)
        (opened_happened honest words restarts.down new node restarts.opened)
