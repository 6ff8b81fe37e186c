-- A node that writes its spool anew, refuses to, or stops in that.
use Rattle.std.proofs.Common.{inr, ◌≡◌, ℕ, [], None, Ok, Err, refl, sym, subst, ap, ◌∙◌, arith}
use Rattle.std.specs.Prelude.{slice_get, slice_set}
use Rattle.std.proofs.lemmas.List.{length-set}
use Rattle.relay_disk.specs.Device.{DiskWords}
use Rattle.relay_records.specs.declared.fault.NodeFault.{NodeFault}
use Rattle.relay_world.specs.GivingUp.{NoHop}
use Rattle.relay_world.specs.Crashes.{CrashesCompacting, let_go}
use Rattle.relay_world.specs.CrashRuns.{RestingCrashHappens}
use Rattle.relay_world.specs.Once.{GoesOn, RunsKeepAll}
use Rattle.relay_world.specs.Steps.{IsPut}
use Rattle.relay_world.specs.Stops.{HasCompacted, StaysUp}
use Rattle.relay_world.specs.World as world
use Rattle.relay_world.specs.World.{Host, World}
use Rattle.relay_hosts.specs.declared.compact.Compacted.TheVariants as compacted
use Rattle.relay_events.specs.declared.event.Event.TheVariants.{Compact}
use Rattle.relay_events.specs.declared.seen.Seen.TheVariants as seen
use Rattle.relay_events.specs.Compact.{IsCalledToCompact}
use Rattle.relay_hosts.specs.Host.{holds_up}
use Rattle.relay_events.specs.FirstFault.{unless_up}
use Rattle.relay_events.specs.Happened.{HasHappened}
use Rattle.relay_events.specs.Relays.{AreBound}
use Rattle.relay_events.specs.Restart.{IsDownAt}
use Rattle.relay_hosts.specs.Room.{HasRoom, lines_held, lines_left, lines_to_come}
use Rattle.relay_events.specs.Step.{CompactsSpool, Refuses, RefusesToCompact, Shows, Steps, fault_of}
use Rattle.relay_events.specs.Told.{LearnsOfBreaks}
use Rattle.relay_events.proofs.GiveUpLemmas.{called_same}
use Rattle.relay_events.proofs.HungLemmas.{hung_lines}
use Rattle.relay_events.proofs.PlaceLemmas.{value_put}
use Rattle.relay_events.proofs.ReopenLemmas.{held_put}
use Rattle.relay_events.proofs.RunLemmas.{one_happened, run_happened, still_bound}
use Rattle.relay_events.proofs.StepLemmas.{told_already}

module _ {D : Type 0} (honest : Type 0) (words : DiskWords D) (old called : World D) (node : ℕ) where
  -- the spool is written anew
  module _ (size : ℕ) (calls : IsCalledToCompact honest words old called node (compacted.Done size)) where
    abbrev called_world : World D
    called_world = record old { hosts = slice_set old.hosts node calls.now }

    abbrev stays_up : StaysUp honest words old called_world node
    stays_up = record {
      host = calls.was;
      host_at = calls.was_at;
      before = calls.rewrites.before;
      up = calls.rewrites.runs.up;
      after = calls.rewrites.after;
      noted = calls.rewrites.noted;
      keeps = calls.rewrites.keeps;
      config = calls.rewrites.runs.config;
      seats = calls.rewrites.seats;
      attempts = calls.rewrites.attempts;
      hosts = subst (λ h. IsPut old.hosts (slice_set old.hosts node calls.now) node h) calls.rewrites.runs.new_is
          (value_put old.hosts node calls.was calls.now calls.was_at);
      rest = (refl, refl, refl, refl, length-set old.hosts node calls.now);
    }

    abbrev has_compacted : HasCompacted honest words old called_world node
    has_compacted = record { stays = stays_up; compacts = calls.rewrites.compacts; queue = calls.rewrites.queue }

    pub rewritten_steps : unless_up old node None ≡ None → LearnsOfBreaks old
        → Steps honest words old (Compact node) called (Ok (seen.Compacted node size))
    rewritten_steps none told =
        subst (λ (w : World D). Steps honest words old (Compact node) w (Ok (seen.Compacted node size))) (sym calls.new_is)
        (subst (λ (n : ℕ). Steps honest words old (Compact node) called_world (Ok (seen.Compacted node n)))
        (sym calls.rewrites.size_is) (
          none,
          (
            called_world,
            (
              Shows (seen.Compacted node calls.rewrites.after.records.spool.size),
              CompactsSpool has_compacted,
              (told_already honest words called_world told, refl),
            ),
          ),
        ))

    pub rewritten_happened : HasHappened honest words old called
    rewritten_happened =
        subst (λ (w : World D). HasHappened honest words old w) (sym calls.new_is)
        (one_happened honest words old called_world (GoesOn node stays_up))

    pub rewritten_bound : honest → RunsKeepAll honest words → AreBound honest words old → AreBound honest words called
    rewritten_bound is_honest keeps bound =
        still_bound honest words is_honest keeps old called bound rewritten_happened

    pub rewritten_told : LearnsOfBreaks old → LearnsOfBreaks called
    rewritten_told told = subst (λ (w : World D). LearnsOfBreaks w) (sym calls.new_is) told

    pub rewritten_room : (free : ℕ) → HasRoom old free → HasRoom called free
    rewritten_room free room =
        let put = held_put old.hosts node 0 node calls.was calls.now (omega arith) calls.was_at in
        let none : lines_held node calls.was.state ≡ 0 = ap (λ h. lines_held node h) calls.rewrites.runs.up in
        let none_now : lines_held node calls.now.state ≡ 0 =
        ap (λ (h : Host D). lines_held node h.state) calls.rewrites.runs.new_is in
        subst (λ (w : World D). HasRoom w free) (sym calls.new_is) (omega (arith, room, put, none, none_now))

  -- the node has refused
  module _ (why : NodeFault) (calls : IsCalledToCompact honest words old called node (compacted.Refused why)) where
    pub unwritten_same : called ≡ old
    unwritten_same =
        called_same honest words NoHop old called node 0 calls.was calls.now calls.was_at calls.rewrites.1 calls.new_is

    pub unwritten_steps : unless_up old node None ≡ None → LearnsOfBreaks old
        → Steps honest words old (Compact node) called (Err (fault_of why))
    unwritten_steps none told =
        inr (inr (
          none,
          (
            called,
            (
              Refuses (fault_of why),
              RefusesToCompact calls.was calls.was_at why calls.rewrites.0 unwritten_same,
              (
                told_already honest words called (subst (λ (w : World D). LearnsOfBreaks w) (sym unwritten_same) told),
                refl,
              ),
            ),
          ),
        ))

  -- the node has stopped, and lets go of its ends
  module _ (calls : IsCalledToCompact honest words old called node compacted.Stopped) (down : World D)
      (down_is : down ≡ let_go node called) where
    all_is : down ≡ let_go node (record old { hosts = slice_set old.hosts node calls.now })
    all_is = down_is ∙ ap (λ (w : World D). let_go node w) calls.new_is

    put_there : IsPut old.hosts (slice_set old.hosts node calls.now) node
        (record calls.was { state = world.Down calls.rewrites.disk None })
    put_there =
        subst (λ h. IsPut old.hosts (slice_set old.hosts node calls.now) node h) calls.rewrites.new_is
        (value_put old.hosts node calls.was calls.now calls.was_at)

    pub halted_crash : CrashesCompacting honest words old down node
    halted_crash = record {
      host = calls.was;
      host_at = calls.was_at;
      before = calls.rewrites.before;
      up = calls.rewrites.up;
      stopped = calls.rewrites.stopped;
      failed = calls.rewrites.failed;
      halts = calls.rewrites.halts;
      disk = calls.rewrites.disk;
      left = calls.rewrites.left;
      down = record {
        hosts = slice_set old.hosts node calls.now;
        put = put_there;
        as_many = length-set old.hosts node calls.now;
        new_is = all_is;
      };
    }

    pub halted_happened : RestingCrashHappens honest words → HasHappened honest words old down
    halted_happened happens = run_happened honest words [] 2 old down ((happens old down NoHop node 0).2 halted_crash)

    pub halted_bound : honest → RunsKeepAll honest words → RestingCrashHappens honest words → AreBound honest words old
        → AreBound honest words down
    halted_bound is_honest keeps happens bound =
        still_bound honest words is_honest keeps old down bound (halted_happened happens)

    pub halted_down : IsDownAt down node
    halted_down = record {
      host = calls.now;
      host_at =
          ap (λ (w : World D). slice_get w.hosts node) all_is
          ∙ (value_put old.hosts node calls.was calls.now calls.was_at).at;
      down = ap (λ (h : Host D). holds_up h.state) calls.rewrites.new_is;
    }

    pub halted_room : (free : ℕ) → HasRoom old free → HasRoom down free
    halted_room free room =
        let put = held_put old.hosts node 0 node calls.was calls.now (omega arith) calls.was_at in
        let none : lines_held node calls.was.state ≡ 0 = ap (λ h. lines_held node h) calls.rewrites.up in
        let none_now : lines_held node calls.now.state ≡ 0 =
        ap (λ (h : Host D). lines_held node h.state) calls.rewrites.new_is in
        let attempts = ap (λ (w : World D). lines_to_come w.attempts) all_is in
        let hosts = ap (λ (w : World D). lines_left 0 w.hosts) all_is in
        let less = hung_lines node old.attempts in
        omega (arith, room, put, none, none_now, attempts, hosts, less)
