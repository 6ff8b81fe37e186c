-- A host whose node was stopped, between two calls or in one.
use Rattle.std.proofs.Common.{inl, inr, ◌≡◌, ℕ, List, Option, None, Some, refl, sym, subst, ap, ◌∙◌}
use Rattle.std.specs.Option.{option_map}
use Rattle.relay_disk.specs.Device.{DiskWords}
use Rattle.relay_disk.specs.declared.disks.Disks.{Disks}
use Rattle.relay_disk.specs.Disks.{ImagesWithin, LosesFuseOrNot, seen_of}
use Rattle.relay_spool.specs.Spool.{PassesAny}
use Rattle.relay_records.specs.declared.fault.Cause.{Cause}
use Rattle.relay_records.specs.Open.{FailsFor, Opens, RefusesImage}
use Rattle.relay_records.specs.Records.{Kept}
use Rattle.relay_node.specs.Node.{IsIdle, NodeState}
use Rattle.relay_routes.specs.declared.config.Config.{Config}
use Rattle.relay_world.specs.Stops.{IsLeftBy}
use Rattle.relay_world.specs.World as world
use Rattle.relay_hosts.specs.declared.host.DownNode.{DownNode}
use Rattle.relay_hosts.specs.declared.host.HostState.{HostState}
use Rattle.relay_hosts.specs.declared.host.HostState.TheVariants.{Up, Down}
use Rattle.relay_hosts.specs.declared.host.Origin.{Origin}
use Rattle.relay_hosts.specs.declared.host.Undecided.{Undecided}
use Rattle.relay_hosts.specs.Crash.{CrashesInCall, Decided, StateCrashes, StateStops, NodeCrashes, NodeStops, OpensOrNot, StopsAtRest}
use Rattle.relay_hosts.specs.Host.{host_in, notes_of, undecided_in}
use Rattle.relay_hosts.proofs.CallLemmas.{owed_live}
use Rattle.relay_hosts.proofs.SlotLemmas.{count_free}

module _ {D : Type 0} (honest : Type 0) (words : DiskWords D) where
  pub state_stops : (was : HostState D) (before : NodeState D) (down : DownNode D) → was ≡ Up before
      → NodeStops honest words before down → StateStops honest words was (Down down)
  state_stops was before down is stops = subst (λ h. StateStops honest words h (Down down)) (sym is) stops

  pub state_crashes : (was : HostState D) (before : NodeState D) (down : DownNode D) (origin : Origin) → was ≡ Up before
      → NodeCrashes honest words before down origin → StateCrashes honest words was (Down down) origin
  state_crashes was before down origin is crashes =
      subst (λ h. StateCrashes honest words h (Down down) origin) (sym is) crashes

  -- disks that were taken from a node and stopped
  pub left_by_stop : (stopped : Kept D) (disk left : Disks D) → disk ≡ stopped.spool.disk
      → (honest → ImagesWithin words disk left) → LosesFuseOrNot words disk left → IsLeftBy honest words stopped left
  left_by_stop stopped disk left same images fuse = record {
    images = λ h. subst (λ d. ImagesWithin words d left) same (images h);
    fuse = subst (λ d. LosesFuseOrNot words d left) same fuse;
  }

  -- the host of a node that is down
  pub same_down : (before : NodeState D) (down : DownNode D) (records : List (List ℕ)) (undecided : Option Undecided)
      → down.config ≡ before.config → down.undecided ≡ undecided
      → host_in (Down down) records
      ≡ record { config = before.config; state = world.Down down.disk (option_map undecided_in undecided); records = records }
  same_down before down records undecided config is =
      ap (λ (c : Config). record {
        config = c;
        state = world.Down down.disk (option_map undecided_in down.undecided);
        records = records;
      }) config
      ∙ ap (λ (u : Option Undecided). record {
        config = before.config;
        state = world.Down down.disk (option_map undecided_in u);
        records = records;
      }) is

  pub host_stops : (was now : HostState D) (records : List (List ℕ)) → StateStops honest words was now
      → StopsAtRest honest words (host_in was records) (host_in now records)
  host_stops (Up before) (Up after) records stops = absurd stops
  host_stops (Up before) (Down down) records stops = record {
    before = before;
    up = refl;
    disk = down.disk;
    left = stops.left;
    new_is = same_down before down records None stops.config stops.none;
  }
  host_stops (Down was) now records stops = absurd stops

  pub host_crashes : (was now : HostState D) (records : List (List ℕ)) (origin : Origin) → StateCrashes honest words was now origin
      → CrashesInCall honest words (host_in was records) (host_in now records) origin
  host_crashes (Up before) (Up after) records origin crashes = absurd crashes
  host_crashes (Up before) (Down down) records origin crashes = record {
    before = before;
    up = refl;
    noted = crashes.noted;
    note_is = crashes.note_is;
    disk = down.disk;
    left = crashes.left;
    new_is = same_down before down records (Some (record { note = crashes.noted; origin = origin })) crashes.config crashes.some;
  }
  host_crashes (Down was) now records origin crashes = absurd crashes

module _ {D : Type 0} (honest : Type 0) (words : DiskWords D) (down : DownNode D) (records : List (List ℕ)) where
  -- a node that was opened owes nothing
  pub owes_none : (node : NodeState D) → Opens honest words down.disk node.records → IsIdle down.config node → notes_of node ≡ 0
  owes_none node opens idle = owed_live node opens.live ∙ count_free node.attempts idle.none_runs

  pub comes_up : (node : NodeState D) (host : world.Host D) (found : Option Undecided)
      → Opens honest words down.disk node.records → IsIdle down.config node → Decided node records down.undecided host found
      → OpensOrNot honest words (host_in (Down down) records) host found
  comes_up node host found opens idle decides = inl (record {
    disk = down.disk;
    undecided = down.undecided;
    down = refl;
    after = node;
    opens = opens;
    idle = idle;
    decides = decides;
  })

  pub stays_down : (config : Config) (again : Disks D) (cause : Cause) → config ≡ down.config
      → (honest → ImagesWithin words down.disk again) → RefusesImage honest (seen_of words down.disk) cause
      → FailsFor words down.disk again cause → PassesAny words down.disk again
      → OpensOrNot honest words (host_in (Down down) records)
      (host_in (Down (record { config = config; disk = again; undecided = down.undecided })) records) None
  stays_down config again cause same left why failures calls = inr (record {
    stays = record {
      disk = down.disk;
      undecided = option_map undecided_in down.undecided;
      down = refl;
      again = again;
      left = left;
      new_is = ap (λ (c : Config). record {
        config = c;
        state = world.Down again (option_map undecided_in down.undecided);
        records = records;
      }) same;
      none = refl;
    };
    cause = cause;
    why = why;
    failures = failures;
    calls = calls;
  })
