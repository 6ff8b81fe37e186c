-- A node that stopped in a call goes down, and one that is down is opened.
use Rattle.std.proofs.Common.{◌≡◌, ℕ, List, length, Option, Some, refl, sym, subst, ap, ◌∙◌}
use Rattle.std.specs.Prelude.{slice_get, slice_set}
use Rattle.std.proofs.lemmas.List.{length-set}
use Rattle.relay_disk.specs.Device.{DiskWords}
use Rattle.relay_world.specs.Crashes.{let_go}
use Rattle.relay_world.specs.Steps.{IsPut}
use Rattle.relay_world.specs.World.{Down, Host, World}
use Rattle.relay_hosts.specs.declared.host.Origin.{Origin}
use Rattle.relay_hosts.specs.declared.host.Undecided.{Undecided}
use Rattle.relay_hosts.specs.Crash.{CrashesInCall, OpensOrNot}
use Rattle.relay_hosts.specs.Host.{origin_in}
use Rattle.relay_events.specs.Restart.{CrashesAt, IsDownAt, OpensAt}
use Rattle.relay_events.proofs.PlaceLemmas.{value_put}

module _ {D : Type 0} (honest : Type 0) (words : DiskWords D) (old new : World D) (node : ℕ) (was now : Host D)
    (was_at : slice_get old.hosts node ≡ Some was) (hosts : List (Host D)) (set : hosts ≡ slice_set old.hosts node now) where
  pub crashes_at : (origin : Origin) → CrashesInCall honest words was now origin
      → new ≡ let_go node (record old { hosts = hosts }) → CrashesAt honest words old new node origin
  crashes_at origin crashes let_go_is = record {
    host = was;
    host_at = was_at;
    before = crashes.before;
    up = crashes.up;
    noted = crashes.noted;
    note_is = crashes.note_is;
    disk = crashes.disk;
    left = crashes.left;
    down = record {
      hosts = hosts;
      put = subst (λ h. IsPut old.hosts hosts node h) crashes.new_is
          (subst (λ hs. IsPut old.hosts hs node now) (sym set) (value_put old.hosts node was now was_at));
      as_many = ap length set ∙ length-set old.hosts node now;
      new_is = let_go_is;
    };
    hosts_are =
        ap (λ (w : World D). w.hosts) let_go_is ∙ set ∙ ap (λ (h : Host D). slice_set old.hosts node h) crashes.new_is;
  }

  pub opens_at : (found : Option Undecided) → OpensOrNot honest words was now found → new ≡ record old { hosts = hosts }
      → OpensAt honest words old new node found
  opens_at found opens new_is = record {
    was = was;
    was_at = was_at;
    now = now;
    opens = opens;
    new_is = new_is ∙ ap (λ (hs : List (Host D)). record old { hosts = hs }) set;
  }

-- a node that went down is down
pub crashed_down : {D : Type 0} (honest : Type 0) (words : DiskWords D) (old new : World D) (node : ℕ) (origin : Origin)
    → CrashesAt honest words old new node origin → IsDownAt new node
crashed_down honest words old new node origin crashes = record {
  host = record crashes.host {
    state = Down crashes.disk (Some (record { note = crashes.noted; origin = origin_in origin }));
  };
  host_at =
      ap (λ (hs : List (Host _)). slice_get hs node) crashes.hosts_are
      ∙ (value_put old.hosts node crashes.host _ crashes.host_at).at;
  down = refl;
}
