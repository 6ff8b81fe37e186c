-- A group whose changes a relay has added to its spool.
use Rattle.std.proofs.Common.{ℕ, List, refl}
use Rattle.std.proofs.lemmas.List.{length-set}
use Rattle.relay_disk.specs.Device.{DiskWords}
use Rattle.relay_records.specs.Staged.{Row, no_row}
use Rattle.relay_loop.specs.GroupCalls.{Adds}
use Rattle.relay_loop.specs.Relay.{RelayState}
use Rattle.relay_world.specs.Groups.{HasHeardAll, HasHeardEach, Piece as Carried}
use Rattle.relay_world.specs.World.{Host, World}
use Rattle.relay_daemon.specs.Events.{SettlingHearsAll, moved}
use Rattle.relay_daemon.specs.Runs.{RunsAt, host_with}
use Rattle.relay_daemon.proofs.PutLemmas.{value_put}
use Rattle.relay_daemon.proofs.StayLemmas.{runs_on}

module _ {D : Type 0} (honest : Type 0) (words : DiskWords D) where
  module _ (world heard : World D) (node : ℕ) (pieces : List Carried) (row : Row) (old before new : RelayState D)
      (runs : RunsAt world node old) (there : RunsAt heard node before)
      (each : HasHeardEach honest words world.clock world heard node pieces no_row row)
      (says : Adds honest words before row new) where
    abbrev its_host : Host D
    its_host = host_with there.host new.node

    settled_event : HasHeardAll honest words world (moved heard node before new there) node pieces
    settled_event = record {
      before = record { host = runs.host; host_at = runs.host_at; now = old.node; up = runs.up };
      heard = heard;
      row = row;
      each = each;
      staged = record { host = there.host; host_at = there.host_at; now = before.node; up = there.up };
      after = new.node;
      settles = says.settles;
      noted = says.noted;
      config = says.config;
      seats = says.seats;
      attempts = says.attempts;
      hosts = value_put heard.hosts node there.host its_host there.host_at;
      rest = (refl, refl, refl, refl, length-set heard.hosts node its_host);
    }

    settled_runs : RunsAt (moved heard node before new there) node new
    settled_runs =
        runs_on heard (moved heard node before new there) node before new its_host there
        (value_put heard.hosts node there.host its_host there.host_at).at refl refl refl says.clients says.hops
        says.seats says.attempts

  pub settling : SettlingHearsAll honest words
  settling world heard node pieces row old before new runs there each says = (
    settled_event world heard node pieces row old before new runs there each says,
    settled_runs world heard node pieces row old before new runs there each says,
  )
