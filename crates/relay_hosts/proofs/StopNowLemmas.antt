-- A node that is down, and stops again.
use Rattle.std.proofs.Common.{◌≡◌, ℕ, List, Option, refl, sym, subst, ap, ◌∙◌}
use Rattle.std.specs.Option.{option_map}
use Rattle.relay_disk.specs.Device.{DiskWords}
use Rattle.relay_routes.specs.declared.config.Config.{Config}
use Rattle.relay_world.specs.World as world
use Rattle.relay_hosts.specs.declared.host.DownNode.{DownNode}
use Rattle.relay_hosts.specs.declared.host.HostState.{HostState}
use Rattle.relay_hosts.specs.declared.host.HostState.TheVariants.{Up, Down}
use Rattle.relay_hosts.specs.declared.host.Undecided.{Undecided}
use Rattle.relay_hosts.specs.Crash.{StopsAgain}
use Rattle.relay_hosts.specs.Host.{host_in, undecided_in}
use Rattle.relay_hosts.specs.StopNow.{DownStops, StateStopsAgain}

module _ {D : Type 0} (honest : Type 0) (words : DiskWords D) where
  pub state_stops_again : (was : HostState D) (down now : DownNode D) → was ≡ Down down → DownStops honest words down now
      → StateStopsAgain honest words was (Down now)
  state_stops_again was down now is stops = subst (λ h. StateStopsAgain honest words h (Down now)) (sym is) stops

  pub host_stops_again : (was now : HostState D) (records : List (List ℕ)) → StateStopsAgain honest words was now
      → StopsAgain honest words (host_in was records) (host_in now records)
  host_stops_again (Up before) now records stops = absurd stops
  host_stops_again (Down was) (Up after) records stops = absurd stops
  host_stops_again (Down was) (Down now) records stops = record {
    stays = record {
      disk = was.disk;
      undecided = option_map undecided_in was.undecided;
      down = refl;
      again = now.disk;
      left = stops.left;
      new_is =
          ap (λ (c : Config). record {
            config = c;
            state = world.Down now.disk (option_map undecided_in now.undecided);
            records = records;
          }) stops.config
          ∙ ap (λ (u : Option Undecided). record {
            config = was.config;
            state = world.Down now.disk (option_map undecided_in u);
            records = records;
          }) stops.undecided;
      none = refl;
    };
    fuse = stops.fuse;
  }
