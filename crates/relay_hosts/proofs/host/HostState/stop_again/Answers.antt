use Rattle.relay_hosts.proofs.StopNowLemmas.{state_stops_again}
use Rattle.relay_hosts.proofs.host.HostState.stop_again.Goals as goal

pub returns : goal.returns
returns g c =
    state_stops_again g.D.Disk.honest g.D.Disk.words c.args.self c.in-Down.down c.stop_again.result c.in-Down.is c.stop_again.ensures
