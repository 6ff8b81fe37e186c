use Rattle.relay_hosts.proofs.StopNowLemmas.{host_stops_again}
use Rattle.relay_hosts.proofs.host.Host.stop_again.Goals as goal

pub returns : goal.returns
returns g c = rw (← c.self.view_is) (host_stops_again g.D.Disk.honest g.D.Disk.words c.self.inside.state c.stop_again.result
    c.self.inside.records.items c.stop_again.ensures)
