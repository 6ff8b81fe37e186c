use Rattle.relay_hosts.proofs.StopLemmas.{host_stops}
use Rattle.relay_hosts.proofs.host.Host.stop.Goals as goal

pub returns : goal.returns
returns g c = rw (← c.self.view_is) (host_stops g.D.Disk.honest g.D.Disk.words c.self.inside.state c.stop.result
    c.self.inside.records.items c.stop.ensures)
