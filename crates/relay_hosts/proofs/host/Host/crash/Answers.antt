use Rattle.relay_hosts.proofs.StopLemmas.{host_crashes}
use Rattle.relay_hosts.proofs.host.Host.crash.Goals as goal

pub returns : goal.returns
returns g c = rw (← c.self.view_is) (host_crashes g.D.Disk.honest g.D.Disk.words c.self.inside.state c.crash.result
    c.self.inside.records.items c.args.origin c.crash.ensures)
