use Rattle.relay_hosts.proofs.host.Host.open.Goals as goal

pub returns : goal.returns
returns g c = rw (← c.self.view_is) c.open.ensures
