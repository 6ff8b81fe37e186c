use Rattle.std.proofs.Common.{subst, sym}
use Rattle.relay_hosts.specs.Work.{HasChanges}
use Rattle.relay_hosts.proofs.CompactLemmas.{knows_now}
use Rattle.relay_hosts.proofs.host.Host.compact.Goals as goal

pub compact-state-requires : goal.compact-state-requires
compact-state-requires g c =
    knows_now g.D.Disk.honest g.D.Disk.words c.self.inside.state c.self.inside.records.items
    (subst (λ h. HasChanges g.D.Disk.honest g.D.Disk.words h) (sym c.self.view_is) c.requires)

pub returns : goal.returns
returns g c = rw (← c.self.view_is) (c.compact-state.ensures.rewrites c.self.inside.records.items)
