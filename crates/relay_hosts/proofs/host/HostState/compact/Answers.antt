use Rattle.std.proofs.Common.{◌≤◌, subst, sym}
use Rattle.relay_hosts.specs.Compact.{KnowsNow, RewritesOrNot}
use Rattle.relay_hosts.specs.Host.{host_in, notes_to_come}
use Rattle.relay_hosts.proofs.host.HostState.compact.Goals as goal

pub compact_at-requires : goal.compact_at-requires
compact_at-requires g c = subst (λ h. KnowsNow g.D.Disk.honest g.D.Disk.words h) c.in-Up.is c.requires

pub returns-clause-rewrites : goal.returns-clause-rewrites
returns-clause-rewrites g c =
    λ records. subst (λ h. RewritesOrNot g.D.Disk.honest g.D.Disk.words (host_in h records)
    (host_in c.compact_at.result.0 records) c.compact_at.result.1) (sym c.in-Up.is) (c.compact_at.ensures.rewrites records)

pub returns-clause-notes : goal.returns-clause-notes
returns-clause-notes g c =
    subst (λ h. notes_to_come c.compact_at.result.0 ≤ notes_to_come h) (sym c.in-Up.is) c.compact_at.ensures.notes
