use Rattle.std.proofs.Common.{sym, subst, ap, ◌∙◌}
use Rattle.relay_hosts.specs.Call.{HasAttempt, ReadsOrNot}
use Rattle.relay_hosts.specs.Host.{host_in, host_of}
use Rattle.relay_hosts.proofs.host.Host.read.Goals as goal

pub read_at-requires-clause-attempt : goal.read_at-requires-clause-attempt
read_at-requires-clause-attempt g c =
    subst (λ h. HasAttempt g.D.Disk.honest g.D.Disk.words h c.args.slot)
    (sym c.self.view_is ∙ ap (λ h. host_in h c.self.inside.records.items) c.in-Up.is) c.requires

pub returns : goal.returns
returns g c =
    subst (λ h. ReadsOrNot g.D.Disk.honest g.D.Disk.words c.args.now h (host_of c.read_at.new.node c.read_at.new.records.items) c.args.slot c.args.piece.now c.read_at.result)
    (sym (sym c.self.view_is ∙ ap (λ h. host_in h c.self.inside.records.items) c.in-Up.is)) c.read_at.ensures.told
