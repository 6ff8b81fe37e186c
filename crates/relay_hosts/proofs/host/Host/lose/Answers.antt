use Rattle.std.proofs.Common.{sym, subst, ap, ◌∙◌}
use Rattle.relay_hosts.specs.Call.{HasAttempt, IsToldLoss}
use Rattle.relay_hosts.specs.Host.{host_in, host_of}
use Rattle.relay_hosts.proofs.host.Host.lose.Goals as goal

pub lose_at-requires-clause-attempt : goal.lose_at-requires-clause-attempt
lose_at-requires-clause-attempt g c =
    subst (λ h. HasAttempt g.D.Disk.honest g.D.Disk.words h c.args.slot)
    (sym c.self.view_is ∙ ap (λ h. host_in h c.self.inside.records.items) c.in-Up.is) c.requires

pub returns : goal.returns
returns g c =
    subst (λ h. IsToldLoss g.D.Disk.honest g.D.Disk.words c.args.now h (host_of c.lose_at.new.node c.lose_at.new.records.items) c.args.slot c.lose_at.result)
    (sym (sym c.self.view_is ∙ ap (λ h. host_in h c.self.inside.records.items) c.in-Up.is)) c.lose_at.ensures.told
