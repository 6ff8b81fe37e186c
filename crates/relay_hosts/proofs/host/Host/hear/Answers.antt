use Rattle.std.proofs.Common.{sym, subst, ap, ◌∙◌}
use Rattle.relay_hosts.specs.Call.{HasSession, HearsOrNot}
use Rattle.relay_hosts.specs.Host.{host_in, host_of}
use Rattle.relay_hosts.proofs.host.Host.hear.Goals as goal

pub hear_at-requires-clause-session : goal.hear_at-requires-clause-session
hear_at-requires-clause-session g c =
    subst (λ h. HasSession g.D.Disk.honest g.D.Disk.words h c.args.session)
    (sym c.self.view_is ∙ ap (λ h. host_in h c.self.inside.records.items) c.in-Up.is) c.requires

pub returns : goal.returns
returns g c =
    subst (λ h. HearsOrNot g.D.Disk.honest g.D.Disk.words c.args.now h (host_of c.hear_at.new.node c.hear_at.new.records.items) c.args.session c.args.piece.now c.hear_at.result)
    (sym (sym c.self.view_is ∙ ap (λ h. host_in h c.self.inside.records.items) c.in-Up.is)) c.hear_at.ensures.told
