use Rattle.std.proofs.Common.{sym, subst, ap, ◌∙◌}
use Rattle.relay_hosts.specs.Call.{HasSession, KnowsSession}
use Rattle.relay_hosts.specs.Host.{host_in}
use Rattle.relay_hosts.proofs.HostLemmas.{ended_gone, loses_session}
use Rattle.relay_hosts.proofs.host.Host.end.Goals as goal

pub returns : goal.returns
returns g c =
    let is = sym c.self.view_is ∙ ap (λ h. host_in h c.self.inside.records.items) c.in-Up.is in
    let knows : KnowsSession g.D.Disk.honest g.D.Disk.words c.in-Up.node c.args.session =
    subst (λ h. HasSession g.D.Disk.honest g.D.Disk.words h c.args.session) is c.requires in
    loses_session c.in-Up.node c.ended.new.self c.self.inside.records.items c.args.self.now c.args.session is
    c.ended.ensures.rest.1 c.ended.ensures.rest.0
    (ended_gone c.in-Up.node c.ended.new.self c.self.inside.records.items g.D.Disk.honest g.D.Disk.words c.args.session knows
    c.ended.result c.ended.ensures.gone c.ended.ensures.refused) c.ended.ensures.others c.ended.ensures.attempts
