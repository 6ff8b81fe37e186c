use Rattle.std.proofs.Common.{sym, ap, ◌∙◌}
use Rattle.relay_hosts.specs.Host.{host_in}
use Rattle.relay_hosts.proofs.WorkLemmas.{live_of, opens_or_refuses}
use Rattle.relay_hosts.proofs.host.Host.connect.Goals as goal

pub returns : goal.returns
returns g c =
    let is = sym c.self.view_is ∙ ap (λ h. host_in h c.self.inside.records.items) c.in-Up.is in
    opens_or_refuses c.in-Up.node c.connect.new.self c.self.inside.records.items c.args.peer c.args.self.now c.connect.result
    is (live_of g.D.Disk.honest g.D.Disk.words c.in-Up.node c.args.self.now c.self.inside.records.items is c.requires)
    c.connect.ensures.rest.1 c.connect.ensures.rest.0 c.connect.ensures.attempts c.connect.ensures.connects
    c.connect.ensures.refused c.connect.ensures.stopped c.connect.ensures.too_many
