use Rattle.std.proofs.Common.{sym, subst, ap, ◌∙◌}
use Rattle.relay_world.specs.GivingUp.{NoHop}
use Rattle.relay_world.specs.World.{Host}
use Rattle.relay_hosts.specs.Host.{host_in, host_of}
use Rattle.relay_hosts.specs.Work.{GivesUpOrNot, HasChanges}
use Rattle.relay_hosts.proofs.DueLemmas.{gives_up_unless_full}
use Rattle.relay_hosts.proofs.host.Host.give_up.Goals as goal

pub give_up_at-requires-clause-changes : goal.give_up_at-requires-clause-changes
give_up_at-requires-clause-changes g c =
    subst (λ h. HasChanges g.D.Disk.honest g.D.Disk.words h)
    (sym c.self.view_is ∙ ap (λ h. host_in h c.self.inside.records.items) c.in-Up.is) c.requires

pub returns : goal.returns
returns g c =
    let given = subst (λ (h : Host g.row.D.Denot). GivesUpOrNot g.D.Disk.honest g.D.Disk.words NoHop c.args.now h
    (host_of c.give_up_at.new.node c.give_up_at.new.records.items) c.args.message c.give_up_at.result)
    (sym (sym c.self.view_is ∙ ap (λ h. host_in h c.self.inside.records.items) c.in-Up.is)) c.give_up_at.ensures.given in
    record {
      given = given;
      first = gives_up_unless_full g.D.Disk.honest g.D.Disk.words c.args.now c.args.message c.args.self.now
          (host_of c.give_up_at.new.node c.give_up_at.new.records.items) c.give_up_at.result c.requires given;
    }
