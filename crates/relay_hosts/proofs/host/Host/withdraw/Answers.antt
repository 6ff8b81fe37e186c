use Rattle.std.proofs.Common.{sym, subst, ap, ◌∙◌}
use Rattle.relay_world.specs.GivingUp.{Postmaster}
use Rattle.relay_world.specs.World.{Host}
use Rattle.relay_hosts.specs.Host.{host_in, host_of}
use Rattle.relay_hosts.specs.Work.{GivesUpOrNot, HasChanges}
use Rattle.relay_hosts.proofs.host.Host.withdraw.Goals as goal

pub withdraw_at-requires-clause-changes : goal.withdraw_at-requires-clause-changes
withdraw_at-requires-clause-changes g c =
    subst (λ h. HasChanges g.D.Disk.honest g.D.Disk.words h)
    (sym c.self.view_is ∙ ap (λ h. host_in h c.self.inside.records.items) c.in-Up.is) c.requires

pub returns : goal.returns
returns g c =
    subst (λ (h : Host g.row.D.Denot). GivesUpOrNot g.D.Disk.honest g.D.Disk.words
    (Postmaster c.args.withdrawal c.args.places.now) c.args.now h
    (host_of c.withdraw_at.new.node c.withdraw_at.new.records.items) c.args.message c.withdraw_at.result)
    (sym (sym c.self.view_is ∙ ap (λ h. host_in h c.self.inside.records.items) c.in-Up.is)) c.withdraw_at.ensures.given
