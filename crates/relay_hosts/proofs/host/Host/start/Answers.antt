use Rattle.std.proofs.Common.{sym, subst, ap, ◌∙◌}
use Rattle.relay_world.specs.World.{Host}
use Rattle.relay_hosts.specs.Host.{host_in, host_of}
use Rattle.relay_hosts.specs.Work.{BeginsOrNot, HasChanges}
use Rattle.relay_hosts.proofs.DueLemmas.{begins_unless_full}
use Rattle.relay_hosts.proofs.host.Host.start.Goals as goal

pub start_at-requires-clause-changes : goal.start_at-requires-clause-changes
start_at-requires-clause-changes g c =
    subst (λ h. HasChanges g.D.Disk.honest g.D.Disk.words h)
    (sym c.self.view_is ∙ ap (λ h. host_in h c.self.inside.records.items) c.in-Up.is) c.requires

pub returns : goal.returns
returns g c =
    let begun = subst (λ (h : Host g.row.D.Denot). BeginsOrNot g.D.Disk.honest g.D.Disk.words c.args.now h
    (host_of c.start_at.new.node c.start_at.new.records.items) c.args.message c.args.hop.now c.start_at.result)
    (sym (sym c.self.view_is ∙ ap (λ h. host_in h c.self.inside.records.items) c.in-Up.is)) c.start_at.ensures.begun in
    record {
      begun = begun;
      first = begins_unless_full g.D.Disk.honest g.D.Disk.words c.args.now c.args.message c.args.self.now
          (host_of c.start_at.new.node c.start_at.new.records.items) c.args.hop.now c.start_at.result c.requires begun;
    }
