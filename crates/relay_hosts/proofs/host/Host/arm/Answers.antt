use Rattle.std.proofs.Common.{sym, ap, ◌∙◌}
use Rattle.relay_hosts.specs.Host.{host_in}
use Rattle.relay_hosts.proofs.ArmLemmas.{is_armed}
use Rattle.relay_hosts.proofs.host.Host.arm.Goals as goal

pub returns : goal.returns
returns g c =
    is_armed g.D.Disk.honest g.D.Disk.words c.in-Up.node c.fuse.new.self c.self.inside.records.items c.args.self.now
    (sym c.self.view_is ∙ ap (λ h. host_in h c.self.inside.records.items) c.in-Up.is) c.fuse.ensures.rest c.fuse.ensures.same
    (λ changes keeps. (c.fuse.ensures.kept changes keeps).keeps) c.args.calls c.fuse.ensures.fuse
