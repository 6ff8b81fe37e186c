use Rattle.relay_spool.proofs.SpoolLemmas.{fused_sound}
use Rattle.relay_spool.proofs.spool.Spool.fuse.Goals as goal

pub invariant_of-self : goal.invariant_of-self
invariant_of-self g c =
    fused_sound g.D.Disk.words g.D.Disk.honest c.self.inside.size c.self.inside.live c.self.inside.taken c.self.inside.disk c.fuse.new.self c.fuse.ensures.first c.fuse.ensures.second c.fuse.ensures.seen c.self.invariant
