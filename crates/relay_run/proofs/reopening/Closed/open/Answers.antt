-- The node keeps what the disks stood for, and nobody is connected yet.
use Rattle.std.proofs.Common.{sym, subst}
use Rattle.relay_slots.specs.Slots.{AreFree}
use Rattle.relay_records.specs.Open.{Opens}
use Rattle.relay_node.specs.Node.{NodeState}
use Rattle.relay_run.proofs.reopening.Closed.open.Goals as goal

pub returns-in-Ok-new-clause-opened : goal.returns-in-Ok-new-clause-opened
returns-in-Ok-new-clause-opened g c =
    let new = c.in-Ok-new.ensures in
    record {
      disks = c.args.self.disks;
      opens = subst (λ (node : NodeState _). Opens g.D.Disk.honest g.D.Disk.words c.args.self.disks node.records) (sym new.0) c.in-Ok.ensures.opens;
      seats = subst (λ (node : NodeState _). AreFree node.seats) (sym new.0) c.in-Ok.ensures.idle.free;
      connections = new.1;
      hops = new.2;
    }
