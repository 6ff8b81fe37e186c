-- Nothing was said on free seats, and no attempt runs.
use Rattle.std.proofs.Common.{ap}
use Rattle.relay_book.specs.Queue.{Queue}
use Rattle.relay_node.proofs.EmptyLemmas.{unused}
use Rattle.relay_node.proofs.NodeLemmas.{free_histories}
use Rattle.relay_node.proofs.node.Node.create.Goals as goal

pub invariant_of-result : goal.invariant_of-result
invariant_of-result g c = (
  free_histories c.args.config c.in-Ok.seats c.in-Ok.ensures.free,
  c.in-Ok-idle.ensures.serves c.args.config.host c.args.config.routes c.in-Ok-create.records.queue (ap (λ (q : Queue). q.messages) c.in-Ok-create.ensures.keeps.queue),
)

pub returns-in_default-idle-clause-stop : goal.returns-in_default-idle-clause-stop
returns-in_default-idle-clause-stop g c = λ honest none.
    unused g.D.Disk.words (g.met.D.Disk.only_now honest) c.args.disk _ c.out_of_memory-in_default-idle.ensures.1 none
