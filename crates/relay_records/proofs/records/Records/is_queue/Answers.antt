use Rattle.std.proofs.Common.{subst}
use Rattle.relay_book.specs.Snapshot.{IsQueue}
use Rattle.relay_records.specs.Records.{Kept}
use Rattle.relay_records.proofs.records.Records.is_queue.Goals as goal

pub returns : goal.returns
returns g c = subst (λ (s : Kept _). IsQueue s.queue) c.self.view_is c.self.invariant
