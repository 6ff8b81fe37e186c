use Rattle.std.proofs.Common.{arith}
use Rattle.relay_connections.proofs.TableLemmas.{free_at}
use Rattle.relay_connections.proofs.table.Table.new.Goals as goal

pub invariant_of-result : goal.invariant_of-result
invariant_of-result g c = (c.in_ok-new.ensures.places, omega arith, λ number after. free_at c.in_ok-new.field-0 c.in_ok-new.ensures.free number)
