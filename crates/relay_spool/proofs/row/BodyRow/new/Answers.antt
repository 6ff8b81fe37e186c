use Rattle.std.proofs.Common.{[], arith, ap, length}
use Rattle.relay_spool.proofs.RowLemmas.{bodies_of_chain-is, chain_found}
use Rattle.relay_spool.proofs.row.BodyRow.new.Goals as goal

pub invariant_of-result : goal.invariant_of-result
invariant_of-result c =
    (chain_found c.new.result.items [] c.new.ensures.items, λ some. absurd (let none = ap length c.new.ensures.items in omega (arith, none, some)))

pub returns : goal.returns
returns c = bodies_of_chain-is c.new.result.items [] c.new.ensures.items
