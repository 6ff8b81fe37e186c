-- No connection stands, and no attempt runs.
use Rattle.relay_next_hops.proofs.SlotLemmas.{free_aimed, free_counts}
use Rattle.relay_next_hops.proofs.next_hops.NextHops.renewed.Goals as goal

pub returns-clause-matches : goal.returns-clause-matches
returns-clause-matches g c = λ routes. record {
  aimed = free_aimed routes c.clear.new.self.hops c.clear.ensures;
  counts = free_counts c.clear.new.self.hops c.renewed.result.paces c.clear.ensures c.renewed.ensures.fresh.paces;
}
