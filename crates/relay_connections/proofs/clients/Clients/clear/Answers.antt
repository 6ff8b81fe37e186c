-- One slot more is free, and then all are.
use Rattle.relay_connections.proofs.TableLemmas.{all_free, free_more, still_free}
use Rattle.relay_connections.proofs.clients.Clients.clear.Goals as goal

pub loop-number-preserved : goal.loop-number-preserved
loop-number-preserved g c = record {
  none = free_more c.loop-number.self.clients c.take.new.self c.loop-number.number c.loop-number.invariant.none c.take.ensures.free c.take.ensures.others;
  rest = still_free c.loop-number.self.clients c.take.new.self c.loop-number.number _ c.loop-number.invariant.rest c.take.ensures.free c.take.ensures.others;
  rules = c.loop-number.invariant.rules;
}

pub returns-clause-free : goal.returns-clause-free
returns-clause-free g c =
    all_free c.loop-number.self.clients c.loop-number.number _ c.loop-number-test.false c.loop-number.invariant.none c.loop-number.invariant.rest
