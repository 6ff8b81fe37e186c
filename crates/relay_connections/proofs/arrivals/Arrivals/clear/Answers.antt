-- One slot more is free, and then all are.
use Rattle.relay_connections.proofs.TableLemmas.{all_free, free_more, still_free}
use Rattle.relay_connections.proofs.arrivals.Arrivals.clear.Goals as goal

pub loop-number-preserved : goal.loop-number-preserved
loop-number-preserved g c = record {
  none = free_more c.loop-number.self.arrivals c.take-gone.new.self c.loop-number.number c.loop-number.invariant.none c.take-gone.ensures.free c.take-gone.ensures.others;
  rest = still_free c.loop-number.self.arrivals c.take-gone.new.self c.loop-number.number _ c.loop-number.invariant.rest c.take-gone.ensures.free c.take-gone.ensures.others;
}

pub returns : goal.returns
returns g c = all_free c.loop-number.self.arrivals c.loop-number.number _ c.loop-number-test.false c.loop-number.invariant.none c.loop-number.invariant.rest
