-- One slot more is free, and then all are.
use Rattle.relay_connections.proofs.TableLemmas.{all_free, free_more, still_free}
use Rattle.relay_connections.proofs.leaving.Leaving.clear.Goals as goal

pub loop-number-preserved : goal.loop-number-preserved
loop-number-preserved g c = (
  free_more c.loop-number.self.leavers c.take-leaver.new.self c.loop-number.number c.loop-number.invariant.0 c.take-leaver.ensures.free c.take-leaver.ensures.others,
  still_free c.loop-number.self.leavers c.take-leaver.new.self c.loop-number.number _ c.loop-number.invariant.1 c.take-leaver.ensures.free c.take-leaver.ensures.others,
)

pub returns : goal.returns
returns g c = all_free c.loop-number.self.leavers c.loop-number.number _ c.loop-number-test.false c.loop-number.invariant.0 c.loop-number.invariant.1
