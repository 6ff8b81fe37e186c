-- Each slot is emptied in turn.
use Rattle.std.proofs.Common.{ap, ◌∙◌}
use Rattle.relay_slots.specs.Slots.{slot_at}
use Rattle.relay_next_hops.proofs.SlotLemmas.{all_cleared, cleared_more, none_stays}
use Rattle.relay_next_hops.proofs.hops.Hops.clear.Goals as goal

pub loop-number-preserved : goal.loop-number-preserved
loop-number-preserved g c = (
  cleared_more c.loop-number.self.hops c.take-hop.new.self c.loop-number.number c.take-hop.ensures.rest c.loop-number.invariant.0,
  λ other after. ap (λ slots. slot_at slots other) c.take-hop.ensures.rest ∙ none_stays c.loop-number.self.hops c.loop-number.number other (c.loop-number.invariant.1 other after),
)

pub returns : goal.returns
returns g c = all_cleared c.loop-number.self.hops c.loop-number.number _ c.loop-number-test.false c.loop-number.invariant.0 c.loop-number.invariant.1
