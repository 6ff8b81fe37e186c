use Rattle.std.proofs.Common.{refl}
use Rattle.relay_node.proofs.AttemptLemmas.{refused_queue, same_serves}
use Rattle.relay_node.proofs.node.Node.admit.Goals as goal

pub invariant_of-self-in_err-answer : goal.invariant_of-self-in_err-answer
invariant_of-self-in_err-answer g c = (
  c.self.invariant.0,
  same_serves _ _ c.self.inside.attempts c.reserve.new.self c.self.inside.records.queue c.take_offer.new.records.queue c.reserve.ensures.rest.0 c.reserve.ensures.rest.1
      (refused_queue g.D.Disk.words c.self.inside.records c.take_offer.new.records _ c.in_err-answer.ensures.refused) c.self.invariant.1,
)

pub invariant_of-self-2 : goal.invariant_of-self-2
invariant_of-self-2 g c = (
  c.self.invariant.0,
  c.note_answer.ensures.serves c.self.inside.config.host c.self.inside.records.queue c.numbers_rise.ensures c.in_ok-answer.ensures.answers.takes
      (same_serves _ _ c.self.inside.attempts c.reserve.new.self c.self.inside.records.queue c.self.inside.records.queue c.reserve.ensures.rest.0 c.reserve.ensures.rest.1 refl c.self.invariant.1),
)
