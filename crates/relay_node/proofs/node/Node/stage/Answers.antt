use Rattle.std.proofs.Common.{refl}
use Rattle.relay_node.proofs.AttemptLemmas.{same_serves}
use Rattle.relay_node.proofs.node.Node.stage.Goals as goal

pub invariant_of-self-2 : goal.invariant_of-self-2
invariant_of-self-2 g c = (
  c.self.invariant.0,
  c.note_answer.ensures.serves c.self.inside.config.host c.self.inside.records.queue c.numbers_rise.ensures c.in_ok-answer.ensures.answers.takes
      (same_serves _ _ c.self.inside.attempts c.reserve.new.self c.self.inside.records.queue c.self.inside.records.queue c.reserve.ensures.rest.0 c.reserve.ensures.rest.1 refl c.self.invariant.1),
)
