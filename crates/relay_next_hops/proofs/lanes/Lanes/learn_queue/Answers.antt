-- All is known, once the node was asked.
use Rattle.relay_next_hops.proofs.KnownLemmas.{learned_known, learned_left, learned_all}
use Rattle.relay_next_hops.proofs.lanes.Lanes.learn_queue.Goals as goal

pub returns-clause-left : goal.returns-clause-left
returns-clause-left g c = λ over. learned_left c.gather.result c.args.relay.now.node.records.queue c.args.self.now c.gather.new.self c.gather.ensures.gathers over

pub returns-clause-all : goal.returns-clause-all
returns-clause-all g c = learned_all c.gather.result c.args.relay.now.node.records.queue c.args.self.now c.gather.new.self c.gather.ensures.gathers

pub returns-clause-known : goal.returns-clause-known
returns-clause-known g c = λ next before. learned_known c.gather.result c.args.relay.now.node next c.args.self.now c.gather.new.self c.gather.ensures.gathers before
