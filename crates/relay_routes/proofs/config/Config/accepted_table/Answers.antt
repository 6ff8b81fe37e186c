use Rattle.std.proofs.Common.{◌∙◌, sym}
use Rattle.relay_routes.proofs.AcceptedLemmas.{accepted_of_all, accepted_of_stranger, accepted_of_trusted}
use Rattle.relay_routes.proofs.config.Config.accepted_table.Goals as goal

pub returns-then-contains : goal.returns-then-contains
returns-then-contains c = accepted_of_trusted c.args.self.now c.args.client c.in-Some.trusted c.in-Some.is (sym c.contains.ensures ∙ c.if-contains.true)

pub returns-else-contains : goal.returns-else-contains
returns-else-contains c = c.named.ensures ∙ accepted_of_stranger c.args.self.now c.args.client c.in-Some.trusted c.in-Some.is (sym c.contains.ensures ∙ c.if-contains.false)

pub returns-in-None : goal.returns-in-None
returns-in-None c = accepted_of_all c.args.self.now c.args.client c.in-None.is
