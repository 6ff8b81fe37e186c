use Rattle.std.proofs.Common.{◌∙◌, sym}
use Rattle.relay_routes.proofs.AcceptedLemmas.{paths_of_listed, paths_of_stranger}
use Rattle.relay_routes.proofs.config.Config.accepted_paths.Goals as goal

pub returns-then-is_listed : goal.returns-then-is_listed
returns-then-is_listed c = paths_of_listed c.args.self.now c.args.client (sym c.is_listed.ensures ∙ c.if-is_listed.true)

pub returns-else-is_listed : goal.returns-else-is_listed
returns-else-is_listed c = paths_of_stranger c.args.self.now c.args.client (sym c.is_listed.ensures ∙ c.if-is_listed.false)
