use Rattle.std.proofs.Common.{drop, ap, ◌∙◌}
use Rattle.relay_connections.proofs.BlockLemmas.{left_after_some}
use Rattle.relay_connections.proofs.block.Block.used.Goals as goal

pub returns-then-count-self : goal.returns-then-count-self
returns-then-count-self c =
    left_after_some c.self.inside.octets.items c.self.inside.start c.self.inside.end c.args.count c.if-count-self.true ∙ ap (drop c.args.count) c.self.view_is
