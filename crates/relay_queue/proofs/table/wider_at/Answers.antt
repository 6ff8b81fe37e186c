-- the widths of the row that stands at the key, or the same
use Rattle.std.proofs.Common.{ap, ◌∙◌}
use Rattle.relay_queue.specs.Table.{wider_for}
use Rattle.relay_queue.proofs.table.wider_at.Goals as goal

pub returns-in-Some : goal.returns-in-Some
returns-in-Some c = c.wider_for.ensures ∙ ap (wider_for c.args.widths) c.in-Some.ensures

pub returns-in-None : goal.returns-in-None
returns-in-None c = ap (wider_for c.args.widths) c.in-None.ensures
