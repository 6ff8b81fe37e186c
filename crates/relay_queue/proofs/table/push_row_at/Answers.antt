-- the line of the row that stands at the key, or none
use Rattle.std.proofs.Common.{◌++◌, [], ap, sym, ◌∙◌, append-nil}
use Rattle.std.specs.Option.{option_map_or}
use Rattle.std.proofs.lemmas.Result.{on_ok_weaker}
use Rattle.relay_queue.specs.Table.{row_text}
use Rattle.relay_queue.proofs.table.push_row_at.Goals as goal

pub returns-in-Some : goal.returns-in-Some
returns-in-Some c =
    on_ok_weaker c.push_row.result
    (λ added. (
      added.0,
      added.1
          ∙ ap (λ queued. c.args.screen.now ++ option_map_or (row_text c.args.widths c.args.now added.0) queued []) c.in-Some.ensures,
    ))
    c.push_row.ensures

pub returns-in-None : goal.returns-in-None
returns-in-None c =
    ([], sym (append-nil c.args.screen.now) ∙ ap (λ queued. c.args.screen.now ++ option_map_or (row_text c.args.widths c.args.now []) queued []) c.in-None.ensures)
