-- the line of the row that stands at the key, or none
use Rattle.std.proofs.Common.{◌++◌, [], ap, sym, ◌∙◌, append-nil}
use Rattle.std.specs.Option.{option_map_or}
use Rattle.std.proofs.lemmas.Result.{on_ok_weaker}
use Rattle.relay_listing.specs.Object.{object_line}
use Rattle.relay_queue.proofs.json_lines.push_object_at.Goals as goal

pub returns-in-Some : goal.returns-in-Some
returns-in-Some c =
    on_ok_weaker c.push_object.result
    (λ added. added ∙ ap (λ queued. c.args.screen.now ++ option_map_or (object_line c.args.now) queued []) c.in-Some.ensures)
    c.push_object.ensures

pub returns-in-None : goal.returns-in-None
returns-in-None c =
    sym (append-nil c.args.screen.now)
    ∙ ap (λ queued. c.args.screen.now ++ option_map_or (object_line c.args.now) queued []) c.in-None.ensures
