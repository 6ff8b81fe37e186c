-- the object's text, shown as it is
use Rattle.std.proofs.Common.{List, ℕ, ◌++◌, ap, ◌∙◌, string_bytes}
use Rattle.std.proofs.lemmas.Result.{on_ok_weaker}
use Rattle.relay_listing.specs.Row.{said_by}
use Rattle.relay_queue.specs.Screen.{shown}
use Rattle.relay_queue.proofs.ObjectLemmas.{line_added}
use Rattle.relay_queue.proofs.json_lines.push_object.Goals as goal

pub returns : goal.returns
returns c =
    let pushed = c.in_ok-push.ensures ∙ ap (λ (l : List ℕ). c.args.screen.now ++ shown l) c.as_bytes.ensures.value in
    on_ok_weaker c.end_line.result
    (λ added. line_added c.args.now (said_by c.args.row.now) (string_bytes c.in_ok-object.object) c.args.screen.now c.push.new.self
    c.end_line.new.self c.in_ok-object.ensures pushed added)
    c.end_line.ensures
