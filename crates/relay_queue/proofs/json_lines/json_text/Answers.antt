-- a line for each key
use Rattle.std.proofs.Common.{rules, ◌<◌, ◌≤◌, length, ap, ◌∙◌}
use Rattle.std.proofs.lemmas.List.{take_all}
use Rattle.relay_queue.specs.Objects.{objects_text}
use Rattle.relay_queue.proofs.ObjectLemmas.{one_more}
use Rattle.relay_queue.proofs.json_lines.json_text.Goals as goal

pub loop-key-init : goal.loop-key-init
loop-key-init c = c.new-screen.ensures

pub loop-key-preserved : goal.loop-key-preserved
loop-key-preserved c =
    let more : c.loop-key.key-index < length c.args.keys.now = search rules in
    one_more c.args.now c.args.table.now c.args.look.now.queue c.args.keys.now c.loop-key.key-index _ c.loop-key.screen _ more
    c.loop-key.invariant c.in_ok-push_object_at.ensures

pub returns : goal.returns
returns c =
    let all : length c.args.keys.now ≤ c.loop-key.key-index = search rules in
    c.loop-key.invariant
    ∙ ap (objects_text c.args.now c.args.table.now c.args.look.now.queue) (take_all c.loop-key.key-index c.args.keys.now all)
