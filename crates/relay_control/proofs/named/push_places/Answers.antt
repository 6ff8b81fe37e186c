use Rattle.std.proofs.Common.{◌++◌, ◌∙◌, ap, decimal}
use Rattle.relay_control.proofs.NamedLemmas.{pushed_first, pushed_later}
use Rattle.relay_control.proofs.named.push_places.Goals as goal
use Rattle.relay_control.proofs.named.push_places.Goals.{then-index-gt0+in_ok-push, else-index-gt0}

pub loop-index-preserved : goal.loop-index-preserved
loop-index-preserved c =
    let written = c.in_ok-push_number.ensures ∙ ap (λ n. c.if-index-gt0.text.items ++ decimal n) c.from.ensures in
    elim c.if-index-gt0.branch [
      | then-index-gt0+in_ok-push w ↦
          pushed_later decimal 44 c.args.places.now c.loop-index.index 0 c.args.text.now.items c.loop-index.text.items c.if-index-gt0.text.items
          c.push_number.new.text.items w.if-index-gt0.true c.loop-index-test.true c.loop-index.invariant
          (ap (λ t. t.items) w.text-is ∙ w.in_ok-push.ensures.items) written
      | else-index-gt0 w ↦
          pushed_first decimal 44 c.args.places.now c.loop-index.index 0 c.args.text.now.items c.if-index-gt0.text.items
          c.push_number.new.text.items w.if-index-gt0.false c.loop-index-test.true (ap (λ t. t.items) w.text-is ∙ c.loop-index.invariant) written
    ]
