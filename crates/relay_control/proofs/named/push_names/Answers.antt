use Rattle.std.proofs.Common.{◌++◌, ◌∙◌, ap}
use Rattle.relay_control.specs.Named.{named_text}
use Rattle.relay_control.proofs.NamedLemmas.{pushed_first, pushed_later}
use Rattle.relay_control.proofs.named.push_names.Goals as goal
use Rattle.relay_control.proofs.named.push_names.Goals.{then-index-gt0+in_ok-push, else-index-gt0}

pub loop-index-preserved : goal.loop-index-preserved
loop-index-preserved c =
    let written = c.in_ok-push_named.ensures ∙ ap (λ n. c.if-index-gt0.text.items ++ named_text n) c.index-names-index.is in
    elim c.if-index-gt0.branch [
      | then-index-gt0+in_ok-push w ↦
          pushed_later named_text 32 c.args.names.now c.loop-index.index c.index-names-index.result c.args.text.now.items c.loop-index.text.items
          c.if-index-gt0.text.items c.push_named.new.text.items w.if-index-gt0.true c.loop-index-test.true c.loop-index.invariant
          (ap (λ t. t.items) w.text-is ∙ w.in_ok-push.ensures.items) written
      | else-index-gt0 w ↦
          pushed_first named_text 32 c.args.names.now c.loop-index.index c.index-names-index.result c.args.text.now.items c.if-index-gt0.text.items
          c.push_named.new.text.items w.if-index-gt0.false c.loop-index-test.true (ap (λ t. t.items) w.text-is ∙ c.loop-index.invariant) written
    ]
