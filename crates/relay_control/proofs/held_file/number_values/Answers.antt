use Rattle.std.proofs.Common.{◌≡◌, ap, arith, pos, ◌∙◌}
use Rattle.std.proofs.lemmas.Int.{ints}
use Rattle.toml.specs.Data.{integer}
use Rattle.toml.proofs.Views.{view-Integer}
use Rattle.relay_control.proofs.HeldFileLemmas.{one_more_written}
use Rattle.relay_control.proofs.held_file.number_values.Goals as goal
use mir.Syntax.{w64}
use mir.Val.{to_z}

pub loop-number-preserved : goal.loop-number-preserved
loop-number-preserved c =
    let below = c.if-number.false in
    let same : to_z w64 c.in-Some.number.now ≡ pos c.in-Some.number.now = omega (arith, ints) in
    rw c.in_ok-push.ensures.items
    (one_more_written c.loop-number.values.items _ c.in-Some.number.now c.loop-number.number-iterator c.next.new.self c.args.numbers.now.keys
    c.loop-number.invariant c.in-Some.ensures.steps (view-Integer (to_z w64 c.in-Some.number.now) ∙ ap integer same))
