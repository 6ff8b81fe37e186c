use Rattle.relay_control.proofs.HeldFileLemmas.{one_more_name_written}
use Rattle.relay_control.proofs.held_file.name_values.Goals as goal

pub loop-name-preserved : goal.loop-name-preserved
loop-name-preserved c =
    rw c.in_ok-push.ensures.items
    (one_more_name_written c.loop-name.values.items c.args.names.now c.loop-name.name-index c.in_ok-name_value.field-0 c.name-item.result c.loop-name-test.true
    c.name-item.is c.loop-name.invariant c.in_ok-name_value.ensures)
