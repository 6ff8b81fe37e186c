use Rattle.relay_control.specs.HeldFile.{IsMessage}
use Rattle.relay_control.proofs.HeldFileLemmas.{none_is, one_more_held}
use Rattle.relay_control.proofs.held_file.read_numbers.Goals as goal

pub returns-in-None : goal.returns-in-None
returns-in-None c =
    none_is IsMessage c.args.values.now c.loop-value.value-index c.value-item.result c.loop-value-test.true c.value-item.is c.in-None.ensures

pub loop-value-preserved : goal.loop-value-preserved
loop-value-preserved c =
    one_more_held c.args.values.now c.loop-value.value-index c.value-item.result c.in-Some.number c.loop-value.messages c.insert.new.self c.loop-value-test.true
    c.value-item.is c.loop-value.invariant c.in-Some.ensures c.in_ok-insert-in-Some.ensures.updates.0
