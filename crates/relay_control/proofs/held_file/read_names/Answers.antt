use Rattle.std.proofs.lemmas.Option.{MatchOption-at_none, MatchOption-at_some}
use Rattle.relay_control.specs.HeldFile.{IsName}
use Rattle.relay_control.proofs.HeldFileLemmas.{each_more, none_is}
use Rattle.relay_control.proofs.held_file.read_names.Goals as goal

pub returns-in-None : goal.returns-in-None
returns-in-None c =
    none_is IsName c.args.values.now c.loop-value.value-index c.value-item.result c.loop-value-test.true c.value-item.is
    (MatchOption-at_none _ _ c.in-None.is c.in_ok-name.ensures)

pub loop-value-preserved : goal.loop-value-preserved
loop-value-preserved c =
    rw c.in_ok-push-in-Some.ensures.items
    (each_more IsName c.args.values.now c.loop-value.names.items c.loop-value.value-index c.value-item.result c.in-Some.name c.loop-value-test.true c.value-item.is
    c.loop-value.invariant (MatchOption-at_some _ _ _ c.in-Some.is c.in_ok-name.ensures))
