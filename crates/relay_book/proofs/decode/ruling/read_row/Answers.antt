use Rattle.relay_book.proofs.FaultLemmas.{fault_as, no_memory}
use Rattle.relay_book.proofs.RowLemmas.{no_ruling_row, one_more_row}
use Rattle.std.proofs.Common.{refl}
use Rattle.relay_book.specs.Record.{IsRuling, ruling_octets}
use Rattle.relay_book.proofs.decode.ruling.read_row.Goals as goal

pub returns-in-Err-clause-bad : goal.returns-in-Err-clause-bad
returns-in-Err-clause-bad c =
    λ bad. no_ruling_row c.args.count c.loop-index.index c.args.text.now c.loop-index.rulings c.loop-index.rest.now
    c.loop-index-test.true c.loop-index.invariant.0 c.loop-index.invariant.1 (c.in-Err.ensures.bad (fault_as _ c.in-Err.fault _ bad))

pub returns-in_err-push-in-Ok-clause-bad : goal.returns-in_err-push-in-Ok-clause-bad
returns-in_err-push-in-Ok-clause-bad c = no_memory c.from_residual.result c.from_residual.ensures.1

pub loop-index-preserved : goal.loop-index-preserved
loop-index-preserved c =
    one_more_row IsRuling ruling_octets c.loop-index.index c.args.text.now c.loop-index.rulings c.loop-index.rest.now c.in-Ok.ruling c.in-Ok.ruling c.in-Ok.after.now
    c.push.new.self c.loop-index.invariant c.in-Ok.ensures.ruling.0 c.in-Ok.ensures.ruling.1 refl c.in_ok-push-in-Ok.ensures.ok
