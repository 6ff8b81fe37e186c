use Rattle.relay_envelope.specs.Envelope.{IsRecipient}
use Rattle.relay_book.specs.Record.{recipient_octets}
use Rattle.relay_book.proofs.FaultLemmas.{no_memory}
use Rattle.relay_book.proofs.RowLemmas.{no_recipient_row, one_more_row}
use Rattle.relay_book.proofs.decode.recipient.read_row.Goals as goal

pub returns-in-None-clause-bad : goal.returns-in-None-clause-bad
returns-in-None-clause-bad c =
    λ _. no_recipient_row c.args.count c.loop-index.index c.args.text.now c.loop-index.recipients c.loop-index.rest.now
    c.loop-index-test.true c.loop-index.invariant.0 c.loop-index.invariant.1 c.in-None.ensures

pub returns-in_err-recipients-clause-bad : goal.returns-in_err-recipients-clause-bad
returns-in_err-recipients-clause-bad c = no_memory c.from_residual.result c.from_residual.ensures.1

pub returns-in_err-new-in-Some-clause-bad : goal.returns-in_err-new-in-Some-clause-bad
returns-in_err-new-in-Some-clause-bad c = no_memory c.from_residual-in_err-new-in-Some.result c.from_residual-in_err-new-in-Some.ensures.1

pub returns-in_err-push-in-Some-clause-bad : goal.returns-in_err-push-in-Some-clause-bad
returns-in_err-push-in-Some-clause-bad c = no_memory c.from_residual-in_err-push-in-Some.result c.from_residual-in_err-push-in-Some.ensures.1

pub loop-index-preserved : goal.loop-index-preserved
loop-index-preserved c =
    one_more_row IsRecipient recipient_octets c.loop-index.index c.args.text.now c.loop-index.recipients c.loop-index.rest.now c.in_ok-new-in-Some.field-0 _ c.in-Some.after.now
    c.push.new.self c.loop-index.invariant c.in-Some.ensures.0 c.in-Some.ensures.1 c.in_ok-new-in-Some.ensures c.in_ok-push-in-Some.ensures.ok
