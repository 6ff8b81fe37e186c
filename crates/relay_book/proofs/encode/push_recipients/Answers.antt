use Rattle.relay_book.specs.Record.{recipient_octets}
use Rattle.relay_book.proofs.RowLemmas.{flat_end, flat_step}
use Rattle.relay_book.proofs.encode.push_recipients.Goals as goal

pub loop-recipient-preserved : goal.loop-recipient-preserved
loop-recipient-preserved c =
    flat_step recipient_octets c.args.recipients.now c.loop-recipient.recipient-index c.recipient-item.result c.loop-recipient.out.items c.push_recipient.new.out.items _ c.loop-recipient-test.true
    c.recipient-item.is c.loop-recipient.invariant c.in_ok-push_recipient.ensures

pub returns : goal.returns
returns c =
    flat_end recipient_octets c.args.recipients.now c.loop-recipient.recipient-index c.args.out.now.items c.push_1.new.out.items c.loop-recipient.out.items c.loop-recipient-test.false
    c.in_ok-push_1.ensures c.loop-recipient.invariant
