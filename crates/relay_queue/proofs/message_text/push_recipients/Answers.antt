-- one recipient more, and all of them
use Rattle.std.proofs.Common.{rules, ◌≡◌, ◌++◌, ◌<◌, ◌≤◌, length, get_or, slice_get, subst}
use Rattle.relay_queue.specs.Message.{recipient_lines}
use Rattle.relay_queue.proofs.RecipientLemmas.{all_lines, no_lines, one_line_more}
use Rattle.relay_queue.proofs.message_text.push_recipients.Goals as goal

pub loop-index-init : goal.loop-index-init
loop-index-init c = no_lines c.args.table.now c.args.message.now c.args.screen.now

pub loop-index-preserved : goal.loop-index-preserved
loop-index-preserved c =
    let message = c.args.message.now in
    let index = c.loop-index.index in
    let pushed = c.in_ok-push_entry.ensures in
    let more : index < length message.accept.envelope.recipients = search rules in
    let recipient : c.recipient-item.result ≡ get_or message.accept.envelope.recipients index c.recipient-item.result = search rules in
    one_line_more c.args.table.now message index c.recipient-item.result c.args.screen.now c.loop-index.screen c.push_entry.new.screen pushed.0 more
    c.loop-index.invariant
    (subst (λ it. c.push_entry.new.screen ≡ c.loop-index.screen ++ recipient_lines c.args.table.now (slice_get message.places index) (it, pushed.0)) recipient
    (subst (λ it. c.push_entry.new.screen ≡ c.loop-index.screen ++ recipient_lines c.args.table.now it (c.recipient-item.result, pushed.0)) c.place_at-place.ensures pushed.1))

pub returns : goal.returns
returns c =
    let all : length c.args.message.now.accept.envelope.recipients ≤ c.loop-index.index = search rules in
    all_lines c.args.table.now c.args.message.now c.loop-index.index c.args.screen.now c.loop-index.screen all c.loop-index.invariant
