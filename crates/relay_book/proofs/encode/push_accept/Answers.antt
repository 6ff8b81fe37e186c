use Rattle.std.proofs.Common.{◌≡◌, ◌++◌, List, ℕ, ap, ◌∙◌, rules}
use Rattle.std.proofs.lemmas.Result.{on_ok_weaker}
use Rattle.relay_envelope.specs.declared.envelope.Recipient.{Recipient}
use Rattle.relay_book.specs.Record.{counted, recipient_octets, sized_4}
use Rattle.relay_book.proofs.WriteLemmas.{accept_written}
use Rattle.relay_book.proofs.encode.push_accept.Goals as goal

pub returns : goal.returns
returns c =
    let recipients_are : c.as_slice.result.now ≡ c.args.accept.now.envelope.recipients = search rules in
    let stored_is : c.as_slice-2.result.now ≡ c.args.accept.now.stored_text = search rules in
    on_ok_weaker c.push_sized_4.result
    (λ last. accept_written c.args.accept.now c.args.out.now.items c.push_mail.new.out.items c.push_recipients.new.out.items c.push_sized_4.new.out.items c.in_ok-push_mail.ensures
    (c.in_ok-push_recipients.ensures ∙ ap (λ (l : List Recipient). c.push_mail.new.out.items ++ counted recipient_octets l) recipients_are)
    (last ∙ ap (λ (l : List ℕ). c.push_recipients.new.out.items ++ sized_4 l) stored_is)) c.push_sized_4.ensures
