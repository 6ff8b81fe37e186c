use Rattle.std.proofs.Common.{◌≡◌, ◌++◌, List, ℕ, ap, ◌∙◌, rules}
use Rattle.std.specs.List.{zip}
use Rattle.std.proofs.lemmas.Result.{on_ok_weaker}
use Rattle.relay_envelope.specs.declared.envelope.Recipient.{Recipient}
use Rattle.relay_book.specs.declared.message.Place.{Place}
use Rattle.relay_book.specs.declared.version.SnapshotVersion.TheVariants.{WithDelay}
use Rattle.relay_book.specs.Record.{counted, sized_4}
use Rattle.relay_book.specs.Snapshot.{placed_octets}
use Rattle.relay_book.proofs.WriteLemmas.{entry_written}
use Rattle.relay_book.proofs.encode.push_entry.Goals as goal

pub returns : goal.returns
returns c =
    let recipients_are : c.as_slice.result.now ≡ c.args.message.now.accept.envelope.recipients = search rules in
    let places_are : c.as_slice-2.result.now ≡ c.args.message.now.places = search rules in
    let stored_is : c.as_slice-3.result.now ≡ c.args.message.now.accept.stored_text = search rules in
    on_ok_weaker c.push_sized_4.result
    (λ last. entry_written c.args.number c.args.message.now c.args.out.now.items c.push_8.new.out.items c.push_mail.new.out.items c.push_placed.new.out.items c.push_sized_4.new.out.items
    c.in_ok-push_8.ensures c.in_ok-push_mail.ensures
    (c.in_ok-push_placed.ensures
    ∙ ap (λ (l : List Recipient). c.push_mail.new.out.items ++ counted (placed_octets WithDelay) (zip l c.as_slice-2.result.now)) recipients_are
    ∙ ap (λ (l : List Place). c.push_mail.new.out.items ++ counted (placed_octets WithDelay) (zip c.args.message.now.accept.envelope.recipients l)) places_are)
    (last ∙ ap (λ (l : List ℕ). c.push_placed.new.out.items ++ sized_4 l) stored_is)) c.push_sized_4.ensures
