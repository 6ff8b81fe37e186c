-- the address of ORCPT, in plain octets
use Rattle.std.proofs.Common.{◌≡◌, ℕ, List, ◌++◌, OnOk, codes, sym, ap, ◌∙◌, subst}
use Rattle.std.specs.Option.{option_copied}
use Rattle.relay_envelope.specs.Parameters.{address_type_of}
use Rattle.relay_report.specs.StatusFields.{field, original_recipient, plain_of, typed}
use Rattle.relay_report.proofs.JoinLemmas.{ends_by}
use Rattle.relay_report.proofs.status_fields.push_original_recipient.Goals as goal

pub returns-in_ok-plain-in-Some : goal.returns-in_ok-plain-in-Some
returns-in_ok-plain-in-Some c =
    let old = c.args.out.now.items in
    let name = codes "Original-Recipient" in
    let orcpt = c.in-Some.orcpt.now in
    let kind = c.address_type.result.now in
    let plain = c.as_slice.result.now in
    let plain_is = c.as_slice.ensures ∙ c.in_ok-plain-in-Some.ensures ∙ ap plain_of c.address.ensures in
    let same = ap (λ (k : List ℕ). field name (typed k plain)) c.address_type.ensures
    ∙ ap (λ (p : List ℕ). field name (typed (address_type_of orcpt) p)) plain_is in
    subst (λ o. OnOk c.push_typed_field.result (c.push_typed_field.new.out.items ≡ old ++ original_recipient (option_copied o))) (sym c.in-Some.is)
    (ends_by c.push_typed_field.result c.push_typed_field.new.out.items (old ++ field name (typed kind plain)) _
    (ap (λ (f : List ℕ). old ++ f) same) c.push_typed_field.ensures)
