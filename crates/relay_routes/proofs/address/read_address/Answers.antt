-- What std reads is an address exactly where no zero leads its port.
use Rattle.std.proofs.Common.{sym, ◌∙◌}
use Rattle.std.proofs.lemmas.Bool.{false≢true}
use Rattle.relay_routes.proofs.AddressLemmas.{plain_address, address_is_plain, leads_where_false, plain_where_true}
use Rattle.relay_routes.proofs.address.read_address.Goals as goal

pub returns-in-Ok : goal.returns-in-Ok
returns-in-Ok c =
    let e = c.has_plain_port.ensures in
    plain_address c.args.text.now c.in-Ok.address c.in-Ok.ensures.value
    (plain_where_true c.has_plain_port.result _ (rw c.as_bytes.ensures.value at e) c.if-has_plain_port.true)

pub returns-in_default : goal.returns-in_default
returns-in_default c = λ address is.
    let e = c.has_plain_port.ensures in
    let leads = leads_where_false c.has_plain_port.result _ (rw c.as_bytes.ensures.value at e) c.if-has_plain_port.false in
    false≢true (sym (address_is_plain c.args.text.now address is).1 ∙ leads)

pub returns-in_default-2 : goal.returns-in_default-2
returns-in_default-2 c = λ address is.
    c.in_default.ensures.value address (address_is_plain c.args.text.now address is).0
