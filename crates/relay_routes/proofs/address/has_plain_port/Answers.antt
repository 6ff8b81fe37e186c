-- A search for the colon finds what stands after it.
use Rattle.std.proofs.Common.{not, ap, sym}
use Rattle.std.proofs.lemmas.List.{take_rest}
use Rattle.relay_routes.specs.Value.{begins_with_zero}
use Rattle.relay_routes.proofs.AddressLemmas.{after_found, after_none}
use Rattle.relay_routes.proofs.address.has_plain_port.Goals as goal

pub returns-in-Some : goal.returns-in-Some
returns-in-Some c =
    let found = c.in-Some.ensures in
    rw (after_found c.args.text.now c.in-Some.place found.0 found.1, c.begins_with_zero.ensures, take_rest)

pub returns-in-None : goal.returns-in-None
returns-in-None c =
    sym (ap (λ after. not (begins_with_zero after)) (after_none c.args.text.now c.in-None.ensures))
