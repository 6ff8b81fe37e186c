use Rattle.std.proofs.lemmas.List.{take_rest}
use Rattle.relay_routes.proofs.NetworkLemmas.{alone, no_length, none_before, none_through, prefixed, slash_found}
use Rattle.relay_routes.proofs.network.Network.read.Goals as goal

pub returns-in_err-prefix_length-in-Some : goal.returns-in_err-prefix_length-in-Some
returns-in_err-prefix_length-in-Some c =
    let found = c.in-Some.ensures in
    rw c.from_residual.ensures
    (no_length c.args.text.now _ _ (slash_found c.args.text.now c.in-Some.place found.0 found.1) (none_before c.args.text.now c.in-Some.place found.0)
    (rw take_rest at c.in_err-prefix_length-in-Some.ensures))

pub returns-in_ok-prefix_length-in-Some : goal.returns-in_ok-prefix_length-in-Some
returns-in_ok-prefix_length-in-Some c =
    let found = c.in-Some.ensures in
    let read = c.in_ok-prefix_length-in-Some.ensures in
    prefixed c.args.text.now _ _ c.in_ok-prefix_length-in-Some.prefix_length c.at.result (slash_found c.args.text.now c.in-Some.place found.0 found.1) (none_before c.args.text.now c.in-Some.place found.0)
    read.0 (rw take_rest at read.1) c.at.ensures

pub returns-in-None : goal.returns-in-None
returns-in-None c = alone c.args.text.now _ (none_through c.args.text.now c.in-None.ensures) c.at-in-None.ensures
