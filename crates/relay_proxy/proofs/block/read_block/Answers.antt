use Rattle.std.proofs.Common.{◌≡◌, get_or, drop}
use Rattle.std.proofs.lemmas.List.{take_rest}
use Rattle.relay_proxy.specs.Block.{two_octets}
use Rattle.relay_proxy.proofs.BlockLemmas.{block_begun, block_without_meaning, fields_begun, fields_of, found_block}
use Rattle.relay_proxy.proofs.block.read_block.Goals as goal

pub returns-then-rest-size : goal.returns-then-rest-size
returns-then-rest-size c =
    let size_is : c.from-size.result ≡ two_octets (get_or c.args.octets.now 2 0) (get_or c.args.octets.now 3 0) = cc in
    let few = rw take_rest at c.if-rest-size.true in
    rw take_rest
    (block_begun c.args.octets.now (drop 4 c.args.octets.now) _ _ _ _ c.from-size.result (fields_of c.args.octets.now c.in-len4-up.len_at_least) size_is c.if-size-gt-REST_LIMIT.false few)

pub returns-in_default : goal.returns-in_default
returns-in_default c = fields_begun c.args.octets.now c.in_default.len_below

pub returns-in-Some : goal.returns-in-Some
returns-in-Some c =
    let size_is : c.from-size.result ≡ two_octets (get_or c.args.octets.now 2 0) (get_or c.args.octets.now 3 0) = cc in
    let within = rw take_rest at c.if-rest-size.false in
    let says = rw take_rest at c.in-Some.ensures in
    found_block c.args.octets.now (drop 4 c.args.octets.now) _ _ _ _ c.from-size.result c.in-Some.source (fields_of c.args.octets.now c.in-len4-up.len_at_least) size_is c.if-size-gt-REST_LIMIT.false within says

pub returns-in-None : goal.returns-in-None
returns-in-None c =
    let size_is : c.from-size.result ≡ two_octets (get_or c.args.octets.now 2 0) (get_or c.args.octets.now 3 0) = cc in
    let within = rw take_rest at c.if-rest-size.false in
    let none = rw take_rest at c.in-None.ensures in
    block_without_meaning c.args.octets.now (drop 4 c.args.octets.now) _ _ _ _ c.from-size.result (fields_of c.args.octets.now c.in-len4-up.len_at_least) size_is within none
