use Rattle.std.proofs.Common.{◌≡◌, ◌<◌, length, drop, ap, arith, rules}
use Rattle.relay_pieces.proofs.SeamLemmas.{first_at, first_is}
use Rattle.relay_pieces.proofs.pieces.Pieces.len.Goals as goal

pub overflow_sub-len : goal.overflow_sub-len
overflow_sub-len c =
    let pieces = c.self.inside.rest.items in
    let some : 0 < length pieces = search rules in
    let is = first_at pieces c.in-Some.next.now some c.in-Some.ensures.lookup in
    let own = ap length (first_is pieces (drop 1 pieces) c.in-Some.next.now is) in
    let within = c.self.invariant.within in
    let counted : c.len-2.result ≡ length c.in-Some.next.now.items = search rules in
    omega (arith, own, within, counted)
