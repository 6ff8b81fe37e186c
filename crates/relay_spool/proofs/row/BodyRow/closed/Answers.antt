use Rattle.std.proofs.Common.{◌≡◌, ◌∙◌, ◌≤◌, sym, length, arith, rules}
use Rattle.std.specs.Prelude.{vec_capacity, vec_len}
use Rattle.relay_spool.specs.Row.{bodies_of_chain}
use Rattle.relay_spool.proofs.RowLemmas.{some_chain}
use Rattle.relay_spool.proofs.row.BodyRow.closed.Goals as goal

pub unreachable-requires : goal.unreachable-requires
unreachable-requires c =
    let links = c.self.inside.links in
    let some = some_chain links.items (bodies_of_chain links.items) c.self.invariant.0 (λ none. c.requires (sym c.self.view_is ∙ none)) in
    let room = c.self.invariant.1 some in
    let full : vec_capacity links ≤ vec_len links = c.in-Err.ensures.full in
    let same : vec_len links ≡ length links.items = search rules in
    omega (arith, room, full, same)
