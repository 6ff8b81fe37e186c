use Rattle.std.proofs.Common.{arith, ◌∙◌}
use Rattle.std.proofs.lemmas.Option.{MatchOption-at_none, MatchOption-at_some}
use Rattle.toml.specs.View.{items_view, table_view}
use Rattle.relay_control.proofs.HeldFileLemmas.{bad_hops, document_holds, other_count}
use Rattle.relay_control.proofs.held_file.held_of.Goals as goal

pub returns-then-len-ne2 : goal.returns-then-len-ne2
returns-then-len-ne2 c =
    let size = c.len.ensures.len in
    let other = c.if-len-ne2.true in
    other_count c.args.document.now.entries (λ two. other (size ∙ two))

pub returns-in_default-2 : goal.returns-in_default-2
returns-in_default-2 c =
    bad_hops (table_view c.args.document.now) (items_view c.in-Some.names.now) c.in-Some.ensures (MatchOption-at_none _ _ c.in_default-2.is c.in_ok-hops.ensures)

pub returns : goal.returns
returns c =
    let size = c.len.ensures.len in
    let two = c.if-len-ne2.false in
    document_holds c.args.document.now.entries (items_view c.in-Some.names.now) (items_view c.in-Some-array_at.numbers.now) c.of.result (omega arith) c.in-Some.ensures
    c.in-Some-array_at.ensures (rw c.of.ensures.hops (MatchOption-at_some _ _ _ c.in-Some-2.is c.in_ok-hops.ensures))
    (rw c.of.ensures.messages (MatchOption-at_some _ _ _ c.in-Some-3.is c.in_ok-messages.ensures))
