-- The receipts are compared with what the node has accepted.
use Rattle.std.proofs.Common.{◌≡◌, ◌+◌, Bool, true, false, length, rules, sym}
use Rattle.relay_hub.proofs.ListLemmas.{from_number, has_taken}
use Rattle.relay_hub.proofs.hub.Hub.close.Goals as goal

not_both : (b : Bool) → b ≡ true → b ≡ false → ⊥
not_both b is isnt = cc

pub returns-then-are_receipts-clause-closed : goal.returns-then-are_receipts-clause-closed
returns-then-are_receipts-clause-closed g c = λ changes start.
    let same : c.as_slice.result.now ≡ c.args.passes.items = search rules in
    let first = c.close-node.ensures.first changes start in
    has_taken g.D.Disk.honest g.D.Disk.words changes c.args.passes.items c.close-node.result.0.records (c.close-node.ensures.grown changes start)
    (from_number c.close-node.result.1 (length changes + 1) c.close-node.result.0.records.queue c.as_slice.result.now c.args.passes.items first same (c.are_receipts.ensures.0 c.if-are_receipts.true))

pub returns-else-are_receipts-clause-mismatch : goal.returns-else-are_receipts-clause-mismatch
returns-else-are_receipts-clause-mismatch g c = λ changes start are.
    let same : c.as_slice.result.now ≡ c.args.passes.items = search rules in
    let first = c.close-node.ensures.first changes start in
    not_both _ (c.are_receipts.ensures.1 (from_number (length changes + 1) c.close-node.result.1 c.close-node.result.0.records.queue c.args.passes.items c.as_slice.result.now (sym first) (sym same) are)) c.if-are_receipts.false
