-- The search compares by number.
use Rattle.std.proofs.Common.{rules}
use Rattle.std.proofs.lemmas.List.Sorted.{answers_always}
use Rattle.relay_hub.proofs.RiseLemmas.{looked_up}
use Rattle.relay_hub.proofs.told.has_number.Goals as goal

pub returns : goal.returns
returns c =
    let found = c.binary_search_by_key.ensures.position (λ receipt. receipt.number) (answers_always _ _ _ (λ f a r g called. search rules)) in
    rw c.is_ok.ensures.value (looked_up c.args.receipts.now c.args.number c.binary_search_by_key.result c.requires c.binary_search_by_key.ensures.bound found)
