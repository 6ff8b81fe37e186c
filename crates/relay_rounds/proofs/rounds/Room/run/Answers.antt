-- What the hub's close says of the passes is said of the receipts that the links have.
use Rattle.std.proofs.Common.{◌≡◌, ◌∙◌, List, subst}
use Rattle.relay_hub.specs.declared.receipt.Receipt.{Receipt}
use Rattle.relay_rounds.specs.Round.{AreTogether, receipts_of}
use Rattle.relay_rounds.proofs.LaneLemmas.{receipts_are}
use Rattle.relay_rounds.proofs.rounds.Room.run.Goals as goal

pub returns-clause-run : goal.returns-clause-run
returns-clause-run g c = λ changes starts.
    let same : receipts_of c.put_together.result.items ≡ c.serve.result.0.items =
    receipts_are c.close-node.result.1.items c.serve.result.1.items c.put_together.result.items c.put_together.ensures ∙ c.close-node.ensures.passes in
    rw same (c.close-node.ensures.run changes starts)

pub returns-clause-links : goal.returns-clause-links
returns-clause-links g c =
    c.serve.ensures.out c.put_together.result.items
    (subst (λ (l : List (List Receipt)). AreTogether l c.serve.result.1.items c.put_together.result.items) c.close-node.ensures.passes c.put_together.ensures)
