-- The ledger has counted as many as the passes have.
use Rattle.std.proofs.Common.{◌≡◌, ◌+◌, ℕ, rules, arith, subst}
use Rattle.relay_hub.specs.Hub.{GrowsBy}
use Rattle.relay_hub.specs.Receipts.{count_of}
use Rattle.relay_hub.proofs.desk.Desk.close.Goals as goal

pub returns-clause-grown : goal.returns-clause-grown
returns-clause-grown g c = λ changes start.
    let total : c.self.inside.queued.total ≡ c.self.inside.rest.amount + count_of c.args.passes.now.items = search rules in
    let none = c.self.invariant.3 in
    let all : c.self.inside.queued.total ≡ count_of c.args.passes.now.items = omega (arith, total, none) in
    subst (λ (n : ℕ). GrowsBy g.D.Disk.honest g.D.Disk.words changes n c.self.inside.node.records) all (c.self.invariant.0 changes start)
