use Rattle.std.proofs.Common.{List, ℕ, sym, subst, ◌∙◌}
use Rattle.std.proofs.lemmas.Bool.{false≢true}
use Rattle.relay_proxy.specs.Header.{Reads}
use Rattle.relay_proxy.proofs.HeaderLemmas.{begins_as_none, word_begun}
use Rattle.relay_proxy.proofs.header.read_header.Goals as goal

pub returns-in-Some : goal.returns-in-Some
returns-in-Some c = subst (λ (octets : List ℕ). Reads octets c.read_block.result) (sym c.in-Some.ensures) c.read_block.ensures

pub returns-then-is_begun : goal.returns-then-is_begun
returns-then-is_begun c =
    rw c.least_left.ensures (word_begun c.args.octets.now (c.is_begun.ensures.0 c.if-is_begun.true))

pub returns-else-is_begun : goal.returns-else-is_begun
returns-else-is_begun c =
    begins_as_none c.args.octets.now c.in_default.ensures
    (λ begins. false≢true (sym c.if-begins.false ∙ c.begins.ensures.1 begins))
    (λ begun. false≢true (sym c.if-is_begun.false ∙ c.is_begun.ensures.1 begun))
