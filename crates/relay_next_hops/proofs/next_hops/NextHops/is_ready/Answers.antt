use Rattle.std.proofs.Common.{sym, ◌∙◌}
use Rattle.std.proofs.lemmas.Bool.{false≢true}
use Rattle.relay_next_hops.proofs.next_hops.NextHops.is_ready.Goals as goal

pub returns-then-may_begin : goal.returns-then-may_begin
returns-then-may_begin g c = λ number left. absurd (false≢true (sym c.if-is_ready.false ∙ c.is_ready.ensures number left))

pub returns-else-may_begin : goal.returns-else-may_begin
returns-else-may_begin g c = λ number left. absurd (false≢true (sym c.if-is_ready.false ∙ c.is_ready.ensures number left))
