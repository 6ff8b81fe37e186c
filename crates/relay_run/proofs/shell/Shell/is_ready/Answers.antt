use Rattle.std.proofs.Common.{sym, ◌∙◌}
use Rattle.std.proofs.lemmas.Bool.{false≢true}
use Rattle.relay_run.proofs.shell.Shell.is_ready.Goals as goal

pub returns-then-is_ready-5-clause-client : goal.returns-then-is_ready-5-clause-client
returns-then-is_ready-5-clause-client g c = λ number left. absurd (false≢true (sym c.if-is_ready.false ∙ c.is_ready.ensures number left))

pub returns-then-is_ready-5-clause-hop : goal.returns-then-is_ready-5-clause-hop
returns-then-is_ready-5-clause-hop g c = λ number left. absurd (false≢true (sym c.if-is_ready-2.false ∙ c.is_ready-2.ensures number left))

pub returns-else-is_ready-5-clause-client : goal.returns-else-is_ready-5-clause-client
returns-else-is_ready-5-clause-client g c = λ number left. absurd (false≢true (sym c.if-is_ready.false ∙ c.is_ready.ensures number left))

pub returns-else-is_ready-5-clause-hop : goal.returns-else-is_ready-5-clause-hop
returns-else-is_ready-5-clause-hop g c = λ number left. absurd (false≢true (sym c.if-is_ready-2.false ∙ c.is_ready-2.ensures number left))
