use Rattle.std.proofs.Common.{sym, ◌∙◌}
use Rattle.std.proofs.lemmas.Bool.{false≢true}
use Rattle.relay_run.proofs.shell.Shell.wait.Goals as goal

pub returns-clause-client : goal.returns-clause-client
returns-clause-client g c = λ number left. absurd (false≢true (sym c.if-is_ready.false ∙ c.is_ready.ensures.client number left))

pub returns-clause-hop : goal.returns-clause-hop
returns-clause-hop g c = λ number left. absurd (false≢true (sym c.if-is_ready.false ∙ c.is_ready.ensures.hop number left))
