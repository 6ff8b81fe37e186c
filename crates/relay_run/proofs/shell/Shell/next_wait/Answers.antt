-- Where the shell does not wait, nothing else makes a wait longer.
use Rattle.std.proofs.Common.{arith}
use Rattle.relay_run.proofs.shell.Shell.next_wait.Goals as goal

pub returns-clause-client : goal.returns-clause-client
returns-clause-client g c = λ number left. omega (arith, c.wait.ensures.client number left, c.shortened.ensures)

pub returns-clause-hop : goal.returns-clause-hop
returns-clause-hop g c = λ number left. omega (arith, c.wait.ensures.hop number left, c.shortened.ensures)
