-- Without memory for outcomes nothing is withdrawn.
use Rattle.std.proofs.Common.{[]}
use Rattle.relay_run.specs.Withdrawing.{HaveNone}
use Rattle.relay_run.proofs.shell.Shell.withdraw.Goals as goal

pub returns-in_default-clause-withdraws : goal.returns-in_default-clause-withdraws
returns-in_default-clause-withdraws g c = ([], HaveNone c.args.names.now c.args.self.now.relay, tt)
