-- It has no connection to a next hop any more.
use Rattle.relay_run.proofs.shell.Shell.opened.Goals as goal

pub returns-clause-matches : goal.returns-clause-matches
returns-clause-matches g c = c.renewed.ensures.matches _
