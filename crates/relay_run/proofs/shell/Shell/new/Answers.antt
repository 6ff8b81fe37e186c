-- There is no connection to a next hop yet.
use Rattle.relay_run.proofs.shell.Shell.new.Goals as goal

pub returns-clause-matches : goal.returns-clause-matches
returns-clause-matches g c = c.in_ok-next_hops.ensures.matches _
