-- A new relay has no connection to a next hop yet.
use Rattle.relay_run.proofs.shell.Shell.unsteered.Goals as goal

pub returns : goal.returns
returns g c = c.in_ok-prepare.ensures.matches _ c.in_ok-shell.ensures.matches
