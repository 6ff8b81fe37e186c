-- so far the configuration is the one that the spool is to have
use Rattle.relay_run.specs.Reopening.{KeepsConfig}
use Rattle.relay_run.proofs.reopening.wait_for_room.Given as goal

abbrev pub invariant-loop : goal.invariant-loop
invariant-loop g l = KeepsConfig l.fn.closed.config l.closed.config
