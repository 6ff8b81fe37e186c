-- One report more was noted.
use Rattle.relay_run.proofs.shell.Shell.hear_reports.Goals as goal

pub loop-preserved : goal.loop-preserved
loop-preserved g c = (
  λ changes setting served. c.note_under.ensures.served changes setting (c.loop.invariant.0 changes setting served),
  λ matches. c.note_under.ensures.matches (c.loop.invariant.1 matches),
)
