-- Nothing was added yet.
use Rattle.relay_hub.proofs.HubLemmas.{grown_by_nothing}
use Rattle.relay_hub.proofs.desk.Desk.new.Goals as goal

pub invariant_of-result : goal.invariant_of-result
invariant_of-result g c = (
  grown_by_nothing g.D.Disk.honest g.D.Disk.words g.J.Opening.starts c.args.node.records c.args.queued.total c.requires.none c.requires.starts,
  λ changes start. c.next_number-first.ensures.kept changes (c.requires.starts changes start),
  c.requires.rest.0,
  c.requires.rest.1,
  c.requires.answers,
)
