-- The loss is recorded, and its note was taken.
use Rattle.std.proofs.Common.{inl, rules}
use Rattle.relay_connections.proofs.Theorems.{leaves_then}
use Rattle.relay_next_hops.proofs.LeaveLemmas.{note_leaves}
use Rattle.relay_next_hops.proofs.ending.record_and_note.Goals as goal

pub returns-in-Ok-true-clause-lost : goal.returns-in-Ok-true-clause-lost
returns-in-Ok-true-clause-lost g c = inl (record {
  between = c.record_loss.new.relay;
  loses = c.in-Ok-true.ensures.lost (search rules);
  noted = (c.take_noted.ensures.node, c.take_noted.ensures.connections.0, c.take_noted.ensures.connections.1);
})

pub returns-in-Ok-true-clause-leaves : goal.returns-in-Ok-true-clause-leaves
returns-in-Ok-true-clause-leaves g c =
    leaves_then g.D.Disk.honest g.D.Disk.words c.args.relay.now c.record_loss.new.relay c.take_noted.new.self c.in-Ok-true.ensures.leaves
    (note_leaves g.D.Disk.honest g.D.Disk.words c.record_loss.new.relay c.take_noted.new.self (c.take_noted.ensures.node, c.take_noted.ensures.connections.0, c.take_noted.ensures.connections.1))

pub returns-in-Ok-true-clause-recorded : goal.returns-in-Ok-true-clause-recorded
returns-in-Ok-true-clause-recorded g c = record {
  between = c.record_loss.new.relay;
  loses = c.in-Ok-true.ensures.lost (search rules);
  noted = (c.take_noted.ensures.node, c.take_noted.ensures.connections.0, c.take_noted.ensures.connections.1);
}
