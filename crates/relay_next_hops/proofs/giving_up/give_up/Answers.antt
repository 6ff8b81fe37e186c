-- Its places have ended, and the note of that was taken.
use Rattle.std.proofs.Common.{inr}
use Rattle.relay_connections.proofs.Theorems.{leaves_then}
use Rattle.relay_next_hops.proofs.LeaveLemmas.{given_leaves, not_stopped, note_leaves, ungiven_leaves}
use Rattle.relay_next_hops.proofs.giving_up.give_up.Goals as goal

pub returns-in-Ok-clause-gives_up : goal.returns-in-Ok-clause-gives_up
returns-in-Ok-clause-gives_up g c = record {
  between = c.give_up_unroutable.new.self;
  added = c.in-Ok.field-0;
  ends = c.in-Ok.ensures.ends;
  noted = (c.take_noted-noted.ensures.node, c.take_noted-noted.ensures.connections.0, c.take_noted-noted.ensures.connections.1);
}

pub returns-in-Ok-clause-leaves : goal.returns-in-Ok-clause-leaves
returns-in-Ok-clause-leaves g c =
    let given = c.give_up_unroutable.new.self in
    leaves_then g.D.Disk.honest g.D.Disk.words c.args.relay.now given c.take_noted-noted.new.self
    (given_leaves g.D.Disk.honest g.D.Disk.words _ _ c.args.message c.args.now.now.moment c.in-Ok.field-0 c.args.relay.now given c.in-Ok.ensures.gives_up c.give_up_unroutable.ensures.rest c.give_up_unroutable.ensures.connections)
    (note_leaves g.D.Disk.honest g.D.Disk.words given c.take_noted-noted.new.self (c.take_noted-noted.ensures.node, c.take_noted-noted.ensures.connections.0, c.take_noted-noted.ensures.connections.1))

pub returns-in-Unknown-clause-leaves : goal.returns-in-Unknown-clause-leaves
returns-in-Unknown-clause-leaves g c =
    ungiven_leaves g.D.Disk.honest g.D.Disk.words _ _ c.args.message c.args.now.now.moment c.args.relay.now c.give_up_unroutable.new.self c.in-Err.fault (not_stopped c.in-Err.fault c.in-Unknown.is)
    c.in-Err.ensures.refused c.give_up_unroutable.ensures.rest c.give_up_unroutable.ensures.connections

pub returns : goal.returns
returns g c = record {
  gives_up = inr (inr c.list_anew.ensures.stale);
  others = c.list_anew.ensures.unroutable;
  counts = c.list_anew.ensures.counts;
  tasks = c.list_anew.ensures.tasks;
  config = c.give_up_unroutable.ensures.rest.0;
  leaves =
      ungiven_leaves g.D.Disk.honest g.D.Disk.words _ _ c.args.message c.args.now.now.moment c.args.relay.now c.give_up_unroutable.new.self c.in-Err.fault c.in_default.not-Stopped
      c.in-Err.ensures.refused c.give_up_unroutable.ensures.rest c.give_up_unroutable.ensures.connections;
}
