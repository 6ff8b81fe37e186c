-- An attempt has begun, and its loss is recorded or refused.
use Rattle.std.proofs.Common.{inr, None}
use Rattle.relay_next_hops.proofs.LeaveLemmas.{leaves_equal, leaves_on, start_leaves}
use Rattle.relay_next_hops.proofs.ending.lose_at_once.Goals as goal

pub returns-in-Ok-clause-lost : goal.returns-in-Ok-clause-lost
returns-in-Ok-clause-lost g c = λ is. record {
  started = c.in-Ok.started;
  between = c.start.new.self;
  starts = c.in-Ok.ensures.begins;
  records = c.start.ensures.records;
  loses = c.lose_attempt.ensures.lost is;
}

pub returns-in-Ok-clause-refused : goal.returns-in-Ok-clause-refused
returns-in-Ok-clause-refused g c = λ is. inr (record {
  started = c.in-Ok.started;
  between = c.start.new.self;
  starts = c.in-Ok.ensures.begins;
  refuses = c.lose_attempt.ensures.refused is;
})

pub returns-in-Ok-clause-leaves : goal.returns-in-Ok-clause-leaves
returns-in-Ok-clause-leaves g c =
    leaves_on g.D.Disk.honest g.D.Disk.words c.lose_attempt.result c.args.relay.now c.start.new.self c.lose_attempt.new.relay
    (start_leaves g.D.Disk.honest g.D.Disk.words c.args.relay.now c.start.new.self c.args.message c.args.name.now None c.args.now.now.moment c.in-Ok.started
    c.in-Ok.ensures.starts c.start.ensures.records c.in-Ok.ensures.only)
    c.lose_attempt.ensures.leaves

pub returns-in-Err-clause-leaves : goal.returns-in-Err-clause-leaves
returns-in-Err-clause-leaves g c = leaves_equal g.D.Disk.honest g.D.Disk.words c.args.relay.now c.start.new.self c.in-Err.ensures.unchanged
