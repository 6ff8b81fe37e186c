-- The attempt has begun by the moment that was computed for it.
use Rattle.std.proofs.Common.{rules, true, ℕ, Some, subst}
use Rattle.relay_attempts.specs.Attempts.{RefusesToStartAtMost, StartsAtMost}
use Rattle.relay_next_hops.proofs.LeaveLemmas.{leaves_equal, start_leaves}
use Rattle.relay_next_hops.proofs.TellingLemmas.{told_greeting}
use Rattle.relay_next_hops.proofs.hop.Hop.begin.Goals as goal

pub returns-in-Ok-clause-starts : goal.returns-in-Ok-clause-starts
returns-in-Ok-clause-starts g c = λ fresh runs. record {
  started = c.in-Ok.started;
  begins =
      subst (λ (at : ℕ). StartsAtMost c.args.relay.now.node.config.host c.args.relay.now.node.config.routes c.args.self.now.message c.args.self.now.name (Some c.args.most) at c.args.relay.now.node.records.queue c.args.relay.now.node.attempts c.start_some.new.self.node.attempts c.in-Ok.started)
      c.start_moment-at.ensures c.in-Ok.ensures.begins;
  attempt_is = search rules;
  records = search rules;
  only = search rules;
}

pub returns-in-Ok-clause-leaves : goal.returns-in-Ok-clause-leaves
returns-in-Ok-clause-leaves g c =
    start_leaves g.D.Disk.honest g.D.Disk.words c.args.relay.now c.start_some.new.self c.args.self.now.message c.args.self.now.name (Some c.args.most) c.start_moment-at.result c.in-Ok.started
    c.in-Ok.ensures.starts c.start_some.ensures.records c.in-Ok.ensures.only

pub returns-in-Err-clause-leaves : goal.returns-in-Err-clause-leaves
returns-in-Err-clause-leaves g c = leaves_equal g.D.Disk.honest g.D.Disk.words c.args.relay.now c.start_some.new.self c.in-Err.ensures.unchanged

pub returns-in-Ok-clause-told : goal.returns-in-Ok-clause-told
returns-in-Ok-clause-told g c = λ none silent.
    told_greeting c.args.self.now c.wait_on.new.self (record c.wait_on.new.self { talk = c.hear.new.self; hears = true })
    c.note_message.new.self c.piece.result.now c.in-Ok.started.attempt silent c.wait_on.ensures.talk
    c.note_message.ensures.heard c.hear.ensures.heard c.piece.ensures c.wait_on.ensures.attempt

pub returns-in-Ok-clause-begins : goal.returns-in-Ok-clause-begins
returns-in-Ok-clause-begins g c = λ fresh. record {
  started = c.in-Ok.started;
  begins =
      subst (λ (at : ℕ). StartsAtMost c.args.relay.now.node.config.host c.args.relay.now.node.config.routes c.args.self.now.message c.args.self.now.name (Some c.args.most) at c.args.relay.now.node.records.queue c.args.relay.now.node.attempts c.start_some.new.self.node.attempts c.in-Ok.started)
      c.start_moment-at.ensures c.in-Ok.ensures.begins;
  attempt_is = search rules;
  records = search rules;
  only = search rules;
}

pub returns-in-Err-clause-begins : goal.returns-in-Err-clause-begins
returns-in-Err-clause-begins g c = λ fresh. (
  fresh,
  record {
    fault = c.in-Err.field-0;
    refused =
        subst (λ (at : ℕ). RefusesToStartAtMost c.args.relay.now.node.config.host c.args.relay.now.node.config.routes c.args.self.now.message c.args.self.now.name (Some c.args.most) at c.args.relay.now.node.records c.args.relay.now.node.attempts c.in-Err.field-0)
        c.start_moment-at.ensures c.in-Err.ensures.refused;
    same = c.in-Err.ensures.unchanged;
  },
)
