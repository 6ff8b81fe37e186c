-- What the attempts have done by the queue, by the list of changes.
use Rattle.std.proofs.Common.{◌≡◌, ◌∙◌, true, true≢false, refl, rules, sym}
use Rattle.relay_node.proofs.NodeLemmas.{standing_of}
use Rattle.relay_node.proofs.ReplyLemmas.{ended_there, refuses_reply, there_unknown, told_by_queue, unknown_there}
use Rattle.relay_node.proofs.node.Node.lost.Goals as goal
use Rattle.relay_report.specs.Report.{reporter_of}

pub returns-clause-lost : goal.returns-clause-lost
returns-clause-lost g c = rw (← c.self.view_is) (λ changes told keeps tells.
    c.lost.ensures.lost changes told keeps
    (told_by_queue c.self.inside.config.host changes c.self.inside.records.queue keeps.fitting keeps.queue c.self.inside.config.routes c.self.inside.attempts c.args.attempt told c.self.invariant.1 tells))

pub returns-clause-cut : goal.returns-clause-cut
returns-clause-cut g c = rw (← c.self.view_is) (λ changes told keeps tells stopped.
    c.lost.ensures.cut changes told keeps
    (told_by_queue c.self.inside.config.host changes c.self.inside.records.queue keeps.fitting keeps.queue c.self.inside.config.routes c.self.inside.attempts c.args.attempt told c.self.invariant.1 tells) stopped)

pub returns-clause-full : goal.returns-clause-full
returns-clause-full g c = rw (← c.self.view_is) (λ changes told keeps tells full.
    c.lost.ensures.full told
    (told_by_queue c.self.inside.config.host changes c.self.inside.records.queue keeps.fitting keeps.queue c.self.inside.config.routes c.self.inside.attempts c.args.attempt told c.self.invariant.1 tells) full)

pub returns-clause-refused : goal.returns-clause-refused
returns-clause-refused g c = rw (← c.self.view_is) (
    let live : c.self.inside.records.spool.live ≡ true = search rules in
    let there = ended_there g.D.Disk.words (reporter_of c.self.inside.config) c.args.now c.args.attempt c.self.inside.attempts.runs c.lost.new.self.runs c.self.inside.records c.lost.new.records c.lost.result c.lost.ensures.ends in
    record {
      refused = λ is_live.
          refuses_reply g.D.Disk.words c.args.attempt c.self.inside.attempts c.lost.new.self
          (standing_of c.self.inside.config c.self.inside.seats c.self.inside.attempts.runs c.self.inside.records)
          (standing_of c.self.inside.config c.self.inside.seats c.lost.new.self.runs c.lost.new.records) refl refl refl refl is_live c.lost.result c.lost.ensures.refused;
      stopped = λ dead. absurd (true≢false (sym live ∙ dead));
      unknown = (
        λ is. (live, unknown_there g.D.Disk.words c.args.attempt c.self.inside.attempts c.lost.new.self c.self.inside.records c.lost.new.records live c.lost.result c.lost.ensures.refused is),
        λ both. there_unknown g.D.Disk.words c.args.attempt c.self.inside.attempts c.lost.new.self c.self.inside.records c.lost.new.records live c.lost.result there c.lost.ensures.refused both.1,
      );
    })
