-- What the attempts have done by the queue, by the list of changes.
use Rattle.std.proofs.Common.{◌≡◌, ◌∙◌, true, true≢false, refl, rules, sym}
use Rattle.relay_node.proofs.NodeLemmas.{standing_of}
use Rattle.relay_node.proofs.ReplyLemmas.{heard_there, refuses_reply, replies, there_unknown, told_by_queue, unknown_there, uses}
use Rattle.relay_node.proofs.node.Node.reply.Goals as goal
use Rattle.relay_report.specs.Report.{reporter_of}

pub returns-clause-replies : goal.returns-clause-replies
returns-clause-replies g c = rw (← c.self.view_is) (λ changes told keeps tells.
    replies g.D.Disk.honest g.D.Disk.words (reporter_of c.self.inside.config) c.args.now changes c.args.attempt told c.args.piece.now
    (standing_of c.self.inside.config c.self.inside.seats c.self.inside.attempts.runs c.self.inside.records)
    (standing_of c.self.inside.config c.self.inside.seats c.reply.new.self.runs c.reply.new.records) keeps.fitting keeps.queue c.reply.result
    (c.reply.ensures.replies changes told keeps
    (told_by_queue c.self.inside.config.host changes c.self.inside.records.queue keeps.fitting keeps.queue c.self.inside.config.routes c.self.inside.attempts c.args.attempt told c.self.invariant.1 tells)))

pub returns-clause-cut : goal.returns-clause-cut
returns-clause-cut g c = rw (← c.self.view_is) (λ changes told keeps tells stopped.
    c.reply.ensures.cut changes told keeps
    (told_by_queue c.self.inside.config.host changes c.self.inside.records.queue keeps.fitting keeps.queue c.self.inside.config.routes c.self.inside.attempts c.args.attempt told c.self.invariant.1 tells) stopped)

pub returns-clause-full : goal.returns-clause-full
returns-clause-full g c = rw (← c.self.view_is) (λ changes told keeps tells full.
    c.reply.ensures.full told
    (told_by_queue c.self.inside.config.host changes c.self.inside.records.queue keeps.fitting keeps.queue c.self.inside.config.routes c.self.inside.attempts c.args.attempt told c.self.invariant.1 tells) full)

pub returns-clause-used : goal.returns-clause-used
returns-clause-used g c = rw (← c.self.view_is) (
    uses g.D.Disk.words c.args.now c.args.attempt _
    (standing_of c.self.inside.config c.self.inside.seats c.self.inside.attempts.runs c.self.inside.records)
    (standing_of c.self.inside.config c.self.inside.seats c.reply.new.self.runs c.reply.new.records) c.reply.result c.reply.ensures.heard)

pub returns-clause-refused : goal.returns-clause-refused
returns-clause-refused g c = rw (← c.self.view_is) (
    let live : c.self.inside.records.spool.live ≡ true = search rules in
    let there = heard_there g.D.Disk.words (reporter_of c.self.inside.config) c.args.now c.args.attempt _ c.self.inside.attempts.runs c.reply.new.self.runs c.self.inside.records c.reply.new.records c.reply.result c.reply.ensures.heard in
    record {
      refused = λ is_live.
          refuses_reply g.D.Disk.words c.args.attempt c.self.inside.attempts c.reply.new.self
          (standing_of c.self.inside.config c.self.inside.seats c.self.inside.attempts.runs c.self.inside.records)
          (standing_of c.self.inside.config c.self.inside.seats c.reply.new.self.runs c.reply.new.records) refl refl refl refl is_live c.reply.result c.reply.ensures.refused;
      stopped = λ dead. absurd (true≢false (sym live ∙ dead));
      unknown = (
        λ is. (live, unknown_there g.D.Disk.words c.args.attempt c.self.inside.attempts c.reply.new.self c.self.inside.records c.reply.new.records live c.reply.result c.reply.ensures.refused is),
        λ both. there_unknown g.D.Disk.words c.args.attempt c.self.inside.attempts c.reply.new.self c.self.inside.records c.reply.new.records live c.reply.result there c.reply.ensures.refused both.1,
      );
    })
