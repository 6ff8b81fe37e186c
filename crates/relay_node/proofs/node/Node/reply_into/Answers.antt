-- What the attempts have done by the queue and a row, by the list of changes.
use Rattle.std.proofs.Common.{◌≡◌, ◌∙◌, ◌++◌, true, true≢false, refl, rules, sym}
use Rattle.relay_node.proofs.NodeLemmas.{standing_of}
use Rattle.relay_node.proofs.ReplyIntoLemmas.{awaited_fit, heard_after_there, into_unknown, refuses_reply_into, replies_into, row_stays, unknown_into, uses_into}
use Rattle.relay_node.proofs.ReplyLemmas.{told_by_queue}
use Rattle.relay_node.proofs.node.Node.reply_into.Goals as goal
use Rattle.relay_report.specs.Report.{reporter_of}

pub returns-clause-replies : goal.returns-clause-replies
returns-clause-replies g c = rw (← c.self.view_is) (λ changes pending told awaits tells.
    replies_into g.D.Disk.honest g.D.Disk.words (reporter_of c.self.inside.config) c.args.now changes pending c.args.attempt told
    c.args.row.now c.args.piece.now
    (standing_of c.self.inside.config c.self.inside.seats c.self.inside.attempts.runs c.self.inside.records)
    (standing_of c.self.inside.config c.self.inside.seats c.reply_into.new.self.runs c.reply_into.new.records)
    c.reply_into.new.row awaits c.reply_into.result
    (c.reply_into.ensures.replies changes pending told awaits
    (told_by_queue c.self.inside.config.host (changes ++ pending) c.self.inside.records.queue
    (awaited_fit g.D.Disk.honest g.D.Disk.words c.self.inside.records changes pending c.args.row.now awaits)
    awaits.queue c.self.inside.config.routes c.self.inside.attempts c.args.attempt told c.self.invariant.1 tells)))

pub returns-clause-full : goal.returns-clause-full
returns-clause-full g c = rw (← c.self.view_is) (λ changes pending told awaits tells full.
    c.reply_into.ensures.full told
    (told_by_queue c.self.inside.config.host (changes ++ pending) c.self.inside.records.queue
    (awaited_fit g.D.Disk.honest g.D.Disk.words c.self.inside.records changes pending c.args.row.now awaits)
    awaits.queue c.self.inside.config.routes c.self.inside.attempts c.args.attempt told c.self.invariant.1 tells) full)

pub returns-clause-used : goal.returns-clause-used
returns-clause-used g c = rw (← c.self.view_is) (
    uses_into c.args.now c.args.attempt _
    (standing_of c.self.inside.config c.self.inside.seats c.self.inside.attempts.runs c.self.inside.records)
    (standing_of c.self.inside.config c.self.inside.seats c.reply_into.new.self.runs c.reply_into.new.records) _ _
    c.reply_into.result c.reply_into.ensures.heard)

pub returns-clause-refused : goal.returns-clause-refused
returns-clause-refused g c = rw (← c.self.view_is) (
    let live : c.self.inside.records.spool.live ≡ true = search rules in
    let there = heard_after_there (reporter_of c.self.inside.config) c.args.now c.args.attempt _ c.self.inside.attempts.runs
    c.reply_into.new.self.runs c.self.inside.records c.reply_into.new.records _ _ c.reply_into.result
    c.reply_into.ensures.heard in
    record {
      refused = λ is_live.
          refuses_reply_into c.args.attempt c.self.inside.attempts c.reply_into.new.self
          (standing_of c.self.inside.config c.self.inside.seats c.self.inside.attempts.runs c.self.inside.records)
          (standing_of c.self.inside.config c.self.inside.seats c.reply_into.new.self.runs c.reply_into.new.records) _ _
          refl refl refl refl c.reply_into.result c.reply_into.ensures.refused;
      stopped = λ dead. absurd (true≢false (sym live ∙ dead));
      unknown = (
        λ is. (live, unknown_into c.args.attempt c.self.inside.attempts c.reply_into.new.self c.self.inside.records c.reply_into.new.records _ _ c.reply_into.result c.reply_into.ensures.refused is),
        λ both. into_unknown c.args.attempt c.self.inside.attempts c.reply_into.new.self c.self.inside.records c.reply_into.new.records _ _ c.reply_into.result there c.reply_into.ensures.refused both.1,
      );
    })

pub returns-clause-row : goal.returns-clause-row
returns-clause-row g c =
    row_stays c.args.attempt c.self.inside.attempts c.reply_into.new.self c.self.inside.records
    c.reply_into.new.records _ _ c.reply_into.result c.reply_into.ensures.refused
