-- The outcome is staged with its report, or it isn't staged.
use Rattle.std.proofs.Common.{rules}
use Rattle.relay_report.specs.Report.{reporter}
use Rattle.relay_attempts.proofs.StagedLemmas.{refused_staged, stages_where}
use Rattle.relay_attempts.proofs.outcome.stage_outcome.Goals as goal

pub returns-clause-stages : goal.returns-clause-stages
returns-clause-stages g c = λ changes pending awaits.
    stages_where (reporter c.args.host.now c.args.form) c.args.outcome c.in_ok-change.change c.args.records.now c.in_ok-change.ensures
    g.D.Disk.honest g.D.Disk.words changes pending c.args.row.now c.args.used c.stage.new.self c.stage.new.row
    c.stage.result awaits (c.awaited_are_numbered.ensures c.args.records.now changes pending c.args.row.now awaits)
    c.stage.ensures.stages (c.stage.ensures.awaits changes pending awaits)

pub returns-clause-refused : goal.returns-clause-refused
returns-clause-refused g c =
    refused_staged (reporter c.args.host.now c.args.form) c.args.outcome c.in_ok-change.change c.args.records.now c.in_ok-change.ensures
    c.new-octets.result c.stage.new.self c.args.row.now c.stage.new.row c.stage.result (search rules)
    c.stage.ensures.full c.stage.ensures.refused
