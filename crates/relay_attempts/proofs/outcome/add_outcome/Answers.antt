-- What is left where the outcome isn't added.
use Rattle.std.proofs.Common.{rules}
use Rattle.relay_report.specs.Report.{reporter}
use Rattle.relay_attempts.proofs.AddedLemmas.{refused_outcome}
use Rattle.relay_attempts.proofs.outcome.add_outcome.Goals as goal

pub returns-clause-refused : goal.returns-clause-refused
returns-clause-refused g c =
    refused_outcome g.D.Disk.words (reporter c.args.host.now c.args.form) c.args.outcome c.in_ok-change.change c.new-octets.result c.args.records.now c.add.new.self c.add.result
    (search rules) (search rules) c.add.ensures.full c.add.ensures.refused

pub reported-requires-clause-comes : goal.reported-requires-clause-comes
reported-requires-clause-comes g c = c.requires.comes

pub reported-requires-clause-number : goal.reported-requires-clause-number
reported-requires-clause-number g c = c.has_number.ensures.0 (search rules)

pub add-requires-clause-fits : goal.add-requires-clause-fits
add-requires-clause-fits g c = λ _. c.in_ok-change.ensures.fits
