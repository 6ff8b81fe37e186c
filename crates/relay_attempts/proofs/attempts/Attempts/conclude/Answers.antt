use Rattle.std.proofs.Common.{List, ℕ, subst, rules}
use Rattle.relay_report.specs.Report.{reporter}
use Rattle.relay_attempts.specs.AddedOutcome.{RefusesOutcome}
use Rattle.relay_attempts.proofs.StrandedLemmas.{known_after, ruled_message}
use Rattle.relay_attempts.proofs.attempts.Attempts.conclude.Goals as goal

pub returns-in-Ok-add_outcome-clause-known : goal.returns-in-Ok-add_outcome-clause-known
returns-in-Ok-add_outcome-clause-known g c = λ known.
    let grows = c.in-Ok-add_outcome.ensures.grows in
    let queue = c.args.records.now.queue in
    let there = ruled_message queue c.args.outcome c.requires.comes.message in
    known_after c.args.config.now.routes (record c.args.outcome { report = grows.report }) queue c.numbers_rise.ensures there.0 there.1 there.2
    c.add_outcome.new.records.queue c.in-Ok-add_outcome.number c.args.self.now.stranded c.forget.new.self.stranded c.note.new.self.stranded
    grows.grows.queue grows.grows.number_is known (search rules) (search rules)

pub returns-in-Err-clause-refused : goal.returns-in-Err-clause-refused
returns-in-Err-clause-refused g c =
    subst (λ (host : List ℕ). RefusesOutcome g.D.Disk.words (reporter host c.args.config.now.reports) c.args.outcome c.args.records.now c.add_outcome.new.records c.in-Err.fault) c.as_slice.ensures.value
    c.in-Err.ensures.refused
