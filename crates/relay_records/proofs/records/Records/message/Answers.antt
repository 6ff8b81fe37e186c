use Rattle.std.proofs.Common.{ap, ◌∙◌}
use Rattle.relay_records.proofs.ListLemmas.{queued_by_list}
use Rattle.relay_records.proofs.records.Records.message.Goals as goal

pub returns-clause-kept : goal.returns-clause-kept
returns-clause-kept g c = λ changes keeps.
    queued_by_list changes c.self.inside.book.queue c.args.number c.message.result keeps.fitting (ap (λ (r : _). r.queue) c.self.view_is ∙ keeps.queue) c.message.ensures
