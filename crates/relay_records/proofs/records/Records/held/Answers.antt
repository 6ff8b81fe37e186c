use Rattle.std.proofs.Common.{ap, ◌∙◌}
use Rattle.std.proofs.lemmas.Result.{IfOk-weaker}
use Rattle.relay_records.proofs.ListLemmas.{held_by_list}
use Rattle.relay_records.proofs.records.Records.held.Goals as goal

pub returns-clause-kept : goal.returns-clause-kept
returns-clause-kept g c = λ changes keeps.
    IfOk-weaker c.held.result _ _ (λ marks is. held_by_list changes c.self.inside.book.queue marks.items keeps.fitting (ap (λ (r : _). r.queue) c.self.view_is ∙ keeps.queue) is) c.held.ensures
