use Rattle.std.proofs.Common.{ap, ◌∙◌}
use Rattle.relay_book.specs.Queue.{Queue}
use Rattle.relay_records.proofs.ListLemmas.{next_is_one_more}
use Rattle.relay_records.proofs.records.Records.next_number.Goals as goal

pub returns-clause-kept : goal.returns-clause-kept
returns-clause-kept g c = λ changes keeps.
    c.next_number.ensures ∙ ap (λ (r : _). r.queue.next) c.self.view_is ∙ ap (λ (q : Queue). q.next) keeps.queue ∙ next_is_one_more changes
