use Rattle.std.proofs.Common.{◌≡◌, List, IfOk, sym, subst, ◌∙◌}
use Rattle.relay_attempts.specs.declared.work.Work.{Work}
use Rattle.relay_attempts.specs.Attempts.{KnowsStranded, AttemptTable}
use Rattle.relay_attempts.specs.Work.{works_of}
use Rattle.relay_attempts.proofs.DueLemmas.{all_works}
use Rattle.relay_attempts.proofs.attempts.Attempts.due.Goals as goal

pub returns : goal.returns
returns g c = λ knows.
    let table = c.args.table.now in
    let queue = c.args.records.now.queue in
    let known = subst (λ (s : AttemptTable). KnowsStranded s table queue) (sym c.self.view_is) knows in
    let all =
    all_works table c.self.inside.runs c.args.now queue.next queue c.as_slice.result.now c.as_slice-2.result.now c.in_ok-numbers.numbers.keys
    (c.as_slice.ensures.value ∙ c.in_ok-marks.ensures) (c.as_slice-2.ensures.value ∙ known) c.in_ok-numbers.ensures.all c.in_ok-numbers.ensures.rise
    c.numbers_rise.ensures in
    subst (λ (s : AttemptTable). IfOk c.works.result (λ works. works.items ≡ works_of table s.runs c.args.now queue)) c.self.view_is
    (subst (λ (l : List Work). IfOk c.works.result (λ works. works.items ≡ l)) all c.works.ensures)
