use Rattle.std.proofs.Common.{◌≡◌, ◌≢◌, List, [], Option, Some, None, ap, sym, ◌∙◌, subst}
use Rattle.relay_book.specs.Moments.{IsLeastOf, moments_of}
use Rattle.relay_attempts.specs.declared.runs.Run.{Run}
use Rattle.relay_attempts.specs.Attempts.{AttemptTable}
use Rattle.relay_attempts.specs.Next.{is_untried}
use Rattle.relay_attempts.proofs.NextLemmas.{is_empty_row, is_some_row, next_after, next_never, next_stranded}
use Rattle.relay_attempts.proofs.attempts.Attempts.next_due.Goals as goal

pub returns-then-not-is_empty : goal.returns-then-not-is_empty
returns-then-not-is_empty g c = λ known.
    let stranded = c.self.inside.stranded in
    let same : stranded.items ≡ c.args.self.now.stranded = ap (λ (t : AttemptTable). t.stranded) c.self.view_is in
    let some : stranded.items ≢ [] = is_some_row stranded.items _ c.is_empty.result stranded.ok.0 c.is_empty.ensures c.if-not-is_empty.true in
    next_stranded c.args.table.now c.args.self.now.runs c.args.records.now.queue c.args.self.now.stranded c.args.now (λ none. some (same ∙ none)) known

pub returns-in-Some : goal.returns-in-Some
returns-in-Some g c = λ known.
    let same : c.self.inside.runs ≡ c.args.self.now.runs = ap (λ (t : AttemptTable). t.runs) c.self.view_is in
    let least =
    subst (λ (runs : List (Option Run)). IsLeastOf (moments_of (is_untried c.args.table.now runs) c.args.records.now.queue.messages) (Some c.in-Some.due)) same
    c.in-Some.ensures in
    let stranded = c.self.inside.stranded in
    let none : c.args.self.now.stranded ≡ [] =
    ap (λ (t : AttemptTable). t.stranded) (sym c.self.view_is) ∙ is_empty_row stranded.items _ c.is_empty.result stranded.ok.0 c.is_empty.ensures c.if-not-is_empty.false in
    next_after c.args.table.now c.args.self.now.runs c.args.records.now.queue c.args.now c.in-Some.due c.moment_from.result (sym known ∙ none) least c.moment_from.ensures

pub returns-in-None : goal.returns-in-None
returns-in-None g c = λ known.
    let same : c.self.inside.runs ≡ c.args.self.now.runs = ap (λ (t : AttemptTable). t.runs) c.self.view_is in
    let least =
    subst (λ (runs : List (Option Run)). IsLeastOf (moments_of (is_untried c.args.table.now runs) c.args.records.now.queue.messages) None) same c.in-None.ensures in
    let stranded = c.self.inside.stranded in
    let none : c.args.self.now.stranded ≡ [] =
    ap (λ (t : AttemptTable). t.stranded) (sym c.self.view_is) ∙ is_empty_row stranded.items _ c.is_empty.result stranded.ok.0 c.is_empty.ensures c.if-not-is_empty.false in
    next_never c.args.table.now c.args.self.now.runs c.args.records.now.queue c.args.now (sym known ∙ none) least
