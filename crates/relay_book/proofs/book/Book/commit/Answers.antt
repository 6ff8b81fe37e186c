use Rattle.std.proofs.Common.{ℕ, List, Some, sym, subst, ap, ◌∙◌}
use Rattle.relay_book.specs.Book.{AllTold}
use Rattle.relay_book.specs.Ready.{IsReady, entry_of, ready_shown}
use Rattle.relay_book.proofs.ReadyLemmas.{ready_added, ready_ruled}
use Rattle.relay_book.proofs.book.Book.commit.Goals as goal

pub rule-requires-in-Reported : goal.rule-requires-in-Reported
rule-requires-in-Reported c =
    ready_ruled c.args.self.now c.in-Reported.outcome c.in-Reported.report.accept.stored_text (Some c.in-Reported.report)
    (subst (IsReady c.args.self.now) (sym c.ready.view_is ∙ ap ready_shown c.in-Reported.is) c.requires)

pub add-requires-in-Reported-clause-told : goal.add-requires-in-Reported-clause-told
add-requires-in-Reported-clause-told c =
    let told = ready_added c.args.self.now c.in-Reported.outcome c.in-Reported.report.accept.stored_text (Some c.in-Reported.report)
    (subst (IsReady c.args.self.now) (sym c.ready.view_is ∙ ap ready_shown c.in-Reported.is) c.requires) in
    subst (λ (keys : List (ℕ × ℕ)). AllTold keys (entry_of c.rule-in-Reported.new.self.queue.next (Some c.in-Reported.report))) (sym c.rule-in-Reported.ensures.told)
    (subst (λ n. AllTold c.args.self.now.told (entry_of n (Some c.in-Reported.report))) (sym c.rule-in-Reported.ensures.next) told)
