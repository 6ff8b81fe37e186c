use Rattle.std.proofs.Common.{◌≡◌, ℕ, List, IfOk, flat_map, subst}
use Rattle.relay_book.specs.Queue.{due_of, is_due_at}
use Rattle.relay_book.specs.Book.{Shown, live, marks_at}
use Rattle.relay_book.proofs.DueLemmas.{due_gathered}
use Rattle.relay_book.proofs.LiveLemmas.{rise_live}
use Rattle.relay_book.proofs.book.Book.due.Goals as goal

pub returns : goal.returns
returns c =
    let entries = live c.self.inside.messages.entries in
    let gathered =
    due_gathered c.self.inside.waiting.keys c.in_ok-numbers.numbers.keys c.seconds-latest.result c.self.inside.next entries
    c.in_ok-numbers.ensures.rise c.in_ok-numbers.ensures.told (rise_live 0 c.self.inside.next c.self.inside.messages.entries c.self.invariant.0) c.self.invariant.1 in
    let all =
    subst (λ (s : Shown). flat_map (marks_at (is_due_at c.seconds-latest.result) s.queue.messages) c.in_ok-numbers.numbers.keys ≡ due_of c.seconds-latest.result s.queue)
    c.self.view_is gathered in
    subst (λ now. IfOk c.due_among.result (λ marks. marks.items ≡ due_of now c.args.self.now.queue)) c.seconds-latest.ensures.seconds
    (subst (λ (l : List (ℕ × ℕ)). IfOk c.due_among.result (λ marks. marks.items ≡ l)) all c.due_among.ensures)
