use Rattle.std.proofs.Common.{subst}
use Rattle.relay_book.specs.Book.{Rise, Shown}
use Rattle.relay_book.proofs.LiveLemmas.{rise_live}
use Rattle.relay_book.proofs.book.Book.numbers_rise.Goals as goal

pub returns : goal.returns
returns c =
    subst (λ (s : Shown). Rise 0 s.queue.next s.queue.messages) c.self.view_is
    (rise_live 0 c.self.inside.next c.self.inside.messages.entries c.self.invariant.0)
