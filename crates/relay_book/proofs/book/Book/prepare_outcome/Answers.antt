use Rattle.std.proofs.Common.{◌≡◌, ℕ, List, Some, sym, subst, ap, ◌∙◌}
use Rattle.relay_book.specs.declared.change.Change.TheVariants.{Outcome}
use Rattle.relay_book.specs.Queue.{Queue, FitsQueue, message_after, message_of, reported}
use Rattle.relay_book.specs.Book.{AllTold, AreTold, Shown}
use Rattle.relay_book.specs.Ready.{change_of, entry_of, message_in}
use Rattle.relay_book.proofs.ReadyLemmas.{is_ready_outcome}
use Rattle.relay_book.proofs.ToldLemmas.{are_told_more}
use Rattle.relay_book.proofs.FaultLemmas.{no_memory}
use Rattle.relay_book.proofs.book.Book.prepare_outcome.Goals as goal

pub returns-clause-ready : goal.returns-clause-ready
returns-clause-ready c =
    let queue_is : c.reserve.new.self.queue ≡ c.args.self.now.queue = c.reserve.ensures.queue ∙ c.tell_made.ensures.queue ∙ c.tell_all.ensures.queue in
    let next_is : c.reserve.new.self.queue.next ≡ c.self.inside.next = ap (λ (q : Queue). q.next) queue_is ∙ sym (ap (λ (s : Shown). s.queue.next) c.self.view_is) in
    let fits : FitsQueue c.args.self.now.queue (Outcome c.args.outcome) = c.fits.ensures.0 c.if-not-fits.false in
    let found : message_of c.args.self.now.queue.messages c.args.outcome.message ≡ Some c.in-Some.message.now = sym c.in-Some.ensures in
    let after_is : c.as_slice.result.now ≡ (message_after c.args.outcome c.in-Some.message.now).places = c.as_slice.ensures.value ∙ c.in_ok-places.ensures in
    let after = are_told_more c.tell_all.new.self.told c.tell_made.new.self.told c.args.outcome.message c.as_slice.result.now c.tell_made.ensures.kept c.in_ok-tell_all.ensures.told in
    is_ready_outcome c.reserve.new.self c.args.outcome c.in-Some.message.now (change_of c.in_ok-made.made) (message_in c.in_ok-made.made)
    (subst (λ (q : Queue). FitsQueue q (Outcome c.args.outcome)) (sym queue_is) fits)
    (ap (λ (q : Queue). message_of q.messages c.args.outcome.message) queue_is ∙ found)
    c.in_ok-made.ensures.change
    (subst (λ n. entry_of n (message_in c.in_ok-made.made) ≡ reported n c.args.outcome c.args.outcome.report (Some c.in-Some.message.now)) (sym next_is) c.in_ok-made.ensures.message)
    c.in_ok-reserve.ensures.room
    c.reserve.ensures.all_told
    (subst (λ (keys : List (ℕ × ℕ)). AreTold keys c.args.outcome.message (message_after c.args.outcome c.in-Some.message.now).places) (sym c.reserve.ensures.told)
    (subst (AreTold c.tell_made.new.self.told c.args.outcome.message) after_is after))
    (subst (λ (keys : List (ℕ × ℕ)). AllTold keys (entry_of c.reserve.new.self.queue.next (message_in c.in_ok-made.made))) (sym c.reserve.ensures.told)
    (subst (λ (q : Queue). AllTold c.tell_made.new.self.told (entry_of q.next (message_in c.in_ok-made.made))) (sym c.reserve.ensures.queue) c.in_ok-tell_made.ensures.told))

pub returns-in_err-were_due-clause-bad : goal.returns-in_err-were_due-clause-bad
returns-in_err-were_due-clause-bad c = no_memory c.from_residual.result c.from_residual.ensures.1

pub returns-in_err-were_due-clause-memory : goal.returns-in_err-were_due-clause-memory
returns-in_err-were_due-clause-memory c = λ _. c.fits.ensures.0 c.if-not-fits.false

pub returns-in_err-places-clause-bad : goal.returns-in_err-places-clause-bad
returns-in_err-places-clause-bad c = no_memory c.from_residual-in_err-places.result c.from_residual-in_err-places.ensures.1

pub returns-in_err-places-clause-memory : goal.returns-in_err-places-clause-memory
returns-in_err-places-clause-memory c = λ _. c.fits.ensures.0 c.if-not-fits.false

pub returns-in_err-made-clause-bad : goal.returns-in_err-made-clause-bad
returns-in_err-made-clause-bad c = no_memory c.from_residual-in_err-made.result c.from_residual-in_err-made.ensures.1

pub returns-in_err-made-clause-memory : goal.returns-in_err-made-clause-memory
returns-in_err-made-clause-memory c = λ _. c.fits.ensures.0 c.if-not-fits.false

pub returns-in_err-tell_all-clause-bad : goal.returns-in_err-tell_all-clause-bad
returns-in_err-tell_all-clause-bad c = no_memory c.from_residual-in_err-tell_all.result c.from_residual-in_err-tell_all.ensures.1

pub returns-in_err-tell_all-clause-memory : goal.returns-in_err-tell_all-clause-memory
returns-in_err-tell_all-clause-memory c = λ _. c.fits.ensures.0 c.if-not-fits.false

pub returns-in_err-tell_all-clause-queue : goal.returns-in_err-tell_all-clause-queue
returns-in_err-tell_all-clause-queue c = c.tell_all.ensures.queue

pub returns-in_err-tell_made-clause-bad : goal.returns-in_err-tell_made-clause-bad
returns-in_err-tell_made-clause-bad c = no_memory c.from_residual-in_err-tell_made.result c.from_residual-in_err-tell_made.ensures.1

pub returns-in_err-tell_made-clause-memory : goal.returns-in_err-tell_made-clause-memory
returns-in_err-tell_made-clause-memory c = λ _. c.fits.ensures.0 c.if-not-fits.false

pub returns-in_err-tell_made-clause-queue : goal.returns-in_err-tell_made-clause-queue
returns-in_err-tell_made-clause-queue c = c.tell_made.ensures.queue ∙ c.tell_all.ensures.queue

pub returns-in_err-reserve-clause-bad : goal.returns-in_err-reserve-clause-bad
returns-in_err-reserve-clause-bad c = no_memory c.from_residual-in_err-reserve.result c.from_residual-in_err-reserve.ensures.1

pub returns-in_err-reserve-clause-memory : goal.returns-in_err-reserve-clause-memory
returns-in_err-reserve-clause-memory c = λ _. c.fits.ensures.0 c.if-not-fits.false

pub returns-in_err-reserve-clause-queue : goal.returns-in_err-reserve-clause-queue
returns-in_err-reserve-clause-queue c = c.reserve.ensures.queue ∙ c.tell_made.ensures.queue ∙ c.tell_all.ensures.queue

pub returns-clause-queue : goal.returns-clause-queue
returns-clause-queue c = c.reserve.ensures.queue ∙ c.tell_made.ensures.queue ∙ c.tell_all.ensures.queue

pub returns-clause-change : goal.returns-clause-change
returns-clause-change c = c.in_ok-made.ensures.change
