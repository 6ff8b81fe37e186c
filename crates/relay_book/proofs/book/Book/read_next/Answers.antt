use Rattle.relay_book.proofs.FirstLemmas.{no_fit, queue_on_ok}
use Rattle.relay_book.proofs.book.Book.read_next.Goals as goal

pub returns-clause-queue : goal.returns-clause-queue
returns-clause-queue c =
    queue_on_ok c.apply_decoded.result c.args.self.now.queue c.in_ok-change.change c.apply_decoded.new.self.queue c.apply_decoded.ensures.fits c.apply_decoded.ensures.ok

pub returns-clause-bad : goal.returns-clause-bad
returns-clause-bad c =
    λ bad. no_fit c.args.self.now.queue c.args.body.items c.in_ok-change.change c.in_ok-change.ensures.change.0 c.in_ok-change.ensures.change.1 (c.apply_decoded.ensures.bad bad)
