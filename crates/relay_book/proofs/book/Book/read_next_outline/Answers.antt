use Rattle.relay_book.proofs.FaultLemmas.{no_memory}
use Rattle.relay_book.proofs.OutlineLemmas.{outline_read, outline_unread, outlined_is_change}
use Rattle.relay_book.proofs.book.Book.read_next_outline.Goals as goal

pub apply_decoded-requires : goal.apply_decoded-requires
apply_decoded-requires c = outlined_is_change c.in_ok-change.change c.in_ok-outline.outline c.in_ok-change.ensures.change.0 c.in_ok-outline.ensures

pub returns-clause-reads : goal.returns-clause-reads
returns-clause-reads c = λ queue is.
    let change = c.in_ok-change.change in
    outline_read c.apply_decoded.result queue c.args.self.now.queue c.apply_decoded.new.self.queue c.args.body.items change c.in_ok-outline.outline is
    c.in_ok-change.ensures.change.0 c.in_ok-change.ensures.change.1 c.in_ok-outline.ensures c.apply_decoded.ensures.fits c.apply_decoded.ensures.ok

pub returns-clause-bad : goal.returns-clause-bad
returns-clause-bad c = λ queue is bad.
    let change = c.in_ok-change.change in
    outline_unread queue c.args.self.now.queue c.args.body.items change c.in_ok-outline.outline is
    c.in_ok-change.ensures.change.0 c.in_ok-change.ensures.change.1 c.in_ok-outline.ensures (c.apply_decoded.ensures.bad bad)

pub returns-in_err-outline-clause-bad : goal.returns-in_err-outline-clause-bad
returns-in_err-outline-clause-bad c = λ queue is. no_memory c.from_residual-in_err-outline.result c.from_residual-in_err-outline.ensures.1
