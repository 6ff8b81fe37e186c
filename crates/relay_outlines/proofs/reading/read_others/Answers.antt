-- One body more is outlined, none is left, or one leaves no queue.
use Rattle.std.proofs.Common.{rules, ◌+◌, refl}
use Rattle.std.specs.Prelude.{IsErrOf}
use Rattle.std.proofs.lemmas.Result.{err_from_is_err_and}
use Rattle.relay_pieces.specs.Pieces.{text_of}
use Rattle.relay_spool.proofs.Theorems.{each_kept_on}
use Rattle.relay_book.specs.declared.fault.BookFault.TheVariants.{BadRecord}
use Rattle.relay_outlines.proofs.CursorLemmas.{bad_there, goes_on, last_read, outline_more, outlines_first}
use Rattle.relay_outlines.proofs.CursorLemmas.{refuses_after, refuses_outlining}
use Rattle.relay_outlines.proofs.reading.read_others.Goals as goal

pub loop-book-init : goal.loop-book-init
loop-book-init g c =
    outlines_first g.D.Disk.honest g.D.Disk.words c.args.cursor.now c.args.book.queue g.met.D.Disk.only_now
    c.requires.live c.requires.some c.requires.first

pub returns-in_err-body-clause-refused : goal.returns-in_err-body-clause-refused
returns-in_err-body-clause-refused g c =
    let p = err_from_is_err_and c.from_residual.result c.from_residual.ensures.1 in
    rw (p.1, p.2)
    (refuses_outlining g.D.Disk.honest g.D.Disk.words c.args.cursor.now c.loop-book.cursor c.loop-book.before
    c.loop-book.book.queue c.in_err-body.field-0.0
    c.loop-book.invariant c.in_err-body.ensures.refused)

pub returns-in_err-read_rest-in-Err-BadRecord-clause-refused :
    goal.returns-in_err-read_rest-in-Err-BadRecord-clause-refused
returns-in_err-read_rest-in-Err-BadRecord-clause-refused g c =
    let honest = g.D.Disk.honest in
    let words = g.D.Disk.words in
    let old = c.args.cursor.now in
    let mid = c.loop-book.cursor in
    let new = c.next.new.self in
    let so_far = c.loop-book.invariant in
    let next = c.in_ok-body.ensures in
    let live = rw c.in-Some.is at next.live in
    let reads = rw c.in-Some.is at next.next in
    let body = text_of c.in-Some.body in
    let last = c.in_err-read_rest-in-Err-BadRecord in
    let p = err_from_is_err_and c.from_residual-in_err-read_rest-in-Err-BadRecord.result
    c.from_residual-in_err-read_rest-in-Err-BadRecord.ensures.1 in
    rw (p.1, p.2)
    (refuses_after honest words old mid new c.loop-book.before c.loop-book.book.queue body last.field-0.0 so_far
    (goes_on honest words old mid new so_far.goes live next.same.0 next.keeps next.failures)
    (last_read honest words old mid c.loop-book.before new.place c.loop-book.book.queue body so_far reads)
    last.ensures.refused)

pub returns-in_err-read_rest-in-Err-BadRecord-clause-keeps :
    goal.returns-in_err-read_rest-in-Err-BadRecord-clause-keeps
returns-in_err-read_rest-in-Err-BadRecord-clause-keeps g c = λ h.
    let words = g.D.Disk.words in
    let old = c.args.cursor.now.disk in
    let new = c.next.new.self.disk in
    each_kept_on words old new c.read_rest.new.cursor.disk
    (each_kept_on words old c.loop-book.cursor.disk new (c.loop-book.invariant.goes.kept h)
    (c.in_ok-body.ensures.keeps h)) (c.read_rest.ensures.keeps h)

pub returns-in-Err-BadRecord-clause-reads : goal.returns-in-Err-BadRecord-clause-reads
returns-in-Err-BadRecord-clause-reads g c =
    let honest = g.D.Disk.honest in
    let words = g.D.Disk.words in
    let old = c.args.cursor.now in
    let mid = c.loop-book.cursor in
    let new = c.next.new.self in
    let so_far = c.loop-book.invariant in
    let next = c.in_ok-body.ensures in
    let live = rw c.in-Some.is at next.live in
    let reads = rw c.in-Some.is at next.next in
    let body = text_of c.in-Some.body in
    let ended : IsErrOf c.read_body.result BadRecord = search rules in
    bad_there honest words old mid new c.loop-book.before c.loop-book.book.queue body (c.loop-book.before + 1) so_far
    (goes_on honest words old mid new so_far.goes live next.same.0 next.keeps next.failures)
    (last_read honest words old mid c.loop-book.before new.place c.loop-book.book.queue body so_far reads)
    (c.read_body.ensures.bad so_far.queue so_far.outline_is ended) refl c.in_ok-read_rest-in-Err-BadRecord.ensures.more

pub returns-in-Err-BadRecord-clause-keeps : goal.returns-in-Err-BadRecord-clause-keeps
returns-in-Err-BadRecord-clause-keeps g c = λ h.
    let words = g.D.Disk.words in
    let old = c.args.cursor.now.disk in
    let new = c.next.new.self.disk in
    each_kept_on words old new c.read_rest.new.cursor.disk
    (each_kept_on words old c.loop-book.cursor.disk new (c.loop-book.invariant.goes.kept h)
    (c.in_ok-body.ensures.keeps h)) (c.read_rest.ensures.keeps h)

pub returns-in-Err-NoMemory-clause-keeps : goal.returns-in-Err-NoMemory-clause-keeps
returns-in-Err-NoMemory-clause-keeps g c = λ h.
    each_kept_on g.D.Disk.words c.args.cursor.now.disk c.loop-book.cursor.disk c.next.new.self.disk
    (c.loop-book.invariant.goes.kept h) (c.in_ok-body.ensures.keeps h)

pub loop-book-preserved : goal.loop-book-preserved
loop-book-preserved g c =
    let honest = g.D.Disk.honest in
    let words = g.D.Disk.words in
    let old = c.args.cursor.now in
    let mid = c.loop-book.cursor in
    let new = c.next.new.self in
    let so_far = c.loop-book.invariant in
    let next = c.in_ok-body.ensures in
    let live = rw c.in-Some.is at next.live in
    let moves = rw c.in-Some.is at next.moves in
    let reads = rw c.in-Some.is at next.next in
    let body = text_of c.in-Some.body in
    outline_more honest words old mid new c.loop-book.before c.loop-book.book.queue c.in-Ok.left.queue body so_far
    (goes_on honest words old mid new so_far.goes live next.same.0 next.keeps next.failures) moves.0
    (last_read honest words old mid c.loop-book.before new.place c.loop-book.book.queue body so_far reads)
    (c.in-Ok.ensures.reads so_far.queue so_far.outline_is)
