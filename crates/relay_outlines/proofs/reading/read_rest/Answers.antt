-- One body more, or none.
use Rattle.std.proofs.lemmas.Result.{err_from_is_err_and}
use Rattle.relay_pieces.specs.Pieces.{text_of}
use Rattle.relay_outlines.proofs.CursorLemmas.{goes_on, more_to_end, passes_more, passes_none, refuses_passing}
use Rattle.relay_outlines.proofs.reading.read_rest.Goals as goal

pub loop-body-init : goal.loop-body-init
loop-body-init g c = passes_none g.D.Disk.honest g.D.Disk.words c.args.cursor.now g.met.D.Disk.only_now c.requires.live

pub loop-body-preserved : goal.loop-body-preserved
loop-body-preserved g c =
    let honest = g.D.Disk.honest in
    let words = g.D.Disk.words in
    let old = c.args.cursor.now in
    let mid = c.loop-body.cursor in
    let new = c.next.new.self in
    let next = c.in_ok-_body.ensures in
    let live = rw c.in-Some.is at next.live in
    let reads = rw c.in-Some.is at next.next in
    passes_more honest words old mid new (text_of c.in-Some._body) c.loop-body.invariant
    (goes_on honest words old mid new c.loop-body.invariant.goes live next.same.0 next.keeps next.failures) reads

pub returns-in_err-_body-clause-refused : goal.returns-in_err-_body-clause-refused
returns-in_err-_body-clause-refused g c =
    let p = err_from_is_err_and c.from_residual.result c.from_residual.ensures.1 in
    rw (p.1, p.2)
    (refuses_passing g.D.Disk.honest g.D.Disk.words c.args.cursor.now c.loop-body.cursor c.in_err-_body.field-0.0
    c.loop-body.invariant
    c.in_err-_body.ensures.refused)

pub returns-clause-more : goal.returns-clause-more
returns-clause-more g c =
    more_to_end g.D.Disk.honest g.D.Disk.words c.args.cursor.now c.loop-body.cursor c.next.new.self.place
    c.in_ok-_body.field-0 c.loop-body.invariant
    c.in_default.not-Some c.in_ok-_body.ensures.next
