-- The first body leaves a queue, and the others were read; or it leaves none.
use Rattle.std.proofs.lemmas.Result.{IfOk-weaker, err_from_is_err_and}
use Rattle.relay_outlines.proofs.FirstLemmas.{bad_first, goes_after, reads_before, refuses_first}
use Rattle.relay_outlines.proofs.reading.read_outline.Goals as goal

pub returns-in_err-read_rest-in-LeavesNone-clause-refused :
    goal.returns-in_err-read_rest-in-LeavesNone-clause-refused
returns-in_err-read_rest-in-LeavesNone-clause-refused g c =
    let honest = g.D.Disk.honest in
    let words = g.D.Disk.words in
    let old = c.args.cursor.now in
    let now = c.read_first.new.cursor in
    let first = c.in_ok-read_first.ensures in
    let live = rw c.in-LeavesNone.is at first.live in
    let leaves = rw c.in-LeavesNone.is at first.leaves in
    let last = c.in_err-read_rest-in-LeavesNone in
    let p = err_from_is_err_and c.from_residual-in_err-read_rest-in-LeavesNone.result
    c.from_residual-in_err-read_rest-in-LeavesNone.ensures.1 in
    rw (p.1, p.2)
    (refuses_first honest words old now last.field-0.0
    (goes_after honest words old now live first.side first.keeps first.failures) leaves last.ensures.refused)

pub returns-in-Leaves-clause-reads : goal.returns-in-Leaves-clause-reads
returns-in-Leaves-clause-reads g c =
    let honest = g.D.Disk.honest in
    let words = g.D.Disk.words in
    let old = c.args.cursor.now in
    let now = c.read_first.new.cursor in
    let first = c.in_ok-read_first.ensures in
    let live = rw c.in-Leaves.is at first.live in
    IfOk-weaker c.read_others.result _ _
    (λ reading has. reads_before honest words old now c.read_others.new.cursor.place reading
    (goes_after honest words old now live first.side first.keeps first.failures) has)
    c.read_others.ensures.reads

pub returns-in_ok-read_rest-in-LeavesNone-clause-reads :
    goal.returns-in_ok-read_rest-in-LeavesNone-clause-reads
returns-in_ok-read_rest-in-LeavesNone-clause-reads g c =
    let honest = g.D.Disk.honest in
    let words = g.D.Disk.words in
    let old = c.args.cursor.now in
    let now = c.read_first.new.cursor in
    let first = c.in_ok-read_first.ensures in
    let live = rw c.in-LeavesNone.is at first.live in
    let leaves = rw c.in-LeavesNone.is at first.leaves in
    bad_first honest words old now (goes_after honest words old now live first.side first.keeps first.failures) leaves
    c.in_ok-read_rest-in-LeavesNone.ensures.more
