-- The first body was read in blocks, and leaves a queue or none; or there is none.
use Rattle.std.proofs.Common.{rules, []}
use Rattle.std.specs.Prelude.{IsErrOf}
use Rattle.std.proofs.lemmas.Result.{err_from_is_err_and}
use Rattle.relay_book.specs.declared.fault.BookFault.TheVariants.{BadRecord}
use Rattle.relay_outlines.proofs.BlockLemmas.{first_stands}
use Rattle.relay_outlines.proofs.FirstLemmas.{goes_after}
use Rattle.relay_outlines.proofs.first.read_first.Goals as goal

pub returns-in_err-begin-clause-refused : goal.returns-in_err-begin-clause-refused
returns-in_err-begin-clause-refused g c =
    let p = err_from_is_err_and c.from_residual.result c.from_residual.ensures.1 in
    rw (p.1, p.2) (c.in_err-begin.ensures.refused [] c.requires.start)

pub returns-in-None-clause-leaves : goal.returns-in-None-clause-leaves
returns-in-None-clause-leaves g c =
    let begun = rw c.in-None.is at c.in_ok-begin.ensures.begun in λ h. begun h [] (c.requires.start h)

pub returns-in-Ok-clause-leaves : goal.returns-in-Ok-clause-leaves
returns-in-Ok-clause-leaves g c =
    let honest = g.D.Disk.honest in
    let words = g.D.Disk.words in
    let old = c.args.cursor.now in
    let mid = c.begin.new.self in
    let next = c.in_ok-begin.ensures in
    let live = rw c.in-Some.is at next.live in
    let begun = rw c.in-Some.is at next.begun in
    let reads = c.in_ok-first-in-Some.ensures.reads in
    record {
      body = reads.octets;
      has =
          first_stands honest words old mid c.in-Some.count c.read_blocks.new.cursor.place c.in_ok-first-in-Some.first
          (goes_after honest words old mid live next.same.0 next.keeps next.failures)
          (λ h. begun h [] (c.requires.start h)) reads;
      reads = c.in-Ok.ensures.reads reads.octets reads.read;
    }

pub returns-in-Err-BadRecord-clause-leaves : goal.returns-in-Err-BadRecord-clause-leaves
returns-in-Err-BadRecord-clause-leaves g c =
    let honest = g.D.Disk.honest in
    let words = g.D.Disk.words in
    let old = c.args.cursor.now in
    let mid = c.begin.new.self in
    let next = c.in_ok-begin.ensures in
    let live = rw c.in-Some.is at next.live in
    let begun = rw c.in-Some.is at next.begun in
    let reads = c.in_ok-first-in-Some.ensures.reads in
    let ended : IsErrOf c.finish.result BadRecord = search rules in
    record {
      body = reads.octets;
      has =
          first_stands honest words old mid c.in-Some.count c.read_blocks.new.cursor.place c.in_ok-first-in-Some.first
          (goes_after honest words old mid live next.same.0 next.keeps next.failures)
          (λ h. begun h [] (c.requires.start h)) reads;
      none = c.finish.ensures.bad reads.octets reads.read ended;
    }
