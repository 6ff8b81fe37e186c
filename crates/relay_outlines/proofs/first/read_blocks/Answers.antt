-- One block more was read, or all of the body was.
use Rattle.std.proofs.Common.{◌-◌, arith}
use Rattle.relay_outlines.proofs.BlockLemmas.{blocks_end, blocks_more, blocks_none}
use Rattle.relay_outlines.proofs.CursorLemmas.{goes_on}
use Rattle.relay_outlines.proofs.first.read_blocks.Goals as goal

pub loop-left-init : goal.loop-left-init
loop-left-init g c =
    blocks_none g.D.Disk.honest g.D.Disk.words c.args.cursor.now c.args.count c.new-first.result g.met.D.Disk.only_now
    c.requires.live c.requires.within c.new-first.ensures

pub loop-left-preserved : goal.loop-left-preserved
loop-left-preserved g c =
    let honest = g.D.Disk.honest in
    let words = g.D.Disk.words in
    let old = c.args.cursor.now in
    let mid = c.loop-left.cursor in
    let new = c.read_part.new.self in
    let so_far = c.loop-left.invariant in
    let next = c.in_ok-block.ensures in
    let long = next.count in
    let least = c.min.ensures in
    let counted = c.len-left.ensures in
    blocks_more honest words old mid new c.args.count c.loop-left.left (c.loop-left.left - c.len-left.result)
    c.min.result c.loop-left.first c.read.new.self c.in_ok-block.block.items so_far
    (goes_on honest words old mid new so_far.goes next.live next.same.0 next.keeps next.failures)
    (omega (arith, least, counted, long)) next.place next.same.1 c.in_ok-read.ensures next.part

pub returns-clause-reads : goal.returns-clause-reads
returns-clause-reads g c =
    let test = c.loop-left-test.false in
    blocks_end g.D.Disk.honest g.D.Disk.words c.args.cursor.now c.loop-left.cursor c.args.count c.loop-left.left
    c.loop-left.first c.loop-left.invariant (omega (arith, test))
