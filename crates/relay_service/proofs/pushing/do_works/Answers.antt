-- One work after another.
use Rattle.relay_disk.specs.File.{file_words}
use Rattle.relay_service.proofs.PushingLemmas.{all_done, begins_with_none, goes_further, refused_by, stops_here}
use Rattle.relay_service.proofs.pushing.do_works.Goals as goal

pub loop-work-init : goal.loop-work-init
loop-work-init g c = λ changes keeps. begins_with_none ⊥ file_words c.args.round.now.now c.args.works.now changes c.args.node.now

pub loop-work-preserved : goal.loop-work-preserved
loop-work-preserved g c = λ changes keeps.
    goes_further ⊥ file_words c.args.round.now.now c.args.works.now c.loop-work.work-index c.work-item.result changes c.args.node.now c.loop-work.node c.do_work.new.node c.loop-work-test.true c.work-item.is keeps
    (c.loop-work.invariant changes keeps) (λ later kept. c.in_ok-do_work.ensures later kept)

pub returns-in_err-do_work : goal.returns-in_err-do_work
returns-in_err-do_work g c = λ changes keeps.
    refused_by ⊥ file_words c.args.round.now.now c.args.works.now changes c.args.node.now c.do_work.new.node c.from_residual.result c.from_residual.ensures.0
    (stops_here ⊥ file_words c.args.round.now.now c.args.works.now c.loop-work.work-index c.work-item.result changes c.args.node.now c.loop-work.node c.do_work.new.node c.loop-work-test.true c.work-item.is keeps
    (c.loop-work.invariant changes keeps) (λ later kept. c.in_err-do_work.ensures later kept))

pub returns : goal.returns
returns g c = λ changes keeps. all_done ⊥ file_words c.args.round.now.now c.args.works.now c.loop-work.work-index changes c.args.node.now c.loop-work.node c.loop-work-test.false (c.loop-work.invariant changes keeps)
