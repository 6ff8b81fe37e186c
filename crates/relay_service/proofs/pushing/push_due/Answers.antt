-- Where it can't be told what is due, nothing was done.
use Rattle.relay_disk.specs.File.{file_words}
use Rattle.relay_attempts.specs.Work.{works_of}
use Rattle.relay_service.proofs.PushingLemmas.{none_done, refused_by}
use Rattle.relay_service.proofs.pushing.push_due.Goals as goal

pub returns-in_err-works : goal.returns-in_err-works
returns-in_err-works g c = λ changes keeps.
    let node = c.args.node.now in
    let works = works_of node.config.routes node.attempts 0 node.records.queue in
    (0, refused_by ⊥ file_words 0 works changes node node c.from_residual.result c.from_residual.ensures.0 (none_done ⊥ file_words 0 works changes node))
