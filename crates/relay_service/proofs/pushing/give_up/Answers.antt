-- The places of a message without a hop have ended, whatever becomes of the line that says so.
use Rattle.std.proofs.Common.{None}
use Rattle.relay_disk.specs.File.{file_words}
use Rattle.relay_attempts.specs.declared.work.Work.TheVariants.{NoRoute}
use Rattle.relay_files.specs.declared.fault.Fault.TheVariants.{Device}
use Rattle.relay_service.proofs.PushingLemmas.{gave_up, gave_up_not, whatever_noted}
use Rattle.relay_service.proofs.pushing.give_up.Goals as goal

pub returns-in-Ok : goal.returns-in-Ok
returns-in-Ok g c = λ changes keeps.
    let old = c.args.node.now in
    let mid = c.give_up_unroutable.new.self in
    let rest = c.in-Ok.ensures.rest in
    whatever_noted ⊥ file_words c.args.now None (NoRoute c.args.number) changes old mid c.take_noted.new.self c.said.result
    (gave_up ⊥ file_words c.args.now c.args.number changes old mid _ (c.in-Ok.ensures.gives_up changes keeps) rest.0 rest.1 rest.2) c.take_noted.ensures.rest

pub returns : goal.returns
returns g c = λ changes keeps.
    let rest = c.in-Err.ensures.rest in
    gave_up_not ⊥ file_words c.args.now Device c.args.number changes c.args.node.now c.give_up_unroutable.new.self c.in-Err.fault c.left_over.result keeps c.in-Err.ensures.refused rest.0 rest.1 rest.2 c.left_over.ensures
