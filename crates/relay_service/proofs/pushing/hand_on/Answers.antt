-- A link of an attempt over a connection, or its loss where none was made.
use Rattle.std.proofs.Common.{None, []}
use Rattle.relay_disk.specs.File.{file_words}
use Rattle.relay_links.specs.Push.{push_start_at}
use Rattle.relay_service.proofs.PushingLemmas.{begins_here, handed}
use Rattle.relay_service.proofs.pushing.hand_on.Goals as goal

pub returns-in-Ok-clause-pushed : goal.returns-in-Ok-clause-pushed
returns-in-Ok-clause-pushed g c = λ changes told keeps tells.
    handed ⊥ file_words c.clock_moment-now.result _ _ _ _ c.args.node.now c.push_link-pushed.new.node.records changes told c.push_link-pushed.result
    (c.push_link-pushed.ensures.pushed changes told keeps tells)

pub returns-in-Err-clause-pushed : goal.returns-in-Err-clause-pushed
returns-in-Err-clause-pushed g c = λ changes told keeps tells.
    let node = c.args.node.now in
    let at = c.clock_moment.result in
    handed ⊥ file_words at None None None None node c.lose_link-pushed.new.node.records changes told c.lose_link-pushed.result
    (c.lose_link-pushed.ensures.pushed (push_start_at None None node changes told) None None [] [] (begins_here ⊥ file_words at c.args.attempt node changes told keeps tells))
