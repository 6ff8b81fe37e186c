-- A close ends the link.
use Rattle.relay_hub.proofs.link.answer_block.Goals as goal

pub returns-then-branch-clause-goes_on : goal.returns-then-branch-clause-goes_on
returns-then-branch-clause-goes_on g c = λ start left h.
    let goes = c.in_ok-answer.ensures.goes_on start left (c.loop-used.invariant.so_far start left h) in
    rw c.if-branch.true at goes
