-- the heading, and the end of the line
use Rattle.std.proofs.Common.{[], ◌∷◌, codes}
use Rattle.std.proofs.lemmas.Result.{on_ok_weaker}
use Rattle.relay_queue.specs.Screen.{shown}
use Rattle.relay_queue.proofs.JoinLemmas.{joined2}
use Rattle.relay_queue.proofs.status.push_last_heading.Goals as goal

pub returns : goal.returns
returns c =
    on_ok_weaker c.end_line.result
    (λ last. joined2 c.args.screen.now c.push.new.self c.end_line.new.self (shown (codes "  NEXT TRY")) (10 ∷ []) c.in_ok-push.ensures last)
    c.end_line.ensures
