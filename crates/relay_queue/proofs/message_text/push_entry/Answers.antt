-- the parameters, and the state by the next hop of the path
use Rattle.std.proofs.Common.{◌≡◌, ◌++◌, subst}
use Rattle.std.proofs.lemmas.Result.{on_ok_weaker}
use Rattle.relay_queue.specs.Message.{state_line}
use Rattle.relay_queue.proofs.JoinLemmas.{joined2}
use Rattle.relay_queue.proofs.message_text.push_entry.Goals as goal

pub returns : goal.returns
returns c =
    on_ok_weaker c.push_state.result
    (λ added. (
      added.0,
      joined2 c.args.screen.now _ _ _ _ c.in_ok-push_recipient.ensures
          (subst (λ hop. c.push_state.new.screen ≡ c.push_recipient.new.screen ++ state_line added.0 hop c.args.place) c.hop_at.ensures added.1),
    ))
    c.push_state.ensures
