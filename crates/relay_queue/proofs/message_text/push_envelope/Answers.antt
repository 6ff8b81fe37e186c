-- the lines of the fields, one after another
use Rattle.std.proofs.Common.{◌≡◌, ◌++◌, subst}
use Rattle.std.proofs.lemmas.Result.{on_ok_weaker}
use Rattle.relay_queue.specs.Message.{size_line}
use Rattle.relay_queue.proofs.JoinLemmas.{joined4}
use Rattle.relay_queue.proofs.message_text.push_envelope.Goals as goal

pub returns : goal.returns
returns c =
    let sized = subst (λ size. c.push_size_line.new.screen ≡ c.push_accepted.new.screen ++ size_line size) c.len.ensures c.in_ok-push_size_line.ensures in
    on_ok_weaker c.push_mail.result
    (λ last. (
      c.time-time.result,
      joined4 c.args.screen.now _ _ _ _ _ _ _ _ c.in_ok-push_number_line.ensures c.in_ok-push_accepted.ensures sized last,
    ))
    c.push_mail.ensures
