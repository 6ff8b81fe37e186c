-- the unit's name is shown as it is
use Rattle.std.proofs.Common.{◌++◌, ap, ◌∙◌, decimal}
use Rattle.std.proofs.lemmas.Result.{on_ok_weaker}
use Rattle.relay_listing.specs.Amounts.{tenth_text}
use Rattle.relay_queue.proofs.JoinLemmas.{joined3}
use Rattle.relay_queue.proofs.ShownLemmas.{shown_printable}
use Rattle.relay_queue.proofs.screen.Screen.push_amount.Goals as goal

pub returns : goal.returns
returns c =
    let amount = c.args.amount in
    on_ok_weaker c.push.result
    (λ last. joined3 c.args.self.now c.push_number.new.self c.push_tenth.new.self c.push.new.self (decimal amount.whole)
    (tenth_text amount.tenth) amount.unit.now c.in_ok-push_number.ensures c.in_ok-push_tenth.ensures
    (last ∙ ap (λ l. c.push_tenth.new.self ++ l) (shown_printable amount.unit.now c.requires.unit)))
    c.push.ensures
