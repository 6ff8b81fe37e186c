use Rattle.std.proofs.Common.{ℕ, List, ◌∙◌, ap}
use Rattle.std.proofs.lemmas.Result.{IfOk-weaker}
use Rattle.relay_client.specs.Conversation.{verdicts_from}
use Rattle.relay_client.proofs.DoesLemmas.{does_end}
use Rattle.relay_client.proofs.conversation.Conversation.end.Goals as goal

pub returns : goal.returns
returns c = IfOk-weaker c.verdicts.result _ _
    (λ verdicts are delivery old h.
    does_end delivery old c.args.self.now _ c.args.last.now verdicts c.args.out.now.items
    c.write_quit.new.out.items h c.in_ok-write_quit.ensures
    (are ∙ ap (λ (p : List ℕ). verdicts_from p c.args.self.now.settled c.args.last.now) c.as_slice.ensures.value))
    c.verdicts.ensures
