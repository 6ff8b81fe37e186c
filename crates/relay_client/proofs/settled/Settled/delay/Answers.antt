use Rattle.std.proofs.Common.{List, ◌++◌, ◌∷◌, [], Option, Some, refl, ap, ◌∙◌}
use Rattle.std.proofs.lemmas.Result.{IfOk-from_err}
use Rattle.relay_book.specs.declared.change.Verdict.{Verdict}
use Rattle.relay_book.specs.declared.change.Verdict.TheVariants.{Later}
use Rattle.relay_client.specs.declared.settled.Said.{Said}
use Rattle.relay_client.specs.declared.settled.Said.TheVariants.{Delayed}
use Rattle.relay_client.specs.Settled.{settled_of}
use Rattle.relay_client.proofs.SettledLemmas.{delayed_more, sizes_stay}
use Rattle.relay_client.proofs.settled.Settled.delay.Goals as goal

pub invariant_of-self-2 : goal.invariant_of-self-2
invariant_of-self-2 c =
    sizes_stay c.self.inside.said.items c.push.new.self.items Delayed c.self.inside.texts.items refl c.self.invariant
    c.in_ok-push.ensures.items

pub returns-in_err-push : goal.returns-in_err-push
returns-in_err-push c = IfOk-from_err c.from_residual.result _ c.from_residual.ensures.0

pub returns : goal.returns
returns c =
    ap (λ (said : List Said). settled_of said c.self.inside.texts.items) c.in_ok-push.ensures.items
    ∙ delayed_more c.self.inside.said.items c.self.inside.texts.items
    ∙ ap (λ (settled : List (Option Verdict)). settled ++ Some Later ∷ []) c.self.view_is
