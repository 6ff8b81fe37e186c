-- The error of a wrong choice of mail has its kind.
use Rattle.std.proofs.Common.{◌≡◌, subst}
use Rattle.std.specs.Prelude.{IfOk}
use Rattle.clap.specs.Words.{kind_of}
use Rattle.relay_arguments.proofs.choices.ChoiceFault.error.Goals as goal

pub returns : goal.returns
returns c = subst (λ kind. IfOk c.error.result (λ error. kind_of error ≡ kind)) c.kind-kind.ensures c.error.ensures.kind
