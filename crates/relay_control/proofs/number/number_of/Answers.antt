use Rattle.std.proofs.Common.{List, ℕ, subst}
use Rattle.std.specs.Str.Parse.{ParsesUnsigned}
use Rattle.relay_control.proofs.NumberLemmas.{not_text, number_parsed}
use Rattle.relay_control.proofs.number.number_of.Goals as goal

pub returns-in-Ok : goal.returns-in-Ok
returns-in-Ok c =
    let parses = subst (λ (text : List ℕ). ParsesUnsigned 64 10 text c.parse.result) c.in-Ok.ensures.cases.0 c.parse.ensures.value.0 in
    rw c.ok.ensures.value (number_parsed c.args.text.now c.parse.result c.requires parses)

pub returns-in-Err : goal.returns-in-Err
returns-in-Err c = not_text c.args.text.now c.in-Err.ensures.cases.0
