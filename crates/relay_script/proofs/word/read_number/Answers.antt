use Rattle.std.proofs.Common.{List, ℕ, subst, sym, ◌∙◌}
use Rattle.std.specs.Str.Parse.{ParsesUnsigned}
use Rattle.relay_script.proofs.NumberLemmas.{parsed_number, digits_are_utf8}
use Rattle.relay_script.proofs.word.read_number.Goals as goal

pub returns-in-Ok : goal.returns-in-Ok
returns-in-Ok c =
    let parses =
    subst
    (λ (text : List ℕ). ParsesUnsigned 64 10 text c.parse.result) c.in-Ok.ensures.cases.0 c.parse.ensures.value.0 in
    parsed_number c.args.word.now c.parse.result c.ok.result
    (sym c.are_number_digits.ensures ∙ c.if-not-are_number_digits.false) parses c.ok.ensures.value

pub returns-in-Err : goal.returns-in-Err
returns-in-Err c = absurd
    (c.in-Err.ensures.cases.0
    (digits_are_utf8 c.args.word.now (sym c.are_number_digits.ensures ∙ c.if-not-are_number_digits.false)))
