use Rattle.std.proofs.Common.{◌<◌, ◌^◌, ◌++◌, ap, ◌∙◌, List, ℕ, length, arith, rules}
use Rattle.relay_book.specs.Record.{octets_2}
use Rattle.relay_book.proofs.RefusalLemmas.{none_cut, none_short, none_without_length}
use Rattle.relay_book.proofs.decode.ruling.read_refusal.Goals as goal

pub returns-in_err-code : goal.returns-in_err-code
returns-in_err-code c = rw c.from_residual.ensures (none_short c.args.text.now c.in_err-code.ensures)

pub returns-in_err-len : goal.returns-in_err-len
returns-in_err-len c =
    let fits : c.in_ok-code.code < 2 ^ 16 = search rules in
    rw c.from_residual-in_err-len.ensures (none_without_length c.args.text.now c.in_ok-code.code c.in_ok-code.after.now c.in_ok-code.ensures fits c.in_err-len.ensures.cases)

pub returns-then-len-after : goal.returns-then-len-after
returns-then-len-after c =
    let fits : c.in_ok-code.code < 2 ^ 16 = search rules in
    let less : length c.in_ok-len.after.now < c.in_ok-len.len.now = omega arith in
    none_cut c.args.text.now c.in_ok-code.code c.in_ok-len.len.now c.in_ok-len.after.now
    (c.in_ok-code.ensures ∙ ap (λ (l : List ℕ). octets_2 c.in_ok-code.code ++ l) c.in_ok-len.ensures.cases.0) fits less
