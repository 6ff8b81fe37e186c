use Rattle.std.proofs.Common.{◌<◌, ◌^◌, length, arith, rules}
use Rattle.relay_book.proofs.LongLemmas.{none_cut, none_short}
use Rattle.relay_book.proofs.field.read_sized_4.Goals as goal

pub returns-in_err-len : goal.returns-in_err-len
returns-in_err-len c = rw c.from_residual.ensures (none_short c.args.text.now c.in_err-len.ensures)

pub returns-else-len-rest : goal.returns-else-len-rest
returns-else-len-rest c =
    let fits : c.in_ok-len.len < 2 ^ 32 = search rules in
    let less : length c.in_ok-len.rest.now < c.in_ok-len.len = omega arith in
    none_cut c.args.text.now c.in_ok-len.len c.in_ok-len.rest.now c.in_ok-len.ensures fits less
