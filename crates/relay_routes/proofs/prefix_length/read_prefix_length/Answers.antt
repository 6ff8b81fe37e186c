use Rattle.std.proofs.Common.{arith}
use Rattle.relay_routes.proofs.PrefixLemmas.{digit_alone, digits_make, no_leading, no_ones, no_other_length, no_tens}
use Rattle.relay_routes.proofs.prefix_length.read_prefix_length.Goals as goal

pub returns-in_err-digit-in-len2 : goal.returns-in_err-digit-in-len2
returns-in_err-digit-in-len2 c = rw c.from_residual.ensures (no_tens c.args.text.now (omega arith) c.in_err-digit-in-len2.ensures)

pub returns-in_err-digit-in-len2-2 : goal.returns-in_err-digit-in-len2-2
returns-in_err-digit-in-len2-2 c = rw c.from_residual-in_err-digit-in-len2-2.ensures (no_ones c.args.text.now (omega arith) c.in_err-digit-in-len2-2.ensures)

pub returns-in-len1 : goal.returns-in-len1
returns-in-len1 c = digit_alone c.args.text.now c.digit.result (omega arith) c.digit.ensures

pub returns-in_ok-digit-in-len2-2 : goal.returns-in_ok-digit-in-len2-2
returns-in_ok-digit-in-len2-2 c =
    let tens = c.in_ok-digit-in-len2.ensures in
    let ones = c.in_ok-digit-in-len2-2.ensures in
    (omega (arith, tens.0, ones.0), digits_make c.args.text.now _ _ (omega arith) tens.0 ones.0 c.if-tens-ne48.true tens.1 ones.1)

pub returns-in_default : goal.returns-in_default
returns-in_default c = no_other_length c.args.text.now (λ one. absurd (omega arith)) (λ two. absurd (omega arith))

pub returns-in_default-2 : goal.returns-in_default-2
returns-in_default-2 c = no_leading c.args.text.now (omega arith) c.if-tens-ne48.false

pub returns-in_default-3 : goal.returns-in_default-3
returns-in_default-3 c = no_other_length c.args.text.now (λ one. absurd (omega arith)) (λ two. absurd (omega arith))
