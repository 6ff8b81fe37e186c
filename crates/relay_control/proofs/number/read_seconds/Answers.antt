use Rattle.std.proofs.Common.{arith}
use Rattle.relay_control.proofs.NumberLemmas.{many_seconds}
use Rattle.relay_control.proofs.number.read_seconds.Goals as goal

pub returns-else-number-le65535 : goal.returns-else-number-le65535
returns-else-number-le65535 c =
    many_seconds c.args.text.now c.in-Some.number c.in-Some.ensures (λ few. let many = c.if-number-le65535.false in omega arith)
