use Rattle.std.proofs.Common.{arith}
use Rattle.relay_control.proofs.NamedLemmas.{other_place}
use Rattle.relay_control.proofs.named.read_place.Goals as goal
use Rattle.relay_control.proofs.named.read_place.Goals.{else-from-number-via-then-from-number+else-number-lt100, else-from-number-via-else-from-number}

pub returns-else-from-number : goal.returns-else-from-number
returns-else-from-number c =
    let is = c.from.ensures in
    other_place c.args.text.now c.args.least c.in-Some.number c.in-Some.ensures
    (λ from below.
    elim c.else-from-number.branch [
      | else-from-number-via-then-from-number+else-number-lt100 w ↦ let many = w.if-number-lt100.false in omega arith
      | else-from-number-via-else-from-number w ↦ let few = w.if-from-number.false in omega arith
    ])
