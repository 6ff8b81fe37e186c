use Rattle.std.proofs.Common.{sym, arith}
use Rattle.std.proofs.lemmas.List.{take_all}
use Rattle.relay_backlog.proofs.log_line.cut.Goals as goal

pub returns-then-value-lt-VALUE_LIMIT : goal.returns-then-value-lt-VALUE_LIMIT
returns-then-value-lt-VALUE_LIMIT c =
    sym (take_all 320 c.args.value.now (omega (arith, c.if-value-lt-VALUE_LIMIT.true)))
