-- the replies that were kept, and how they are read, stay
use Rattle.relay_log.specs.Talk.{KeepsNone, KeepsRest}
use Rattle.relay_log.proofs.talk.Talk.copy_paths.Given as goal

abbrev pub invariant-loop-recipient : goal.invariant-loop-recipient
invariant-loop-recipient l = record { none : KeepsNone l.fn.self l.self; rest : KeepsRest l.fn.self l.self }
