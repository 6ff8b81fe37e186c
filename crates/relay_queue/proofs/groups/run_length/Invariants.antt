-- the places so far, and those of what is left
use Rattle.std.proofs.Common.{◌≡◌, ◌+◌, ◌==◌, drop}
use Rattle.std.specs.List.{prefix_len}
use Rattle.relay_queue.proofs.groups.run_length.Given as goal

abbrev pub invariant-loop-index : goal.invariant-loop-index
invariant-loop-index l =
    l.index + prefix_len (λ mark. mark.0 == l.message) (drop l.index l.marks)
    ≡ prefix_len (λ mark. mark.0 == l.message) l.marks
