-- the tries for the places so far
use Rattle.std.proofs.Common.{◌≡◌, ◌++◌, take}
use Rattle.relay_attempts.specs.Hops.{due_hops}
use Rattle.relay_attempts.specs.Work.{tries}
use Rattle.relay_attempts.proofs.work.Finder.push_tries.Given as goal

abbrev pub invariant-loop-index : goal.invariant-loop-index
invariant-loop-index l =
    l.works.items
    ≡ l.initial.works.items ++ tries l.self.runs.now l.number (due_hops l.self.table.now l.self.at l.recipients (take l.index l.message.places))
