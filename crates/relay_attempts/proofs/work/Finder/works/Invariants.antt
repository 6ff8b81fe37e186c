-- the works so far, and those to come
use Rattle.std.proofs.Common.{◌≡◌, ◌++◌}
use Rattle.std.specs.List.{flat_map}
use Rattle.relay_attempts.specs.Gathering.{at_number}
use Rattle.relay_attempts.specs.Work.{message_works}
use Rattle.relay_attempts.proofs.work.Finder.works.Given as goal

abbrev pub invariant-loop-number : goal.invariant-loop-number
invariant-loop-number g l =
    l.works.items ++ flat_map (at_number (message_works l.self.table.now l.self.runs.now l.self.at) l.records.queue.messages) l.number-iterator
    ≡ flat_map (at_number (message_works l.self.table.now l.self.runs.now l.self.at) l.records.queue.messages) l.numbers.keys
