-- the works so far were done, in order
use Rattle.std.proofs.Common.{List, take}
use Rattle.relay_book.specs.declared.change.Change.{Change}
use Rattle.relay_disk.specs.File.{file_words}
use Rattle.relay_records.specs.Records.{Keeps}
use Rattle.relay_service.specs.Pushing.{DoesEach}
use Rattle.relay_service.proofs.pushing.do_works.Given as goal

abbrev pub invariant-loop-work : goal.invariant-loop-work
invariant-loop-work g l =
    (changes : List Change) → Keeps ⊥ file_words l.initial.node.records changes
    → (later : List Change) × DoesEach ⊥ file_words l.round.now (take l.work-index l.works) changes l.initial.node later l.node
