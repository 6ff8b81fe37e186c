-- the bodies so far were read
use Rattle.std.proofs.Common.{◌≡◌, length, map}
use Rattle.relay_pieces.specs.Pieces.{text_of}
use Rattle.relay_book.specs.StandsFor.{ReadsAll}
use Rattle.relay_records.proofs.reading.read_bodies.Given as goal

abbrev pub invariant-loop-body : goal.invariant-loop-body
invariant-loop-body l = record {
  counted : l.before ≡ length l.yielded;
  reads : ReadsAll (map text_of l.yielded) l.book.queue;
}
