-- the places so far, and those to come
use Rattle.std.proofs.Common.{◌≡◌, ◌++◌, false, drop, map}
use Rattle.relay_book.specs.Queue.{held_place}
use Rattle.relay_book.proofs.book.make.start_places.Given as goal

abbrev pub invariant-loop : goal.invariant-loop
invariant-loop l =
    l.items-2.items ++ map (λ recipient. held_place 0 false l.accept.at) (drop l.index l.accept.envelope.recipients)
    ≡ map (λ recipient. held_place 0 false l.accept.at) l.accept.envelope.recipients
