-- what is written, and what is to come
use Rattle.std.proofs.Common.{◌≡◌, ◌++◌, drop}
use Rattle.std.specs.List.{flat_map}
use Rattle.relay_book.specs.Record.{ruling_octets}
use Rattle.relay_book.proofs.encode.push_rulings.Given as goal

abbrev pub invariant-loop-ruling : goal.invariant-loop-ruling
invariant-loop-ruling l =
    l.out.items ++ flat_map ruling_octets (drop l.ruling-index l.rulings) ≡ l.initial.out.items ++ flat_map ruling_octets l.rulings
