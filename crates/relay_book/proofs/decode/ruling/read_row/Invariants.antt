-- the values so far are valid, and the text is theirs and the rest
use Rattle.std.proofs.Common.{◌≡◌, ◌++◌}
use Rattle.std.specs.List.{flat_map}
use Rattle.relay_book.specs.Record.{IsRuling, ruling_octets}
use Rattle.relay_book.specs.Fields.{HaveCount}
use Rattle.relay_book.proofs.decode.ruling.read_row.Given as goal

abbrev pub invariant-loop-index : goal.invariant-loop-index
invariant-loop-index l = HaveCount IsRuling l.index l.rulings × (l.text ≡ flat_map ruling_octets l.rulings ++ l.rest)
