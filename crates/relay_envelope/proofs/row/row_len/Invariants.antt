-- what was passed, and the row of the rest, are the row of the text
use Rattle.std.proofs.Common.{◌≡◌, drop}
use Rattle.relay_envelope.specs.RowScan.{counted, row_len_from}
use Rattle.relay_envelope.specs.declared.row.Place.TheVariants.{Outside}
use Rattle.relay_envelope.proofs.row.row_len.Given as goal

abbrev pub invariant-loop-i : goal.invariant-loop-i
invariant-loop-i l = counted l.i (row_len_from l.stop l.place (drop l.i l.text)) ≡ row_len_from l.stop Outside l.text
