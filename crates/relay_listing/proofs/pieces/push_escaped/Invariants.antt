use Rattle.std.proofs.Common.{◌≡◌, ◌++◌, take}
use Rattle.relay_listing.specs.Pieces.{escaped}
use Rattle.relay_listing.proofs.pieces.push_escaped.Given as goal

abbrev pub invariant-loop-octet : goal.invariant-loop-octet
invariant-loop-octet l = l.text.items ≡ l.fn.text.items ++ escaped (take l.octet-index l.octets)
