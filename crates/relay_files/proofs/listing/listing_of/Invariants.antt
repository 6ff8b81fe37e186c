-- the lines of the places so far
use Rattle.std.proofs.Common.{◌≡◌, take}
use Rattle.std.specs.List.{flat_map}
use Rattle.relay_files.specs.Listing.{line_at}
use Rattle.relay_files.proofs.listing.listing_of.Given as goal

abbrev pub invariant-loop-mark : goal.invariant-loop-mark
invariant-loop-mark l = l.lines.items ≡ flat_map (line_at l.look.queue) (take l.mark-index l.mark-items)
