-- each call has a verdict less
use Rattle.std.proofs.Common.{length}
use Rattle.relay_book.proofs.judge.+all_without_hop.Given as goal

abbrev pub decreases-all_without_hop : goal.decreases-all_without_hop
decreases-all_without_hop l = length l.rulings.now
