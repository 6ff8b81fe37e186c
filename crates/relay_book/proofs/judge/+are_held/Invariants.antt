-- each call has a verdict less
use Rattle.std.proofs.Common.{length}
use Rattle.relay_book.proofs.judge.+are_held.Given as goal

abbrev pub decreases-are_held : goal.decreases-are_held
decreases-are_held l = length l.rulings.now
