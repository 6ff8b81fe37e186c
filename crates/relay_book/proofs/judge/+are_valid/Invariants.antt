-- each call has a verdict less
use Rattle.std.proofs.Common.{length}
use Rattle.relay_book.proofs.judge.+are_valid.Given as goal

abbrev pub decreases-are_valid : goal.decreases-are_valid
decreases-are_valid l = length l.rulings.now
