-- each call has a verdict less
use Rattle.std.proofs.Common.{length}
use Rattle.relay_book.proofs.judge.+are_of_version.Given as goal

abbrev pub decreases-are_of_version : goal.decreases-are_of_version
decreases-are_of_version l = length l.rulings.now
