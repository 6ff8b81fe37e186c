-- the recipients to come
use Rattle.std.proofs.Common.{length}
use Rattle.relay_book.proofs.length.+row_length.Given as goal

abbrev pub decreases-row_length : goal.decreases-row_length
decreases-row_length l = length l.recipients.now
