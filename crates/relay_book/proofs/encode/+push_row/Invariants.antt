-- the recipients to come
use Rattle.std.proofs.Common.{length}
use Rattle.relay_book.proofs.encode.+push_row.Given as goal

abbrev pub decreases-push_row : goal.decreases-push_row
decreases-push_row l = length l.recipients.now
