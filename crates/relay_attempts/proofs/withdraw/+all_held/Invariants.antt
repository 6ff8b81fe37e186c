-- each call has a name less
use Rattle.std.proofs.Common.{length}
use Rattle.relay_attempts.proofs.withdraw.+all_held.Given as goal

abbrev pub decreases-all_held : goal.decreases-all_held
decreases-all_held l = length l.names.now
