use Rattle.relay_control.proofs.HeldFileLemmas.{held_reads_back}
use Rattle.relay_control.proofs.laws.held_reads_back.Goals as goal

pub returns : goal.returns
returns c = held_reads_back
