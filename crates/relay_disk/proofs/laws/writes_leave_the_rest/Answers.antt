use Rattle.relay_disk.proofs.DeviceLemmas.{writes_leave_the_rest}
use Rattle.relay_disk.proofs.laws.writes_leave_the_rest.Goals as goal

pub returns : goal.returns
returns c = writes_leave_the_rest
