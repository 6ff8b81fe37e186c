use Rattle.relay_disk.proofs.DeviceLemmas.{cuts_leave_a_front}
use Rattle.relay_disk.proofs.laws.cuts_leave_a_front.Goals as goal

pub returns : goal.returns
returns c = cuts_leave_a_front
