use Rattle.relay_meeting.proofs.WritesLemmas.{client_writes}
use Rattle.relay_meeting.proofs.laws.client_writes.Goals as goal

pub returns : goal.returns
returns c = client_writes
