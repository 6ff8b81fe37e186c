use Rattle.relay_server.proofs.SessionLawLemmas.{piece_goes_on}
use Rattle.relay_server.proofs.session_laws.piece_goes_on.Goals as goal

pub returns : goal.returns
returns c = piece_goes_on
