use Rattle.relay_server.proofs.BeginningLemmas.{beginnings_have_beginnings}
use Rattle.relay_server.proofs.laws.beginnings_have_beginnings.Goals as goal

pub returns : goal.returns
returns c = beginnings_have_beginnings
