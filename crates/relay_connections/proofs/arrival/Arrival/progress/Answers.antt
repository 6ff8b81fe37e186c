use Rattle.relay_connections.proofs.HeaderFrontLemmas.{none_is_no_header}
use Rattle.relay_connections.proofs.arrival.Arrival.progress.Goals as goal

pub returns-in-Missing : goal.returns-in-Missing
returns-in-Missing g c = none_is_no_header c.args.self.now.header c.in-Missing.ensures
