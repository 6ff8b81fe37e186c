use Rattle.relay_proxy.proofs.ClientLemmas.{no_tcp4}
use Rattle.relay_proxy.proofs.line.source_of.Goals as goal

pub returns-in-Some-client_of : goal.returns-in-Some-client_of
returns-in-Some-client_of c = (c.in-Some.text.now, c.in-Some.ensures, c.in-Some-client_of.ensures)

pub returns-in-None : goal.returns-in-None
returns-in-None c = no_tcp4 c.args.line.now c.in-Some.text.now c.in-Some.ensures c.in-None.ensures
