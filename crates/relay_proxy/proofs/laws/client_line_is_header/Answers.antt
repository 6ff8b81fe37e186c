use Rattle.relay_proxy.proofs.WrittenLemmas.{client_line_is_header}
use Rattle.relay_proxy.proofs.laws.client_line_is_header.Goals as goal

pub returns : goal.returns
returns c = client_line_is_header
