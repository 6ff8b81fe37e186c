use Rattle.relay_proxy.proofs.WrittenLemmas.{client_block_is_header}
use Rattle.relay_proxy.proofs.laws.client_block_is_header.Goals as goal

pub returns : goal.returns
returns c = client_block_is_header
