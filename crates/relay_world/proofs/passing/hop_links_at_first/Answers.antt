use Rattle.relay_world.proofs.HopLinkLemmas.{hop_links_at_first}
use Rattle.relay_world.proofs.passing.hop_links_at_first.Goals as goal

pub returns : goal.returns
returns g c = hop_links_at_first _
