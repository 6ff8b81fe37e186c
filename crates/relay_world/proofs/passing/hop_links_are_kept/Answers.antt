use Rattle.relay_world.proofs.HopLinkLemmas.{hop_links_are_kept}
use Rattle.relay_world.proofs.passing.hop_links_are_kept.Goals as goal

pub returns : goal.returns
returns g c = hop_links_are_kept g.D.Disk.honest g.D.Disk.words
