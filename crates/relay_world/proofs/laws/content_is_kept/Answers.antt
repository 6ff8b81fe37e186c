use Rattle.relay_world.proofs.ContentLemmas.{content_is_kept}
use Rattle.relay_world.proofs.laws.content_is_kept.Goals as goal

pub returns : goal.returns
returns g c = content_is_kept g.D.Disk.honest g.D.Disk.words
