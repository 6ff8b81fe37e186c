use Rattle.relay_script.proofs.TextLemmas.{text_tells_octets}
use Rattle.relay_script.proofs.laws.text_tells_octets.Goals as goal

pub returns : goal.returns
returns c = text_tells_octets
