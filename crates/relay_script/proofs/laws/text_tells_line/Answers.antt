use Rattle.relay_script.proofs.OneLineLemmas.{text_tells_line}
use Rattle.relay_script.proofs.laws.text_tells_line.Goals as goal

pub returns : goal.returns
returns c = text_tells_line
