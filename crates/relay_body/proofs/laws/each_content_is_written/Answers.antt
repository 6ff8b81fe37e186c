use Rattle.relay_body.proofs.DotTextLemmas.{each_content_is_written}
use Rattle.relay_body.proofs.laws.each_content_is_written.Goals as goal

pub returns : goal.returns
returns c = each_content_is_written
