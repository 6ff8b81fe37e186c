use Rattle.relay_server.proofs.ReplyLemmas.{only_content_is_offered}
use Rattle.relay_server.proofs.laws.only_content_is_offered.Goals as goal

pub returns : goal.returns
returns c = only_content_is_offered
