use Rattle.std.proofs.lemmas.Result.{IfOk-weaker}
use Rattle.relay_client.proofs.SettledLemmas.{kept_is_short}
use Rattle.relay_client.proofs.verdict.kept_text.Goals as goal

pub returns-clause-short : goal.returns-clause-short
returns-clause-short c = IfOk-weaker c.all_shown.result _ _ (λ text is. kept_is_short _ _ _ c.kept_of.ensures is) c.all_shown.ensures.shown
