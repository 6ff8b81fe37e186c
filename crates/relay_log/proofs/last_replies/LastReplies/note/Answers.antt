-- The insert changes what the map has under the name alone.
use Rattle.std.proofs.Common.{◌∙◌}
use Rattle.relay_log.proofs.LastReplyLemmas.{others_stay}
use Rattle.relay_log.proofs.last_replies.LastReplies.note.Goals as goal

pub returns-in-Ok-clause-others : goal.returns-in-Ok-clause-others
returns-in-Ok-clause-others c = λ other apart.
    others_stay c.in_ok-name.name _ _ other c.in-Ok.ensures.updates.3 (λ is. apart (is ∙ c.in_ok-name.ensures.items))
