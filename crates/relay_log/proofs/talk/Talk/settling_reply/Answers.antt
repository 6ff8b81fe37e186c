-- The reply at the position that the codes give.
use Rattle.std.proofs.Common.{ap, ◌∙◌}
use Rattle.std.specs.Prelude.{slice_get}
use Rattle.relay_log.specs.Settling.{told_as}
use Rattle.relay_log.proofs.TalkLemmas.{settled_at}
use Rattle.relay_log.proofs.talk.Talk.settling_reply.Goals as goal

pub returns : goal.returns
returns c = λ octets replies kept.
    c.reply_at.ensures octets replies kept
    ∙ ap (λ position. told_as (slice_get replies position))
    (settled_at c.as_slice.result.now replies c.args.self.now.by_data c.args.count c.args.index
    c.settling_position-position.result
    (c.as_slice.ensures.value ∙ kept.codes) c.settling_position-position.ensures)
