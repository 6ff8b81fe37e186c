use Rattle.relay_log.proofs.RefusedLemmas.{refuses_unknown, unknown_by}
use Rattle.relay_log.proofs.refused.refuses_unknown.Goals as goal

pub returns : goal.returns
returns c = (
  λ is. unknown_by c.args.reply.now (c.is_line.ensures.0 is),
  λ refuses. c.is_line.ensures.1 (refuses_unknown c.args.reply.now refuses),
)
