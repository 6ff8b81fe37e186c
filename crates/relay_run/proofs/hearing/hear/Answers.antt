-- All clients are served, and attempts hear what was gathered.
use Rattle.std.proofs.Common.{subst}
use Rattle.std.specs.Prelude.{IfOk}
use Rattle.relay_connections.specs.Replies.{HearRepliesIf}
use Rattle.relay_run.proofs.ServedLemmas.{first_on}
use Rattle.relay_run.proofs.hearing.hear.Goals as goal

pub returns-in-Ok-clause-served : goal.returns-in-Ok-clause-served
returns-in-Ok-clause-served g c = λ changes setting served. first_on g.D.Disk.honest g.D.Disk.words g.S.Stream.remaining g.S.Stream.contents _ _ c.serve.result (c.serve.ensures.served changes setting served)

pub returns-in-Err-clause-served : goal.returns-in-Err-clause-served
returns-in-Err-clause-served g c = λ changes setting served. first_on g.D.Disk.honest g.D.Disk.words g.S.Stream.remaining g.S.Stream.contents _ _ c.serve-in-Err.result (c.serve-in-Err.ensures.served changes setting served)

pub returns-in-Ok-clause-heard : goal.returns-in-Ok-clause-heard
returns-in-Ok-clause-heard g c =
    rw c.in-Ok.is
    (subst (λ replies. IfOk c.serve.result (λ end. HearRepliesIf g.D.Disk.honest g.D.Disk.words replies c.args.now.now.moment c.args.relay.now c.serve.new.relay end.1)) c.as_slice.ensures.value c.serve.ensures.heard)
