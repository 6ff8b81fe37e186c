use Rattle.relay_daemon.proofs.CallLemmas.{calls_keep}
use Rattle.relay_daemon.proofs.laws.calls_keep_the_promise.Goals as goal

pub returns : goal.returns
returns g c =
    calls_keep g.D.Disk.honest g.D.Disk.words c.none_is_awaited.ensures c.promise_is_kept.ensures
