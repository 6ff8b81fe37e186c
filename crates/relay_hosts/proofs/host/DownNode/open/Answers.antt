use Rattle.relay_hosts.proofs.StopLemmas.{comes_up, owes_none, stays_down}
use Rattle.relay_hosts.proofs.host.DownNode.open.Goals as goal

pub decide-requires-clause-idle : goal.decide-requires-clause-idle
decide-requires-clause-idle g c =
    owes_none g.D.Disk.honest g.D.Disk.words c.args.self c.args.records.items c.in-Ok.node c.in-Ok.ensures.opens
    c.in-Ok.ensures.idle

pub returns-in-Ok : goal.returns-in-Ok
returns-in-Ok g c =
    comes_up g.D.Disk.honest g.D.Disk.words c.args.self c.args.records.items c.in-Ok.node c.decide.result.0 c.decide.result.1
    c.in-Ok.ensures.opens c.in-Ok.ensures.idle c.decide.ensures

pub returns-in-Err : goal.returns-in-Err
returns-in-Err g c =
    stays_down g.D.Disk.honest g.D.Disk.words c.args.self c.args.records.items c.in-Err.not.config c.in-Err.not.refused.disk
    c.in-Err.not.refused.cause c.in-Err.ensures.config (λ honest. (c.in-Err.ensures.keeps honest).stop.now)
    c.in-Err.ensures.refused c.in-Err.ensures.failures c.in-Err.ensures.calls
