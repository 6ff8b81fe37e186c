use Rattle.relay_spool.proofs.CallLemmas.{counts_turned, makes_turned}
use Rattle.relay_spool.proofs.TurnLemmas.{fuses_on, on_ok, settled_on}
use Rattle.relay_spool.proofs.make.write_second.Goals as goal

pub returns-clause-settled : goal.returns-clause-settled
returns-clause-settled g c = λ honest.
    on_ok c.write_through-answer.result
    (λ only. settled_on g.D.Disk.honest g.D.Disk.words honest c.write_through-answer.new.disk c.turn-2.new.self.second
    c.turn-2.ensures.other_there only) (c.write_through-answer.ensures.settled honest)

pub returns-clause-first : goal.returns-clause-first
returns-clause-first g c =
    fuses_on g.D.Disk.honest g.D.Disk.words c.args.disks.now.first c.turn.new.self.second c.turn-2.new.self.first
    c.turn.ensures.other_there c.turn-2.ensures.mine_there

pub returns-clause-failures : goal.returns-clause-failures
returns-clause-failures g c =
    counts_turned g.D.Disk.words c.args.disks.now c.turn.new.self c.turn-2.new.self c.write_through-answer.new.disk
    c.turn.ensures c.turn-2.ensures c.write_through-answer.result c.write_through-answer.ensures.failures

pub returns-clause-calls : goal.returns-clause-calls
returns-clause-calls g c =
    makes_turned g.D.Disk.words c.args.disks.now c.turn.new.self c.turn-2.new.self c.write_through-answer.new.disk
    c.turn.ensures c.turn-2.ensures 2 c.write_through-answer.result c.write_through-answer.ensures.calls
