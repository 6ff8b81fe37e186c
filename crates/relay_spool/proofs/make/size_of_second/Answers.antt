use Rattle.std.proofs.Common.{ℕ, length, ap, ◌∙◌, List}
use Rattle.std.proofs.lemmas.Result.{IfOk-weaker}
use Rattle.relay_spool.proofs.CallLemmas.{counts_turned, each_reads_turned, makes_one, makes_turned, reads_once}
use Rattle.relay_spool.proofs.make.size_of_second.Goals as goal

pub returns-clause-size : goal.returns-clause-size
returns-clause-size g c = λ honest.
    IfOk-weaker c.size-size.result _ _
    (λ size is. is ∙ ap (λ (xs : List ℕ). length xs) (c.turn.ensures.mine_there.seen honest)) (c.size-size.ensures.size honest)

pub returns-clause-keeps : goal.returns-clause-keeps
returns-clause-keeps g c = λ honest.
    let words = g.D.Disk.words in
    each_reads_turned words c.args.disks.now c.turn.new.self c.turn-2.new.self c.size-size.new.self c.turn.ensures c.turn-2.ensures
    honest (g.met.D.Disk.only_now honest)
    (reads_once words c.turn.new.self.first c.size-size.new.self (g.met.D.Disk.only_now honest c.turn.new.self.first)
    (c.size-size.ensures.seen honest) (c.size-size.ensures.stop honest))

pub returns-clause-failures : goal.returns-clause-failures
returns-clause-failures g c =
    counts_turned g.D.Disk.words c.args.disks.now c.turn.new.self c.turn-2.new.self c.size-size.new.self c.turn.ensures c.turn-2.ensures
    c.size-size.result c.size-size.ensures.failures

pub returns-clause-calls : goal.returns-clause-calls
returns-clause-calls g c =
    makes_turned g.D.Disk.words c.args.disks.now c.turn.new.self c.turn-2.new.self c.size-size.new.self c.turn.ensures c.turn-2.ensures
    1 c.size-size.result
    (makes_one g.D.Disk.words c.size-size.result c.turn.new.self.first c.size-size.new.self c.size-size.ensures.fuse)
