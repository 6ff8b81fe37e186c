use Rattle.std.proofs.Common.{refl}
use Rattle.std.proofs.lemmas.Result.{IfOk-from_err}
use Rattle.relay_spool.proofs.CallLemmas.{both_fault}
use Rattle.relay_spool.proofs.RunLemmas.{makes_then}
use Rattle.relay_spool.proofs.make.write_heads.Goals as goal

pub returns-clause-calls : goal.returns-clause-calls
returns-clause-calls g c = makes_then g.D.Disk.words c.write_first.result 2 4 c.args.disks.now.first c.write_second.new.disks.first c.write_first.new.disk c.in_ok-write_second.ensures.calls.ok c.write_first.ensures.calls

pub returns-in_err-write_second-clause-written : goal.returns-in_err-write_second-clause-written
returns-in_err-write_second-clause-written g c = λ honest. IfOk-from_err c.from_residual.result _ c.from_residual.ensures.0

pub returns-in_err-write_second-clause-failures : goal.returns-in_err-write_second-clause-failures
returns-in_err-write_second-clause-failures g c =
    both_fault g.D.Disk.words c.from_residual.result c.args.disks.now c.args.disks.now c.write_second.new.disks
    c.from_residual.ensures.0 (refl, refl) c.in_err-write_second.ensures.failures.fault
