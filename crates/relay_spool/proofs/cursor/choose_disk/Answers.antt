use Rattle.relay_disk.specs.Disks.{seen_of}
use Rattle.relay_spool.proofs.PassLemmas.{makes_more}
use Rattle.relay_spool.proofs.cursor.choose_disk.Goals as goal

pub returns-in_err-other-clause-calls : goal.returns-in_err-other-clause-calls
returns-in_err-other-clause-calls g c =
    makes_more g.D.Disk.words c.from_residual-in_err-other.result c.args.disks.now.first c.read_head.new.disk c.read_second_head.new.disks.first c.in_ok-head.ensures.calls.ok
    c.read_second_head.ensures.calls

pub returns-in-None-clause-refused : goal.returns-in-None-clause-refused
returns-in-None-clause-refused g c = λ honest.
    c.in-None.ensures (seen_of g.D.Disk.words c.args.disks.now) (c.in_ok-head.ensures.head honest) (c.in_ok-other.ensures.head honest)

pub returns-in-None-clause-calls : goal.returns-in-None-clause-calls
returns-in-None-clause-calls g c =
    makes_more g.D.Disk.words _ c.args.disks.now.first c.read_head.new.disk c.read_second_head.new.disks.first c.in_ok-head.ensures.calls.ok
    c.read_second_head.ensures.calls

pub returns-in-Some-clause-calls : goal.returns-in-Some-clause-calls
returns-in-Some-clause-calls g c =
    makes_more g.D.Disk.words _ c.args.disks.now.first c.read_head.new.disk c.read_second_head.new.disks.first c.in_ok-head.ensures.calls.ok
    c.read_second_head.ensures.calls
