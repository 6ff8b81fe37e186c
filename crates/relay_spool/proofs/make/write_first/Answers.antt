use Rattle.relay_spool.proofs.RunLemmas.{makes_then}
use Rattle.relay_spool.proofs.make.write_first.Goals as goal

pub returns-clause-calls : goal.returns-clause-calls
returns-clause-calls g c = makes_then g.D.Disk.words c.open_gate.result 2 2 c.args.disk.now c.write_through.new.disk c.open_gate.new.disk c.in_ok-write_through.ensures.calls.ok c.open_gate.ensures.calls
