use Rattle.relay_spool.proofs.RenewalLemmas.{open_run}
use Rattle.relay_spool.proofs.RunLemmas.{weakened, makes_then}
use Rattle.relay_spool.specs.Head.{IsClosedOr, IsNotOpen, renewed}
use Rattle.std.proofs.Common.{inl}
use Rattle.relay_spool.proofs.renewal.write_closed.Goals as goal

pub returns-in_err-fill-clause-stop : goal.returns-in_err-fill-clause-stop
returns-in_err-fill-clause-stop g c = λ honest only.
    weakened g.D.Disk.words c.args.disk.now c.fill.new.disk IsNotOpen (IsClosedOr (renewed c.args.octets.now)) (λ image closed. inl closed) (c.fill.ensures.stop honest only)

pub returns-clause-stop : goal.returns-clause-stop
returns-clause-stop g c = λ honest only.
    open_run g.D.Disk.words c.writes_leave_the_rest.ensures c.args.disk.now c.fill.new.disk c.open_gate.new.disk c.args.octets.now
    (c.in_ok-fill.ensures.filled honest) (c.fill.ensures.stop honest only) (c.open_gate.ensures.stop honest (c.in_ok-fill.ensures.settled honest))

pub returns-clause-calls : goal.returns-clause-calls
returns-clause-calls g c = makes_then g.D.Disk.words c.open_gate.result 3 2 c.args.disk.now c.fill.new.disk c.open_gate.new.disk c.in_ok-fill.ensures.calls.ok c.open_gate.ensures.calls
