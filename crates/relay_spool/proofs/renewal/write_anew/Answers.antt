use Rattle.std.proofs.Common.{Some, sym, subst}
use Rattle.relay_spool.specs.declared.taken.HeadGate.{HeadGate}
use Rattle.relay_spool.specs.Head.{renewal_calls}
use Rattle.relay_spool.specs.Run.{Makes}
use Rattle.relay_spool.proofs.RenewalLemmas.{both_runs, closing_run, renewal_run}
use Rattle.relay_spool.proofs.RunLemmas.{makes_then}
use Rattle.relay_spool.proofs.renewal.write_anew.Goals as goal

pub returns-in_err-close_head-in-Open-clause-stop : goal.returns-in_err-close_head-in-Open-clause-stop
returns-in_err-close_head-in-Open-clause-stop g c = λ honest only.
    closing_run g.D.Disk.words c.args.disk.now c.close_head.new.disk c.args.octets.now (c.close_head.ensures.stop honest only)

pub returns-in_ok-close_head-in-Open-clause-stop : goal.returns-in_ok-close_head-in-Open-clause-stop
returns-in_ok-close_head-in-Open-clause-stop g c = λ honest only.
    both_runs g.D.Disk.words c.args.disk.now c.close_head.new.disk c.write_closed.new.disk c.args.octets.now (c.close_head.ensures.stop honest only)
    (c.write_closed.ensures.stop honest (c.in_ok-close_head-in-Open.ensures.settled honest))

pub returns-in_ok-close_head-in-Open-clause-calls : goal.returns-in_ok-close_head-in-Open-clause-calls
returns-in_ok-close_head-in-Open-clause-calls g c =
    subst (λ (gate : HeadGate). Makes g.D.Disk.words (renewal_calls (Some gate)) c.args.disk.now c.write_closed.new.disk c.write_closed.result) (sym c.in-Open.is)
    (makes_then g.D.Disk.words c.write_closed.result 2 5 c.args.disk.now c.close_head.new.disk c.write_closed.new.disk c.in_ok-close_head-in-Open.ensures.calls.ok c.write_closed.ensures.calls)

pub returns-in-Closed-clause-stop : goal.returns-in-Closed-clause-stop
returns-in-Closed-clause-stop g c = λ honest only.
    renewal_run g.D.Disk.words c.args.disk.now c.write_closed-in-Closed.new.disk c.args.octets.now (c.write_closed-in-Closed.ensures.stop honest only)
