use Rattle.std.proofs.Common.{refl, ◌∙◌, arith}
use Rattle.std.proofs.lemmas.Result.{IfOk-from_err}
use Rattle.relay_spool.proofs.CallLemmas.{both_fault, both_none, first_fault, passed, reads_once}
use Rattle.relay_spool.proofs.RunLemmas.{calls_on, passes_on, kept, kept_on}
use Rattle.relay_spool.proofs.make.are_empty.Goals as goal

pub returns-in_err-first-clause-empty : goal.returns-in_err-first-clause-empty
returns-in_err-first-clause-empty g c = λ honest. IfOk-from_err c.from_residual.result _ c.from_residual.ensures.0

pub returns-in_err-first-clause-keeps : goal.returns-in_err-first-clause-keeps
returns-in_err-first-clause-keeps g c = λ honest.
    let words = g.D.Disk.words in
    let old = c.args.disks.now in (
      reads_once words old.first c.size.new.self (g.met.D.Disk.only_now honest old.first) (c.size.ensures.seen honest) (c.size.ensures.stop honest),
      kept words old.second (g.met.D.Disk.only_now honest old.second),
    )

pub returns-in_err-first-clause-failures : goal.returns-in_err-first-clause-failures
returns-in_err-first-clause-failures g c =
    first_fault g.D.Disk.words c.from_residual.result c.args.disks.now c.size.new.self c.from_residual.ensures.0
    c.in_err-first.ensures.failures.fault

pub returns-in_err-first-clause-calls : goal.returns-in_err-first-clause-calls
returns-in_err-first-clause-calls g c =
    record {
      at_most = (1, omega arith, c.size.ensures.fuse.burnt);
      ok = IfOk-from_err c.from_residual.result _ c.from_residual.ensures.0;
    }

pub returns-in_err-second-clause-empty : goal.returns-in_err-second-clause-empty
returns-in_err-second-clause-empty g c = λ honest.
    IfOk-from_err c.from_residual-in_err-second.result _ c.from_residual-in_err-second.ensures.0

pub returns-in_err-second-clause-keeps : goal.returns-in_err-second-clause-keeps
returns-in_err-second-clause-keeps g c = λ honest.
    let words = g.D.Disk.words in
    let old = c.args.disks.now in
    let second = c.size_of_second.ensures.keeps honest in (
      kept_on words old.first c.size.new.self c.size_of_second.new.disks.first
          (reads_once words old.first c.size.new.self (g.met.D.Disk.only_now honest old.first) (c.size.ensures.seen honest) (c.size.ensures.stop honest))
          second.0,
      second.1,
    )

pub returns-in_err-second-clause-failures : goal.returns-in_err-second-clause-failures
returns-in_err-second-clause-failures g c =
    both_fault g.D.Disk.words c.from_residual-in_err-second.result c.args.disks.now
    (record { first = c.size.new.self; second = c.args.disks.now.second }) c.size_of_second.new.disks
    c.from_residual-in_err-second.ensures.0 (c.in_ok-first.ensures.failures.ok, refl) c.in_err-second.ensures.failures.fault

pub returns-in_err-second-clause-calls : goal.returns-in_err-second-clause-calls
returns-in_err-second-clause-calls g c =
    record {
      at_most = calls_on g.D.Disk.words 1 1 c.args.disks.now.first c.size.new.self c.size_of_second.new.disks.first (1, omega arith, c.size.ensures.fuse.burnt) c.size_of_second.ensures.calls.at_most;
      ok = IfOk-from_err c.from_residual-in_err-second.result _ c.from_residual-in_err-second.ensures.0;
    }

pub returns-then-first-eq0-clause-keeps : goal.returns-then-first-eq0-clause-keeps
returns-then-first-eq0-clause-keeps g c = λ honest.
    let words = g.D.Disk.words in
    let old = c.args.disks.now in
    let second = c.size_of_second.ensures.keeps honest in (
      kept_on words old.first c.size.new.self c.size_of_second.new.disks.first
          (reads_once words old.first c.size.new.self (g.met.D.Disk.only_now honest old.first) (c.size.ensures.seen honest) (c.size.ensures.stop honest))
          second.0,
      second.1,
    )

pub returns-then-first-eq0-clause-failures : goal.returns-then-first-eq0-clause-failures
returns-then-first-eq0-clause-failures g c =
    both_none g.D.Disk.words c.args.disks.now c.size_of_second.new.disks _
    (c.in_ok-second.ensures.failures.ok.0 ∙ c.in_ok-first.ensures.failures.ok, c.in_ok-second.ensures.failures.ok.1)

pub returns-then-first-eq0-clause-calls : goal.returns-then-first-eq0-clause-calls
returns-then-first-eq0-clause-calls g c =
    record {
      at_most = calls_on g.D.Disk.words 1 1 c.args.disks.now.first c.size.new.self c.size_of_second.new.disks.first (1, omega arith, c.size.ensures.fuse.burnt) c.size_of_second.ensures.calls.at_most;
      ok = passes_on g.D.Disk.words 1 1 c.args.disks.now.first c.size.new.self c.size_of_second.new.disks.first (passed g.D.Disk.words _ c.args.disks.now.first c.size.new.self c.in_ok-first.ensures.fuse) c.in_ok-second.ensures.calls.ok;
    }

pub returns-else-first-eq0-clause-keeps : goal.returns-else-first-eq0-clause-keeps
returns-else-first-eq0-clause-keeps g c = λ honest.
    let words = g.D.Disk.words in
    let old = c.args.disks.now in
    let second = c.size_of_second.ensures.keeps honest in (
      kept_on words old.first c.size.new.self c.size_of_second.new.disks.first
          (reads_once words old.first c.size.new.self (g.met.D.Disk.only_now honest old.first) (c.size.ensures.seen honest) (c.size.ensures.stop honest))
          second.0,
      second.1,
    )

pub returns-else-first-eq0-clause-failures : goal.returns-else-first-eq0-clause-failures
returns-else-first-eq0-clause-failures g c =
    both_none g.D.Disk.words c.args.disks.now c.size_of_second.new.disks _
    (c.in_ok-second.ensures.failures.ok.0 ∙ c.in_ok-first.ensures.failures.ok, c.in_ok-second.ensures.failures.ok.1)

pub returns-else-first-eq0-clause-calls : goal.returns-else-first-eq0-clause-calls
returns-else-first-eq0-clause-calls g c =
    record {
      at_most = calls_on g.D.Disk.words 1 1 c.args.disks.now.first c.size.new.self c.size_of_second.new.disks.first (1, omega arith, c.size.ensures.fuse.burnt) c.size_of_second.ensures.calls.at_most;
      ok = passes_on g.D.Disk.words 1 1 c.args.disks.now.first c.size.new.self c.size_of_second.new.disks.first (passed g.D.Disk.words _ c.args.disks.now.first c.size.new.self c.in_ok-first.ensures.fuse) c.in_ok-second.ensures.calls.ok;
    }
