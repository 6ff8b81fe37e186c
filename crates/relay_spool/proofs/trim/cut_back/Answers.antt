use Rattle.std.proofs.Common.{◌≤◌, arith}
use Rattle.std.proofs.lemmas.Result.{IfOk-from_err}
use Rattle.relay_spool.proofs.RunLemmas.{all_calls_on}
use Rattle.relay_spool.proofs.TrimLemmas.{closed_run, cut_run, sized_run, synced_run}
use Rattle.relay_spool.proofs.trim.cut_back.Goals as goal

pub returns-in_err-cut-clause-stop : goal.returns-in_err-cut-clause-stop
returns-in_err-cut-clause-stop g c = λ honest only.
    let words = g.D.Disk.words in
    let old = c.args.disk.now in
    let has = c.requires honest in
    let long = has.0.long in
    let size = c.in_ok-size.ensures.size honest in
    let low : 9 ≤ c.min-left.result = omega (arith, long, size, c.saturating_sub.ensures, c.max.ensures, c.min-left.ensures) in
    closed_run words old c.cut.new.self
    (cut_run words c.min-left.result low old c.size.new.self c.cut.new.self
    (sized_run words old c.size.new.self (g.met.D.Disk.only_now honest old) only (record { long = long; closed = has.1 }) (c.size.ensures.stop honest))
    (c.cut.ensures.stop honest))

pub returns-in_err-sync-clause-stop : goal.returns-in_err-sync-clause-stop
returns-in_err-sync-clause-stop g c = λ honest only.
    let words = g.D.Disk.words in
    let old = c.args.disk.now in
    let has = c.requires honest in
    let long = has.0.long in
    let size = c.in_ok-size.ensures.size honest in
    let low : 9 ≤ c.min-left.result = omega (arith, long, size, c.saturating_sub.ensures, c.max.ensures, c.min-left.ensures) in
    closed_run words old c.sync.new.self
    (synced_run words old c.cut.new.self c.sync.new.self
    (cut_run words c.min-left.result low old c.size.new.self c.cut.new.self
    (sized_run words old c.size.new.self (g.met.D.Disk.only_now honest old) only (record { long = long; closed = has.1 }) (c.size.ensures.stop honest))
    (c.cut.ensures.stop honest)) (c.sync.ensures.stop honest))

pub returns-in_err-sync-clause-calls : goal.returns-in_err-sync-clause-calls
returns-in_err-sync-clause-calls g c =
    let words = g.D.Disk.words in
    let old = c.args.disk.now in
    let two = all_calls_on words 1 1 old c.size.new.self c.cut.new.self c.size.ensures.fuse.burnt c.cut.ensures.fuse.burnt in
    record {
      at_most = (3, omega arith, all_calls_on words 2 1 old c.cut.new.self c.sync.new.self two c.sync.ensures.fuse.burnt);
      ok = IfOk-from_err c.from_residual-in_err-sync.result _ c.from_residual-in_err-sync.ensures.0;
    }

pub returns-clause-stop : goal.returns-clause-stop
returns-clause-stop g c = λ honest only.
    let words = g.D.Disk.words in
    let old = c.args.disk.now in
    let has = c.requires honest in
    let long = has.0.long in
    let size = c.in_ok-size.ensures.size honest in
    let low : 9 ≤ c.min-left.result = omega (arith, long, size, c.saturating_sub.ensures, c.max.ensures, c.min-left.ensures) in
    closed_run words old c.sync.new.self
    (synced_run words old c.cut.new.self c.sync.new.self
    (cut_run words c.min-left.result low old c.size.new.self c.cut.new.self
    (sized_run words old c.size.new.self (g.met.D.Disk.only_now honest old) only (record { long = long; closed = has.1 }) (c.size.ensures.stop honest))
    (c.cut.ensures.stop honest)) (c.sync.ensures.stop honest))
