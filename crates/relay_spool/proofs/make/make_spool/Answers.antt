use Rattle.std.proofs.Common.{rules}
use Rattle.relay_disk.specs.declared.disks.Disks.{Disks}
use Rattle.relay_disk.specs.Device.{DiskWords}
use Rattle.relay_disk.specs.Disks.{IsSettled, LeavesNothing}
use Rattle.relay_spool.specs.Pair.{HasNoBody}
use Rattle.relay_spool.specs.Run.{EachOnlyReads, EachStaysShort, IsShort}
use Rattle.relay_spool.specs.Spool.{AtEachMoment}
use Rattle.relay_spool.proofs.HeadLemmas.{empty_run, empty_still}
use Rattle.relay_spool.proofs.PairLemmas.{both_short}
use Rattle.relay_spool.proofs.RunLemmas.{joined, calls_on, passes_on}
use Rattle.relay_spool.proofs.make.make_spool.Goals as goal

-- the sizes, and then the heads
both_runs : {D : Type 0} (words : DiskWords D) (old mid new : Disks D) → ((disk : D) → words.may_leave disk (words.seen disk)) → LeavesNothing words old → EachOnlyReads words old mid
    → (IsSettled words mid → EachStaysShort words mid new) → AtEachMoment words old new HasNoBody
both_runs words old mid new sees none keeps writes =
    let short = writes (empty_still words old.first mid.first none.0 keeps.0 (sees mid.first), empty_still words old.second mid.second none.1 keeps.1 (sees mid.second)) in
    both_short words old new (
      joined words old.first mid.first new.first IsShort (empty_run words old.first mid.first none.0 keeps.0) short.0,
      joined words old.second mid.second new.second IsShort (empty_run words old.second mid.second none.1 keeps.1) short.1,
    )

pub returns-in_err-write_heads-clause-stop : goal.returns-in_err-write_heads-clause-stop
returns-in_err-write_heads-clause-stop g c = λ honest none.
    both_runs g.D.Disk.words c.args.disks.now c.are_empty.new.disks c.write_heads.new.disks (g.met.D.Disk.sees_now honest) none (c.are_empty.ensures.keeps honest) (c.write_heads.ensures.stop honest)

pub returns-clause-stop : goal.returns-clause-stop
returns-clause-stop g c = λ honest none.
    both_runs g.D.Disk.words c.args.disks.now c.are_empty.new.disks c.write_heads.new.disks (g.met.D.Disk.sees_now honest) none (c.are_empty.ensures.keeps honest) (c.write_heads.ensures.stop honest)

pub returns-in_err-write_heads-clause-calls : goal.returns-in_err-write_heads-clause-calls
returns-in_err-write_heads-clause-calls g c =
    record {
      at_most = calls_on g.D.Disk.words 2 6 c.args.disks.now.first c.are_empty.new.disks.first c.write_heads.new.disks.first c.are_empty.ensures.calls.at_most c.write_heads.ensures.calls.at_most;
      ok = search rules;
    }

pub returns-clause-calls : goal.returns-clause-calls
returns-clause-calls g c =
    record {
      at_most = calls_on g.D.Disk.words 2 6 c.args.disks.now.first c.are_empty.new.disks.first c.write_heads.new.disks.first c.are_empty.ensures.calls.at_most c.write_heads.ensures.calls.at_most;
      ok = passes_on g.D.Disk.words 2 6 c.args.disks.now.first c.are_empty.new.disks.first c.write_heads.new.disks.first c.in_ok-are_empty.ensures.calls.ok c.in_ok-write_heads.ensures.calls.ok;
    }
