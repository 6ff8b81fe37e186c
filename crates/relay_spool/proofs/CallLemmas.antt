-- What one call more leaves of the disks, and what a call that has failed answers.
use Rattle.std.proofs.Common.{◌≡◌, ℕ, zero, suc, ◌-◌, ◌≤◌, Option, Some, None, Result, Ok, Err, OnOk, refl, sym, subst, ap, ◌∙◌, inl, inr, arith}
use Rattle.std.proofs.lemmas.Bool.{false≢true}
use Rattle.std.proofs.lemmas.Result.{IfOk-from_err}
use Rattle.std.specs.Option.{option_map}
use Rattle.std.specs.Result.{IsErr}
use Rattle.relay_disk.specs.declared.disk.DiskFault.{DiskFault}
use Rattle.relay_disk.specs.declared.disks.Disks.{Disks}
use Rattle.relay_disk.specs.declared.disks.Side.TheVariants.{Second}
use Rattle.relay_disk.specs.Device.{DiskWords, AddsNoImage, Burns, CountsFailure, Fails, FailsNot, OnlyFuseChanges, Rises}
use Rattle.relay_disk.specs.Disks.{CountsFailure as CountsOfBoth, Fails as FailsOfBoth, FailsNot as FailsNotOfBoth, IsTurned}
use Rattle.relay_spool.specs.Run.{Calls, EachOnlyReads, Makes, OnlyReads, Passes}
use Rattle.relay_spool.proofs.RunLemmas.{OnlyNow, goes_on, kept, weakened}
use Rattle.relay_spool.proofs.TurnLemmas.{on_ok, run_on}

module _ {D : Type 0} (words : DiskWords D) where
  -- no call has failed
  pub counts_none : {T : Type 0} (old new : D) (value : T) → FailsNot words old new
      → CountsFailure words old new (Ok value)
  counts_none old new value same = record { ok = same; fault = tt }

  -- the last call has failed
  pub counts_fault : {T : Type 0} (result : Result T DiskFault) (old mid new : D) → IsErr result → FailsNot words old mid
      → Fails words mid new → CountsFailure words old new result
  counts_fault (Ok value) old mid new is before fails = absurd cc
  counts_fault (Err fault) old mid new is before fails =
      record { ok = tt; fault = subst (λ (n : ℕ). Rises n (words.failed new)) before fails }

  -- a last call, whose answer is returned
  pub counts_then : {T : Type 0} (result : Result T DiskFault) (old mid new : D) → FailsNot words old mid
      → CountsFailure words mid new result → CountsFailure words old new result
  counts_then (Ok value) old mid new before counts = record { ok = counts.ok ∙ before; fault = tt }
  counts_then (Err fault) old mid new before counts =
      record { ok = tt; fault = subst (λ (n : ℕ). Rises n (words.failed new)) before counts.fault }

  -- one call more that only reads
  pub reads_on : (old mid new : D) → OnlyReads words old mid → words.seen new ≡ words.seen mid → AddsNoImage words mid new
      → OnlyReads words old new
  reads_on old mid new run same stays = record {
    reads = same ∙ run.reads;
    stop = goes_on words old mid new (words.may_leave old) run.stop stays.time
        (λ image left. run.stop.now image (stays.images image left));
  }

  -- the first one
  pub reads_once : (old new : D) → OnlyNow words old → words.seen new ≡ words.seen old → AddsNoImage words old new
      → OnlyReads words old new
  reads_once old new only same stays = reads_on old old new (kept words old only) same stays

  -- a fuse that has blown passes no call
  had_one : {T : Type 0} (value : T) (old new : D) → Burns words old new (Ok value) → (left : ℕ) → words.calls_left old ≡ Some left → 1 ≤ left
  had_one value old new burns zero blown = absurd (false≢true (burns.blown blown))
  had_one value old new burns (suc left) some = omega arith

  -- one call that has passed
  pub passed : {T : Type 0} (value : T) (old new : D) → Burns words old new (Ok value) → Passes words 1 old new
  passed value old new burns = record { calls = burns.burnt; had = had_one value old new burns }

  -- one call
  passes_one : {T : Type 0} (result : Result T DiskFault) (old new : D) → Burns words old new result → OnOk result (Passes words 1 old new)
  passes_one (Ok value) old new burns = passed value old new burns
  passes_one (Err fault) old new burns = tt

  pub makes_one : {T : Type 0} (result : Result T DiskFault) (old new : D) → Burns words old new result → Makes words 1 old new result
  makes_one result old new burns = record { at_most = (1, omega arith, burns.burnt); ok = passes_one result old new burns }

  pub calls_none : (left : Option ℕ) → left ≡ option_map (λ calls. calls - 0) left
  calls_none None = refl
  calls_none (Some left) = let e : left ≡ left - 0 = omega arith in ap (λ (n : ℕ). Some n) e

  -- no call, and a fault
  pub makes_none : {T E : Type 0} (count : ℕ) (result : Result T E) (disk : D) → IsErr result
      → Makes words count disk disk result
  makes_none count result disk is = record {
    at_most = (0, omega arith, calls_none (words.calls_left disk));
    ok = IfOk-from_err result _ is;
  }

  -- no call of either disk has failed
  pub both_none : {T : Type 0} (old new : Disks D) (value : T) → FailsNotOfBoth words old new
      → CountsOfBoth words old new (Ok value)
  both_none old new value same = record { ok = same; fault = tt }

  -- a failure, after calls that haven't failed
  fails_on : (old mid new : D) → FailsNot words old mid → Fails words mid new → Fails words old new
  fails_on old mid new before fails = subst (λ (n : ℕ). Rises n (words.failed new)) before fails

  -- a run of both that has failed, after one that hasn't
  pub both_fault : {T : Type 0} (result : Result T DiskFault) (old mid new : Disks D) → IsErr result
      → FailsNotOfBoth words old mid → FailsOfBoth words mid new → CountsOfBoth words old new result
  both_fault (Ok value) old mid new is before fails = absurd cc
  both_fault (Err fault) old mid new is before (inl first) = record {
    ok = tt;
    fault = inl (fails_on old.first mid.first new.first before.0 first.0, first.1 ∙ before.1);
  }
  both_fault (Err fault) old mid new is before (inr second) = record {
    ok = tt;
    fault = inr (second.0 ∙ before.0, fails_on old.second mid.second new.second before.1 second.1);
  }

  -- the last call of a first disk has failed, and none of the second was made
  pub first_fault : {T : Type 0} (result : Result T DiskFault) (old : Disks D) (new : D) → IsErr result
      → Fails words old.first new → CountsOfBoth words old (record { first = new; second = old.second }) result
  first_fault (Ok value) old new is fails = absurd cc
  first_fault (Err fault) old new is fails = record { ok = tt; fault = inl (fails, refl) }

-- A call of the second disk, between two turns.
module _ {D : Type 0} {honest : Type 0} (words : DiskWords D) (old mid new : Disks D) (left : D)
    (one : IsTurned honest words Second old mid)
    (two : IsTurned honest words Second (record { first = left; second = mid.second }) new) where
  pub counts_turned : {T : Type 0} (result : Result T DiskFault) → CountsFailure words mid.first left result
      → CountsOfBoth words old new result
  counts_turned (Ok value) counts = record {
    ok = (two.mine_there.failures ∙ one.other_there.failures, two.other_there.failures ∙ counts.ok ∙ one.mine_there.failures);
    fault = tt;
  }
  counts_turned (Err fault) counts = record {
    ok = tt;
    fault = inr (
      two.mine_there.failures ∙ one.other_there.failures,
      subst (λ (n : ℕ). Rises (words.failed old.second) n) (sym two.other_there.failures)
          (subst (λ (n : ℕ). Rises n (words.failed left)) one.mine_there.failures counts.fault),
    );
  }

  -- the fuse in front has counted it
  calls_turned : (count : ℕ) → Calls words count mid.first left → Calls words count old.first new.first
  calls_turned count calls =
      two.fuse ∙ calls ∙ ap (λ (left : Option ℕ). option_map (λ calls. calls - count) left) one.fuse

  passes_turned : (count : ℕ) → Passes words count mid.first left → Passes words count old.first new.first
  passes_turned count passes = record {
    calls = calls_turned count passes.calls;
    had = λ left is. passes.had left (one.fuse ∙ is);
  }

  pub makes_turned : {T E : Type 0} (count : ℕ) (result : Result T E) → Makes words count mid.first left result
      → Makes words count old.first new.first result
  makes_turned count result makes =
      let most = makes.at_most in
      record {
        at_most = (most.0, most.1, calls_turned most.0 most.2);
        ok = on_ok result (passes_turned count) makes.ok;
      }

  -- where it only reads, both disks are only read
  reads_turned : honest → (from there back to : D) → OnlyFuseChanges honest words from there → OnlyReads words there back
      → OnlyFuseChanges honest words back to → OnlyReads words from to
  reads_turned h from there back to before reads after = record {
    reads = after.seen h ∙ reads.reads ∙ before.seen h;
    stop = run_on honest words h from there back to (words.may_leave from) before
        (weakened words there back (words.may_leave there) (words.may_leave from)
        (λ image left. (before.images h image).0 left) reads.stop) after;
  }

  pub each_reads_turned : honest → ((disk : D) → OnlyNow words disk) → OnlyReads words mid.first left
      → EachOnlyReads words old new
  each_reads_turned h only reads = (
    reads_turned h old.first mid.second mid.second new.first one.other_there (kept words mid.second (only mid.second)) two.mine_there,
    reads_turned h old.second mid.first left new.second one.mine_there reads two.other_there,
  )
