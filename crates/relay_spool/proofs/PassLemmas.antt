-- Calls that a fuse lets pass, any number of them.
use Rattle.std.proofs.Common.{◌≡◌, ℕ, zero, suc, ◌+◌, ◌-◌, ◌≤◌, Option, Some, None, Result, Ok, Err, OnOk, subst, ◌∙◌, arith}
use Rattle.std.proofs.lemmas.Result.{IfOk-from_err}
use Rattle.std.specs.Option.{option_map}
use Rattle.std.specs.Result.{IsErr}
use Rattle.relay_disk.specs.Device.{DiskWords, Burns}
use Rattle.relay_spool.specs.Run.{MakesSome, Passes, PassesAny, PassesSome}
use Rattle.relay_spool.proofs.CallLemmas.{calls_none, passed}
use Rattle.relay_spool.proofs.RunLemmas.{passes_on}

-- of one call, whether it passes or not
one_call : (before after : Option ℕ) → after ≡ option_map (λ calls. calls - 1) before
    → (count : ℕ) × (after ≡ option_map (λ calls. calls - count) before)
    × ((left : ℕ) → before ≡ Some left → count ≤ left)
one_call None after is = (0, is, λ left some. absurd cc)
one_call (Some zero) after is = (0, is, λ left some. omega arith)
one_call (Some (suc most)) after is =
    (1, is, λ left some. let e : suc most ≡ left = cc in omega (arith, e))

module _ {D : Type 0} (words : DiskWords D) where
  -- no call
  pub any_none : (disk : D) → PassesAny words disk disk
  any_none disk = (0, record { calls = calls_none words (words.calls_left disk); had = λ left is. omega arith })

  -- one call
  pub any_one : (old new : D) → words.calls_left new ≡ option_map (λ calls. calls - 1) (words.calls_left old)
      → PassesAny words old new
  any_one old new burnt =
      let one = one_call (words.calls_left old) (words.calls_left new) burnt in
      (one.0, record { calls = one.1; had = one.2 })

  -- one that has passed
  pub some_one : {T : Type 0} (value : T) (old new : D) → Burns words old new (Ok value) → PassesSome words old new
  some_one value old new burns = (0, passed words value old new burns)

  -- a run after another
  pub any_then : (old mid new : D) → PassesAny words old mid → PassesAny words mid new → PassesAny words old new
  any_then old mid new one two = (one.0 + two.0, passes_on words one.0 two.0 old mid new one.1 two.1)

  pub some_then : (old mid new : D) → PassesSome words old mid → PassesAny words mid new → PassesSome words old new
  some_then old mid new one two =
      let first = one.0 in
      let second = two.0 in
      let both : first + 1 + second ≡ first + second + 1 = omega arith in
      (first + second, subst (λ (n : ℕ). Passes words n old new) both (passes_on words (first + 1) second old mid new one.1 two.1))

  -- between two turns of the disks
  pub any_turned : (old mid left new : D) → words.calls_left mid ≡ words.calls_left old → PassesAny words mid left
      → words.calls_left new ≡ words.calls_left left → PassesAny words old new
  any_turned old mid left new before run after = (
    run.0,
    record {
      calls = subst (λ (o : Option ℕ). words.calls_left new ≡ option_map (λ calls. calls - run.0) o) before (after ∙ run.1.calls);
      had = λ most is. run.1.had most (before ∙ is);
    },
  )

  on_ok_some : {T E : Type 0} (result : Result T E) (old new : D) → PassesSome words old new
      → OnOk result (PassesSome words old new)
  on_ok_some (Ok value) old new some = some
  on_ok_some (Err fault) old new some = tt

  -- a run after a call that has passed
  pub makes_more : {T E : Type 0} (result : Result T E) (old mid new : D) → PassesSome words old mid
      → PassesAny words mid new → MakesSome words old new result
  makes_more result old mid new one two = record {
    any = any_then old mid new (one.0 + 1, one.1) two;
    ok = on_ok_some result old new (some_then old mid new one two);
  }

  -- a run that ends with a fault
  pub makes_fault : {T E : Type 0} (result : Result T E) (old new : D) → IsErr result → PassesAny words old new
      → MakesSome words old new result
  makes_fault result old new is any = record { any = any; ok = IfOk-from_err result _ is }
