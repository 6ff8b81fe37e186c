-- What calls of a reader keep, one after another, and what a fault that is passed on answers.
use Rattle.std.proofs.Common.{◌≡◌, Result, Ok, Err, MatchResult, IfErr, refl, sym, subst, ap, ◌∙◌, ◌↔◌, ℕ, List}
use Rattle.std.specs.Result.{IsErrAnd}
use Rattle.relay_disk.specs.Device.{DiskWords, FailsNot, Rises}
use Rattle.relay_spool.specs.declared.reader.Reader.{Reader}
use Rattle.relay_spool.specs.declared.fault.ReadFault.{ReadFault}
use Rattle.relay_spool.specs.declared.fault.ReadFault.TheVariants.{Device, NoMemory, Damaged}
use Rattle.relay_spool.specs.Blocks.{GoesOn, IsAt}
use Rattle.relay_spool.specs.Run.{FailsBy, fault_of}
use Rattle.relay_spool.proofs.PassLemmas.{any_none, any_then}
use Rattle.relay_spool.proofs.RunLemmas.{OnlyNow, kept, kept_on}
use Rattle.relay_spool.proofs.TurnLemmas.{on_ok}

-- a fault is passed on as it is
pub passed_on : {T E : Type 0} (result : Result T E) (fault : E) → IsErrAnd result (λ other. other ≡ fault)
    → result ≡ Err fault
passed_on (Ok value) fault is = absurd is
passed_on (Err other) fault is = ap Err is

-- the answer is one fault where that was passed on
pub passed_as : {T U E : Type 0} (result : Result T E) (call : Result U E) (fault one : E) (P : Type 0) → result ≡ Err fault
    → call ≡ Err fault → ((call ≡ Err one) ↔ P) → ((result ≡ Err one) ↔ P)
passed_as result call fault one P is was both = ((λ e. both.0 (cc)), (λ p. let e = both.1 p in cc))

-- what is said of it
pub refused_by : {T E : Type 0} (P : E → Type 0) (result : Result T E) (fault : E) → result ≡ Err fault → P fault
    → IfErr result P
refused_by P result fault is has = subst (λ r. IfErr r P) (sym is) has

module _ {D : Type 0} (honest : Type 0) (words : DiskWords D) where
  -- no call
  pub stands_still : {T : Type 0} (result : Result T ReadFault) (disk : D) (reader : Reader) (gate : ℕ)
      → result ≡ Err (Damaged gate) → (honest → OnlyNow words disk) → GoesOn honest words disk disk reader reader result
  stands_still (Ok value) disk reader gate is only = absurd cc
  stands_still (Err fault) disk reader gate is only = record {
    size = refl;
    at = λ h. tt;
    keeps = λ h. kept words disk (only h);
    failures = let e : Damaged gate ≡ fault = cc in subst (λ (f : ReadFault). FailsBy words disk disk (fault_of f)) e refl;
    calls = any_none words disk;
  }

  -- a call that has failed
  pub goes_fault : {T U : Type 0} (result : Result T ReadFault) (call : Result U ReadFault) (fault : ReadFault) (disk now : D)
      (old new : Reader) → result ≡ Err fault → call ≡ Err fault → GoesOn honest words disk now old new call
      → GoesOn honest words disk now old new result
  goes_fault (Ok value) call fault disk now old new is was goes = absurd cc
  goes_fault (Err one) (Ok value) fault disk now old new is was goes = absurd cc
  goes_fault (Err one) (Err other) fault disk now old new is was goes = record {
    size = goes.size;
    at = λ h. tt;
    keeps = goes.keeps;
    failures = subst (λ (f : ReadFault). FailsBy words disk now (fault_of f)) (cc) goes.failures;
    calls = goes.calls;
  }

  -- a call that is answered otherwise
  pub goes_value : {T U : Type 0} (result : Result T ReadFault) (call : Result U ReadFault) (value : T) (other : U)
      (disk now : D) (old new : Reader) → result ≡ Ok value → call ≡ Ok other → GoesOn honest words disk now old new call
      → GoesOn honest words disk now old new result
  goes_value (Err fault) call value other disk now old new is was goes = absurd cc
  goes_value (Ok one) (Err fault) value other disk now old new is was goes = absurd cc
  goes_value (Ok one) (Ok two) value other disk now old new is was goes = record {
    size = goes.size;
    at = goes.at;
    keeps = goes.keeps;
    failures = goes.failures;
    calls = goes.calls;
  }

  -- a call after which the disk is found damaged
  pub goes_damaged : {T U : Type 0} (result : Result T ReadFault) (call : Result U ReadFault) (other : U) (gate : ℕ)
      (disk now : D) (old new : Reader) → result ≡ Err (Damaged gate) → call ≡ Ok other
      → GoesOn honest words disk now old new call → GoesOn honest words disk now old new result
  goes_damaged (Ok value) call other gate disk now old new is was goes = absurd cc
  goes_damaged (Err fault) (Err one) other gate disk now old new is was goes = absurd cc
  goes_damaged (Err fault) (Ok one) other gate disk now old new is was goes = record {
    size = goes.size;
    at = λ h. tt;
    keeps = goes.keeps;
    failures = let e : Damaged gate ≡ fault = cc in subst (λ (f : ReadFault). FailsBy words disk now (fault_of f)) e goes.failures;
    calls = goes.calls;
  }

  failures_on : {T : Type 0} (result : Result T ReadFault) (disk mid now : D) → FailsNot words disk mid
      → MatchResult result (λ _. FailsNot words mid now) (λ fault. FailsBy words mid now (fault_of fault))
      → MatchResult result (λ _. FailsNot words disk now) (λ fault. FailsBy words disk now (fault_of fault))
  failures_on (Ok value) disk mid now before after = after ∙ before
  failures_on (Err Device) disk mid now before after = subst (λ (n : ℕ). Rises n (words.failed now)) before after
  failures_on (Err NoMemory) disk mid now before after = after ∙ before
  failures_on (Err (Damaged gate)) disk mid now before after = after ∙ before

  -- one call after another
  pub goes_then : {T U : Type 0} (call : Result T ReadFault) (value : T) (result : Result U ReadFault) (disk mid now : D)
      (old between new : Reader) → call ≡ Ok value → GoesOn honest words disk mid old between call
      → GoesOn honest words mid now between new result → GoesOn honest words disk now old new result
  goes_then (Err fault) value result disk mid now old between new was one two = absurd cc
  goes_then (Ok other) value result disk mid now old between new was one two = record {
    size = two.size ∙ one.size;
    at = λ h. on_ok result (subst (λ (image : List ℕ). IsAt image new) (one.keeps h).reads) (two.at h);
    keeps = λ h. kept_on words disk mid now (one.keeps h) (two.keeps h);
    failures = failures_on result disk mid now one.failures two.failures;
    calls = any_then words disk mid now one.calls two.calls;
  }
