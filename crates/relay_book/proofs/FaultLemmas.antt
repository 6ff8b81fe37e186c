-- A fault is the same fault, whatever the result would have held.
use Rattle.std.proofs.Common.{◌≡◌, Result, Ok, Err, IsErrOf, sym, ap, ◌∙◌}
use Rattle.std.specs.Result.{IsErrAnd}
use Rattle.std.proofs.lemmas.Result.{err_from_is_err_and}
use Rattle.relay_book.specs.declared.fault.BookFault.{BookFault}
use Rattle.relay_book.specs.declared.fault.BookFault.TheVariants.{BadRecord, NoMemory}

abbrev failed : (T : Type 0) {E : Type 0} → E → Result T E
failed T fault = Err fault

fault_or : {T E : Type 0} → E → Result T E → E
fault_or other (Ok value) = other
fault_or other (Err fault) = fault

pub fault_as : {T E : Type 0} (U : Type 0) (fault known : E) → IsErrOf (failed T fault) known → IsErrOf (failed U fault) known
unfolding fault_or
fault_as U fault known is = ap (failed U) (ap (fault_or known) is)

-- the same at the exit of a `?`
pub fault_passed : {T U E : Type 0} (result : Result T E) (fault known : E) → IsErrAnd result (λ y. y ≡ fault) → IsErrOf result known → IsErrOf (failed U fault) known
unfolding fault_or
fault_passed {T} {U} result fault known ended bad =
    let p = err_from_is_err_and result ended in
    ap (failed U) (sym p.2 ∙ ap (fault_or known) (sym p.1 ∙ bad))

-- where memory ran out, nothing is said of the record
pub no_memory : {T A : Type 0} (result : Result T BookFault) → IsErrAnd result (λ y. y ≡ NoMemory) → IsErrOf result BadRecord → A
unfolding fault_or
no_memory result ended bad =
    let p = err_from_is_err_and result ended in
    let same : NoMemory ≡ BadRecord = sym p.2 ∙ ap (fault_or BadRecord) (sym p.1 ∙ bad) in
    absurd (cc)
