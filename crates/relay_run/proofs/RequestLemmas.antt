-- What was done of a request.
use Rattle.std.proofs.Common.{◌≡◌, ℕ, List, Some, Result, Ok, Err, IfOk, sym, subst}
use Rattle.std.specs.Prelude.{IsOk}
use Rattle.std.proofs.lemmas.Bool.{false≢true}
use Rattle.std.specs.Global.{Vec}
use Rattle.relay_book.specs.declared.change.Withdrawal.TheVariants as withdrawal
use Rattle.relay_control.specs.declared.named.Named.{Named}
use Rattle.relay_control.specs.declared.request.Request.{Request}
use Rattle.relay_control.specs.declared.request.Request.TheVariants.{Discard}
use Rattle.relay_disk.specs.Device.{DiskWords}
use Rattle.relay_loop.specs.Relay.{RelayState}
use Rattle.relay_run.specs.Steering.{IsWithdrawn, Obeys}

pub if_ok_then : {A E : Type 0} (result : Result A E) (P Q : A → Type 0) → IfOk result P → ((value : A) → P value → Q value) → IfOk result Q
if_ok_then (Ok value) P Q p next = next value p
if_ok_then (Err why) P Q p next = tt

-- what holds of a value in two ways
pub if_ok_both : {A E : Type 0} (result : Result A E) (P Q R : A → Type 0) → IfOk result P → IfOk result Q → ((value : A) → P value → Q value → R value) → IfOk result R
if_ok_both (Ok value) P Q R p q next = next value p q
if_ok_both (Err fault) P Q R p q next = tt

-- a fault is no success
pub fault_is_none : {A E : Type 0} (result : Result A E) (fault : E) → result ≡ Err fault → IsOk result → ⊥
fault_is_none (Ok value) fault is well = let no : ⊥ = cc is in no
fault_is_none (Err other) fault is well = false≢true well

-- a request to discard mail was obeyed
pub discarded : {D E : Type 0} (honest : Type 0) (words : DiskWords D) (at : ℕ) (request : Request) (names : Vec Named) (named : List Named) (old new : RelayState D) (answer : Result (Vec ℕ) E)
    → request ≡ Discard names → named ≡ names.items → IsWithdrawn honest words at withdrawal.Discard named old new answer → Obeys honest words at request old new (Some answer)
discarded honest words at request names named old new answer is same withdrawn =
    subst (λ (it : Request). Obeys honest words at it old new (Some answer)) (sym is)
    (subst (λ (list : List Named). IsWithdrawn honest words at withdrawal.Discard list old new answer) same withdrawn)
