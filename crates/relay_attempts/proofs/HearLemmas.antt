-- What an attempt that heard octets has become, by its outcome.
use Rattle.std.proofs.Common.{◌≡◌, ◌∙◌, ℕ, List, Option, None, Some, ap, subst}
use Rattle.std.specs.Prelude.{slice_set}
use Rattle.relay_slots.specs.Slots.{slot_at}
use Rattle.relay_slots.proofs.Theorems.{taken_is_none}
use Rattle.relay_book.specs.declared.change.Outcome.{Outcome}
use Rattle.relay_book.specs.Queue.{Queue}
use Rattle.relay_attempts.specs.declared.hear.Hearing.{Hearing}
use Rattle.relay_attempts.specs.declared.runs.Run.{Run}
use Rattle.relay_attempts.specs.Attempts.{AttemptTable}
use Rattle.relay_attempts.specs.Hearing.{GoesOn, GoesOnOrHasEnded, HasEnded}

module _ (host : List ℕ) (queue : Queue) (now number : ℕ) (piece : List ℕ) (old new : AttemptTable)
    (hearing : Hearing) where
  -- without an outcome it goes on
  pub went_on : (outcome : Option Outcome) → outcome ≡ None
      → GoesOnOrHasEnded host queue now number piece old new hearing outcome
      → GoesOn host queue now number piece old new hearing
  went_on outcome none by =
      subst (λ (o : Option Outcome). GoesOnOrHasEnded host queue now number piece old new hearing o) none by

  -- with one it has ended
  pub had_ended : (outcome : Option Outcome) (its : Outcome) → outcome ≡ Some its
      → GoesOnOrHasEnded host queue now number piece old new hearing outcome
      → HasEnded host queue now number piece old new hearing its
  had_ended outcome its some by =
      subst (λ (o : Option Outcome). GoesOnOrHasEnded host queue now number piece old new hearing o) some by

-- an attempt that is taken out is gone
pub is_gone : (before after : List (Option Run)) (number : ℕ) → after ≡ slice_set before number None
    → slot_at after number ≡ None
is_gone before after number gone = ap (λ l. slot_at l number) gone ∙ taken_is_none before number
