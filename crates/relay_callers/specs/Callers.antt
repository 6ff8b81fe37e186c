-- The callers of a local listener, by their numbers.
use Rattle.std.specs.Prelude.{ℕ, List, Option, option_and_then}
use Rattle.relay_slots.specs.Slots.{slot_at}
use Rattle.relay_callers.specs.declared.caller.Caller.{Caller}
use Rattle.relay_callers.specs.Caller.{asked_in}

-- what the caller of a number asks for, if that waits to be done
abbrev pub asked_at : {S Q : Type 0} → List (Option (Caller S Q)) → ℕ → Option Q
asked_at callers number = option_and_then (λ caller. asked_in caller.stage) (slot_at callers number)
