-- Callers of a local listener: what they ask for, and what they are answered at once.
use Rattle.std.specs.Prelude.{ℕ, List, Option, None, Some}
use Rattle.std.specs.Global.{Vec}
use Rattle.relay_callers.specs.declared.caller.Stage.{Stage}
use Rattle.relay_callers.specs.declared.caller.Stage.TheVariants.{Reading, Asking, Waiting, Writing, Leaving, Over}
use Rattle.relay_callers.specs.declared.question.Heard.{Heard}
use Rattle.relay_callers.specs.declared.question.Heard.TheVariants.{More, Asks, Refused}

-- what a caller asks for, where that waits to be done
abbrev pub asked_in : {Q : Type 0} → Stage Q → Option Q
asked_in Reading = None
asked_in (Asking question) = Some question
asked_in Waiting = None
asked_in Writing = None
asked_in Leaving = None
asked_in Over = None

-- where a caller is after these octets, by what octets say: more must come first, it asks for what they say, or they
-- are refused, and it is told why; if memory runs out it is sent away
abbrev pub IsHeard : {Q : Type 0} → (List ℕ → Heard Q → Type 0) → List ℕ → Vec ℕ → Stage Q → Type 0
IsHeard says octets answer Reading = says octets More
IsHeard says octets answer (Asking question) = says octets (Asks question)
IsHeard says octets answer Waiting = ⊥
IsHeard says octets answer Writing = says octets (Refused answer)
IsHeard says octets answer Leaving = ⊥
IsHeard says octets answer Over = Unit {0}
