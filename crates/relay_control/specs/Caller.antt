-- Callers of the control socket: what they ask for, and what they are answered at once.
use Rattle.std.specs.Prelude.{◌≡◌, ℕ, List, None, Some, Ok, Err}
use Rattle.relay_callers.specs.declared.question.Heard.{Heard}
use Rattle.relay_callers.specs.declared.question.Heard.TheVariants.{More, Asks, Refused}
use Rattle.relay_control.specs.Answer.{error_text, refusal_text}
use Rattle.relay_control.specs.Request.{Judges}
use Rattle.relay_control.specs.declared.refusal.Refusal.{Refusal}
use Rattle.relay_control.specs.declared.request.Request.{Request}

-- a request is refused, and its caller is told why
pub record IsRefused (octets answer : List ℕ) : Type 0 where
  pub refusal : Refusal
  pub judged : Judges octets (Some (Err refusal))
  pub answer_is : answer ≡ error_text (refusal_text refusal)

-- what octets say: more must come first, a request, or the answer to one that is refused
abbrev pub Says : List ℕ → Heard Request → Type 0
Says octets More = Judges octets None
Says octets (Asks request) = Judges octets (Some (Ok request))
Says octets (Refused answer) = IsRefused octets answer.items
