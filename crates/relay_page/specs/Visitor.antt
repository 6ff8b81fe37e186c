-- Visitors of the page: what they ask for, and what they are answered at once.
use Rattle.std.specs.Prelude.{◌≡◌, ℕ, Bool, List, [], ◌∷◌, ◌++◌, None, Some, Ok, Err}
use Rattle.relay_callers.specs.declared.question.Heard.{Heard}
use Rattle.relay_callers.specs.declared.question.Heard.TheVariants.{More, Asks, Refused}
use Rattle.relay_page.specs.Request.{IsJudged}
use Rattle.relay_page.specs.Response.{code_of, code_text, response_text}
use Rattle.relay_page.specs.declared.request.Asked.{Asked}
use Rattle.relay_page.specs.declared.request.Refusal.{Refusal}
use Rattle.relay_page.specs.declared.response.Kind.TheVariants.{Plain}

-- a request is refused by a response with its status code, and with a line that says so unless it asks for none
pub record IsRefused (octets answer : List ℕ) : Type 0 where
  pub refusal : Refusal
  pub has_body : Bool
  pub judged : IsJudged octets (Some (Err refusal))
  pub answer_is : answer ≡ response_text (code_of refusal) Plain has_body (code_text (code_of refusal) ++ 10 ∷ [])

-- what octets say: more must come first, a request, or the response to one that is refused
abbrev pub Says : List ℕ → Heard Asked → Type 0
Says octets More = IsJudged octets None
Says octets (Asks asked) = IsJudged octets (Some (Ok asked))
Says octets (Refused answer) = IsRefused octets answer.items
