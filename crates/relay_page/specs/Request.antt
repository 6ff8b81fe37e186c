-- What a request asks for, and which requests are refused (RFC 9112, sections 2 to 5; RFC 9110, sections 7.2 and 15.5).
use Rattle.std.specs.Prelude.{◌≡◌, ℕ, ◌<◌, ◌≤◌, ◌⊎◌, Bool, true, false, List, [], ◌∷◌, codes, length, map, filter}
use Rattle.std.specs.Prelude.{Option, None, Some, Result, Ok, Err, IfSome, if◌then◌else◌}
use Rattle.std.specs.Str.{bytes_eq}
use Rattle.httparse.specs.Grammar.{RequestHead, ReadsRequest, HasNoRequest, MayBecomeRequest, NeverHasRequest}
use Rattle.httparse.specs.Spans.{RequestExceeds, name_and_value}
use Rattle.relay_lines.specs.Word.{is_word}
use Rattle.relay_page.specs.Host.{is_loopback}
use Rattle.relay_page.specs.declared.request.Asked.{Asked}
use Rattle.relay_page.specs.declared.request.Refusal.{Refusal}
use Rattle.relay_page.specs.declared.request.Refusal.TheVariants.{BadRequest, Forbidden, NotFound, BadMethod, TooLarge}
use Rattle.relay_page.specs.declared.request.Target.{Target}
use Rattle.relay_page.specs.declared.request.Target.TheVariants.{Page, Metrics, Queue}

-- whether a field's name is Host, in any letter case
abbrev pub is_host_field : List ℕ × List ℕ → Bool
is_host_field field = is_word field.0 (codes "host")

-- the values of the Host fields among these names and values
abbrev pub hosts_among : List (List ℕ × List ℕ) → List (List ℕ)
hosts_among fields = map (λ field. field.1) (filter is_host_field fields)

-- the element of a list that has exactly one
abbrev pub only : {X : Type 0} → List X → Option X
only [] = None
only (x ∷ []) = Some x
only (x ∷ y ∷ rest) = None

-- the targets and their paths
abbrev pub target_of : List ℕ → Option Target
target_of text =
    if bytes_eq text (codes "/") then Some Page
    else if bytes_eq text (codes "/metrics") then Some Metrics
    else if bytes_eq text (codes "/queue.json") then Some Queue
    else None

-- the target, with or without its body; 404 if there is none
abbrev pub asked_for : Bool → Option Target → Result Asked Refusal
asked_for has_body None = Err NotFound
asked_for has_body (Some target) = Ok (record { target = target; has_body = has_body })

-- the target that a method asks for; only GET and HEAD are allowed
abbrev pub asked_by : List ℕ → List ℕ → Result Asked Refusal
asked_by method target =
    if bytes_eq method (codes "GET") then asked_for true (target_of target)
    else if bytes_eq method (codes "HEAD") then asked_for false (target_of target)
    else Err BadMethod

-- a request has one Host field, which names this machine
abbrev pub asked_at : Option (List ℕ) → List ℕ → List ℕ → Result Asked Refusal
asked_at None method target = Err BadRequest
asked_at (Some host) method target = if is_loopback host then asked_by method target else Err Forbidden

-- what the head of a request asks for, or why it is refused
abbrev pub judged : RequestHead → Result Asked Refusal
judged head = asked_at (only (hosts_among (map name_and_value head.fields))) head.method head.target

-- why octets are answered so: they are the head of a request and it is judged so; or they can't become the head of one;
-- or they are too many
abbrev pub IsDue : List ℕ → Result Asked Refusal → Type 0
IsDue octets answer =
    ((head : RequestHead) × (rest : List ℕ) × ReadsRequest octets head rest × (answer ≡ judged head))
    ⊎ ((answer ≡ Err BadRequest) × NeverHasRequest octets)
    ⊎ ((answer ≡ Err TooLarge) × (RequestExceeds 32 octets ⊎ (HasNoRequest octets × (4096 ≤ length octets))))

-- Octets are answered, or more are needed.
pub record IsJudged (octets : List ℕ) (answer : Option (Result Asked Refusal)) : Type 0 where
  pub found : (head : RequestHead) (rest : List ℕ) → ReadsRequest octets head rest → length head.fields ≤ 32
      → answer ≡ Some (judged head)
  pub due : IfSome answer (IsDue octets)
  pub waits : answer ≡ None → MayBecomeRequest octets × (length octets < 4096)
