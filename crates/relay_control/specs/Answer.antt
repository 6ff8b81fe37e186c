-- Answers of the control socket: lines, the last of which says how the request ended.
use Rattle.std.specs.Prelude.{◌≡◌, ◌≢◌, ℕ, ◌⊎◌, List, [], ◌∷◌, ◌++◌, codes, map}
use Rattle.relay_lines.specs.Word.{shown}
use Rattle.relay_control.specs.Request.{HasNo}
use Rattle.relay_control.specs.declared.answer.End.{End}
use Rattle.relay_control.specs.declared.answer.End.TheVariants.{Done, Refused}
use Rattle.relay_control.specs.declared.answer.Reply.{Reply}
use Rattle.relay_control.specs.declared.refusal.Refusal.{Refusal}
use Rattle.relay_control.specs.declared.refusal.Refusal.TheVariants.{TooLong, Unknown, Usage}
use Rattle.relay_control.specs.declared.verb.Verb.TheVariants.{Flush, Hold, Release, Return, Discard, Reload, Drain}

-- what the answer to a refused request says
abbrev pub refusal_text : Refusal → List ℕ
refusal_text TooLong = codes "request too long: no line ends within 4096 octets"
refusal_text Unknown = codes "unknown request: send flush, hold, release, return, discard, reload or drain"
refusal_text (Usage Flush) = codes "usage: flush, flush hop NAME or flush message NUMBER"
refusal_text (Usage Hold) = codes "usage: hold hop NAME or hold message NUMBER"
refusal_text (Usage Release) = codes "usage: release hop NAME or release message NUMBER"
refusal_text (Usage Return) = codes "usage: return NUMBER:PLACE,.. .."
refusal_text (Usage Discard) = codes "usage: discard NUMBER:PLACE,.. .."
refusal_text (Usage Reload) = codes "usage: reload"
refusal_text (Usage Drain) = codes "usage: drain SECONDS, from 0 to 65535"

-- a line before the last one begins with a space, so that it is never taken for that, and no octet of it is one that a
-- terminal obeys
abbrev pub line_text : List ℕ → List ℕ
line_text line = codes " " ++ map shown line ++ 10 ∷ []

-- the last line: `ok`, or `error` and the reason
abbrev pub error_text : List ℕ → List ℕ
error_text reason = codes "error " ++ map shown reason ++ 10 ∷ []

abbrev pub end_text : End → List ℕ
end_text Done = codes "ok" ++ 10 ∷ []
end_text (Refused reason) = error_text reason.now

-- the last line as it is in an answer, without its LF
abbrev pub IsEnd : List ℕ → End → Type 0
IsEnd last Done = last ≡ codes "ok"
IsEnd last (Refused reason) = last ≡ codes "error " ++ reason.now

-- it is none
abbrev pub IsNoEnd : List ℕ → Type 0
IsNoEnd last = (end : End) → ¬ IsEnd last end

-- the octets end in no LF
abbrev pub EndsInNoLf : List ℕ → Type 0
EndsInNoLf octets = (front : List ℕ) → octets ≢ front ++ 10 ∷ []

-- nothing, or what ends with an LF
abbrev pub IsWhole : List ℕ → Type 0
IsWhole octets = (octets ≡ []) ⊎ ((front : List ℕ) × (octets ≡ front ++ 10 ∷ []))

-- the octets are an answer: lines, and the last one
pub record ReadsAnswer (octets : List ℕ) (reply : Reply) : Type 0 where
  pub last : List ℕ
  pub octets_are : octets ≡ reply.lines.now ++ last ++ 10 ∷ []
  pub whole : IsWhole reply.lines.now
  pub last_is_line : HasNo 10 last
  pub is_end : IsEnd last reply.end

-- the octets are none, as where the connection broke
pub record HasNoAnswer (octets : List ℕ) : Type 0 where
  pub none : (reply : Reply) → ¬ ReadsAnswer octets reply
