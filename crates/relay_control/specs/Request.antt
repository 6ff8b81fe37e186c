-- Requests of the control socket: a request is a line, which begins with a verb.
use Rattle.std.specs.Prelude.{◌≡◌, ◌≢◌, ℕ, ◌<◌, ◌≤◌, ◌^◌, ◌==◌, false, List, ◌∷◌, ◌++◌, codes, decimal, length, map}
use Rattle.std.specs.Prelude.{Option, None, Some, Result, Ok, Err}
use Rattle.std.specs.List.{AllByRecursion}
use Rattle.relay_envelope.specs.HostName.{IsHostName}
use Rattle.relay_control.specs.Named.{AreNamed, content_of, names_text}
use Rattle.relay_control.specs.declared.refusal.Refusal.{Refusal}
use Rattle.relay_control.specs.declared.refusal.Refusal.TheVariants.{TooLong, Unknown, Usage}
use Rattle.relay_control.specs.declared.request.Request.{Request}
use Rattle.relay_control.specs.declared.request.Request.TheVariants as asks
use Rattle.relay_control.specs.declared.scope.Scope.{Scope}
use Rattle.relay_control.specs.declared.scope.Scope.TheVariants.{Hop, Message}
use Rattle.relay_control.specs.declared.verb.Verb.{Verb}
use Rattle.relay_control.specs.declared.verb.Verb.TheVariants.{Flush, Hold, Release, Return, Discard, Reload, Drain}

-- the word of each verb
abbrev pub verb_text : Verb → List ℕ
verb_text Flush = codes "flush"
verb_text Hold = codes "hold"
verb_text Release = codes "release"
verb_text Return = codes "return"
verb_text Discard = codes "discard"
verb_text Reload = codes "reload"
verb_text Drain = codes "drain"

-- the mail of a next hop, or a message
abbrev pub scope_text : Scope → List ℕ
scope_text (Hop name) = codes "hop " ++ name
scope_text (Message number) = codes "message " ++ decimal number

-- a next hop has the name of a host, and a message a number of 64 bits
abbrev pub IsScope : Scope → Type 0
IsScope (Hop name) = IsHostName name
IsScope (Message number) = number < 2 ^ 64

-- the text writes this scope
pub record IsScopeText (text : List ℕ) (scope : Scope) : Type 0 where
  pub valid : IsScope scope
  pub text_is : text ≡ scope_text scope

-- the text writes none; the word is no verb
pub record HasNoScope (text : List ℕ) : Type 0 where
  pub none : (scope : Scope) → ¬ IsScopeText text scope

pub record HasNoVerb (word : List ℕ) : Type 0 where
  pub none : (verb : Verb) → word ≢ verb_text verb

-- what a request asks for
abbrev pub verb_of : Request → Verb
verb_of (asks.Flush scope) = Flush
verb_of (asks.Hold scope) = Hold
verb_of (asks.Release scope) = Release
verb_of (asks.Return names) = Return
verb_of (asks.Discard names) = Discard
verb_of asks.Reload = Reload
verb_of (asks.Drain seconds) = Drain

-- what follows its verb
abbrev pub arguments_of : Request → Option (List ℕ)
arguments_of (asks.Flush None) = None
arguments_of (asks.Flush (Some scope)) = Some (scope_text scope)
arguments_of (asks.Hold scope) = Some (scope_text scope)
arguments_of (asks.Release scope) = Some (scope_text scope)
arguments_of (asks.Return names) = Some (names_text names.items)
arguments_of (asks.Discard names) = Some (names_text names.items)
arguments_of asks.Reload = None
arguments_of (asks.Drain seconds) = Some (decimal seconds)

-- its mail is some, it names 1 to 64 messages, and its seconds are 65,535 at most
abbrev pub IsRequest : Request → Type 0
IsRequest (asks.Flush None) = Unit {0}
IsRequest (asks.Flush (Some scope)) = IsScope scope
IsRequest (asks.Hold scope) = IsScope scope
IsRequest (asks.Release scope) = IsScope scope
IsRequest (asks.Return names) = AreNamed names.items
IsRequest (asks.Discard names) = AreNamed names.items
IsRequest asks.Reload = Unit {0}
IsRequest (asks.Drain seconds) = seconds < 2 ^ 16

-- the request of a verb with these arguments; there is none
pub record AsksOf (verb : Verb) (arguments : Option (List ℕ)) (request : Request) : Type 0 where
  pub valid : IsRequest request
  pub verb_is : verb_of request ≡ verb
  pub arguments_are : arguments_of request ≡ arguments

pub record AsksNothingOf (verb : Verb) (arguments : Option (List ℕ)) : Type 0 where
  pub none : (request : Request) → ¬ AsksOf verb arguments request

-- no such octet is in the text
abbrev pub HasNo : ℕ → List ℕ → Type 0
HasNo stop text = AllByRecursion (λ octet. octet == stop ≡ false) text

-- two parts with this octet between them, or one part without it
abbrev pub parts_text : ℕ → List ℕ → Option (List ℕ) → List ℕ
parts_text stop front None = front
parts_text stop front (Some rest) = front ++ stop ∷ rest

-- a word, and after a space what follows it, if anything does
abbrev pub line_text : List ℕ → Option (List ℕ) → List ℕ
line_text = parts_text 32

-- the text is cut at the first such octet
pub record IsCut (stop : ℕ) (text front : List ℕ) (rest : Option (List ℕ)) : Type 0 where
  pub text_is : text ≡ parts_text stop front rest
  pub front_has_none : HasNo stop front

-- two requests ask for the same
abbrev pub AsksSame : Request → Request → Type 0
AsksSame (asks.Return names) (asks.Return other) = map content_of names.items ≡ map content_of other.items
AsksSame (asks.Discard names) (asks.Discard other) = map content_of names.items ≡ map content_of other.items
AsksSame one other = one ≡ other

-- a request as a line
abbrev pub request_text : Request → List ℕ
request_text request = line_text (verb_text (verb_of request)) (arguments_of request)

-- the line asks for this; it asks for nothing
pub record Asks (line : List ℕ) (request : Request) : Type 0 where
  pub valid : IsRequest request
  pub line_is : line ≡ request_text request

pub record AsksNothing (line : List ℕ) : Type 0 where
  pub none : (request : Request) → ¬ Asks line request

-- the line begins with this verb, and something may follow a space; it begins with none
pub record IsOf (verb : Verb) (line : List ℕ) : Type 0 where
  pub arguments : Option (List ℕ)
  pub line_is : line ≡ line_text (verb_text verb) arguments

pub record IsOfNone (line : List ℕ) : Type 0 where
  pub none : (verb : Verb) → ¬ IsOf verb line

-- what a line asks for, or why it is refused
abbrev pub ReadsRequest : List ℕ → Result Request Refusal → Type 0
ReadsRequest line (Ok request) = Asks line request
ReadsRequest line (Err TooLong) = ⊥
ReadsRequest line (Err Unknown) = IsOfNone line
ReadsRequest line (Err (Usage verb)) = IsOf verb line × AsksNothing line

-- the octets begin with this line, and more may follow its LF
pub record BeginsWithLine (octets line rest : List ℕ) : Type 0 where
  pub octets_are : octets ≡ line ++ 10 ∷ rest
  pub first : HasNo 10 line

-- the octets begin with a line that is answered so
pub record IsAnswered (octets : List ℕ) (answer : Result Request Refusal) : Type 0 where
  pub line : List ℕ
  pub rest : List ℕ
  pub begins : BeginsWithLine octets line rest
  pub reads : ReadsRequest line answer

-- Octets wait for more while they have no line and are few. A line is answered, whatever follows it.
abbrev pub Judges : List ℕ → Option (Result Request Refusal) → Type 0
Judges octets None = HasNo 10 octets × (length octets < 4096)
Judges octets (Some (Err TooLong)) = HasNo 10 octets × (4096 ≤ length octets)
Judges octets (Some answer) = IsAnswered octets answer
