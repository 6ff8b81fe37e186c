-- Laws of units, turns and dialogues, whatever the pieces that the input comes in.
use Rattle.std.specs.Prelude.{◌≡◌, ◌≢◌, ℕ, ◌^◌, ◌<◌, ◌≤◌, List, [], ◌∷◌, ◌++◌, true, false, length, Some, IsSome, Ok}
use Rattle.std.specs.List.{AllByRecursion}
use Rattle.relay_octets.specs.Beginning.{Begins}
use Rattle.relay_lines.specs.Command.{Bdat, reading_of}
use Rattle.relay_lines.specs.Reply.{IsReply}
use Rattle.relay_lines.specs.Word.{IsHostWord}
use Rattle.relay_envelope.specs.Envelope.{IsEnvelope}
use Rattle.relay_envelope.specs.Path.{Path, IsPath, path_text}
use Rattle.relay_envelope.specs.declared.envelope.Recipient.{Recipient}
use Rattle.relay_routes.specs.RoutedPath.{refuses_path}
use Rattle.relay_routes.specs.Routes.{hop_of}
use Rattle.relay_server.specs.declared.offer.Answer.{Answer}
use Rattle.relay_server.specs.declared.offer.Answer.TheVariants.{Queued, Full}
use Rattle.relay_server.specs.declared.reply_table.Row.TheVariants.{Greeting}
use Rattle.relay_server.specs.declared.session.Session.{Session}
use Rattle.relay_envelope.specs.HostName.{IsHostName}
use Rattle.relay_server.specs.Dialogue.{Offered, Turn, Answers, Turns, Said, IsDialogue, answers_in, answered_by}
use Rattle.relay_server.specs.Reply.{reply_of}
use Rattle.relay_server.specs.ReplyTable.{is_refused_by}
use Rattle.relay_server.specs.Session.{Stands}
use Rattle.relay_server.specs.Setup.{Setup}
use Rattle.relay_trace.specs.HeaderSection.{received_count_of}
use Rattle.relay_server.specs.State.{State, Command, Receiving, Closed}
use Rattle.relay_server.specs.Unit.{IsCommandUnit, IsUnit}

-- the number of an answer is one of 64 bits
abbrev pub IsNumbered : Answer → Type 0
IsNumbered (Queued number) = number < 2 ^ 64
IsNumbered Full = Unit {0}

-- the numbers of all of them are
abbrev pub AreNumbered : List Answer → Type 0
AreNumbered answers = AllByRecursion IsNumbered answers

-- no unit is empty
abbrev pub NoUnitIsEmpty : Type 0
NoUnitIsEmpty = (state : State) (unit : List ℕ) → IsUnit state unit → unit ≢ []

-- of the units of a state none begins another, and what is after one is fixed
abbrev pub NoUnitBeginsAnother : Type 0
NoUnitBeginsAnother =
    (state : State) (unit other after rest : List ℕ) → IsUnit state unit → IsUnit state other
    → unit ++ after ≡ other ++ rest → (unit ≡ other) × (after ≡ rest)

-- turns that lead to a state, and turns that lead on from it, are one run
abbrev pub RunsCompose : Type 0
RunsCompose =
    (setup : Setup) (old mid new : State) (turns more : List Turn) → Turns setup old turns mid
    → Turns setup mid more new
    → Turns setup old (turns ++ more) new

-- what fits a session is a dialogue
abbrev pub WhatStandsIsADialogue : Type 0
WhatStandsIsADialogue =
    (setup : Setup) (session : Session) (said : Said) → Stands setup session said → IsDialogue setup said

-- state, unit and answer fix the turn, and the state after it
abbrev pub RowIsFixed : Type 0
RowIsFixed =
    (setup : Setup) (old new next : State) (turn other : Turn) → Answers setup old turn new
    → Answers setup old other next
    → turn.asked ≡ other.asked → answers_in turn.offer ≡ answers_in other.offer → (turn ≡ other)
    × (new ≡ next)

-- the input and the answers of a dialogue fix its output and its offers
abbrev pub OutputIsFixed : Type 0
OutputIsFixed =
    (setup : Setup) (said other : Said) → IsDialogue setup said → IsDialogue setup other
    → said.input ≡ other.input → said.answers ≡ other.answers
    → (said.output ≡ other.output) × (said.offers ≡ other.offers)

-- where the input and the output of a dialogue begin another's, so do its answers and its offers
abbrev pub BeginningsHaveBeginnings : Type 0
BeginningsHaveBeginnings =
    (setup : Setup) (said other : Said) → IsDialogue setup said → IsDialogue setup other
    → AreNumbered other.answers
    → Begins said.input other.input → Begins said.output other.output
    → Begins said.answers other.answers × Begins said.offers other.offers

-- the unit ends a content: a dot text, or a chunk with LAST
abbrev pub EndsContent : State → List ℕ → Type 0
EndsContent (Command state) unit =
    (text : List ℕ) × (octets : List ℕ) × (size : ℕ) × IsCommandUnit unit text octets × (length text ≤ 2046)
    × (reading_of text ≡ Ok (Bdat (record { size = size; last = true })))
EndsContent (Receiving client envelope) unit = Unit {0}
EndsContent Closed unit = ⊥

-- of all replies to the end of a content only the one to a queued offer is positive
abbrev pub OnlyQueuedIsPositive : Type 0
OnlyQueuedIsPositive =
    (setup : Setup) (old new : State) (turn : Turn) → Answers setup old turn new → EndsContent old turn.asked
    → 200 ≤ turn.reply.code → turn.reply.code < 300 → (number : ℕ)
    × (answers_in turn.offer ≡ Queued number ∷ [])

-- nothing but the end of a content is offered
abbrev pub OnlyContentIsOffered : Type 0
OnlyContentIsOffered =
    (setup : Setup) (old new : State) (turn : Turn) (offer : Offered) (given : Answer)
    → Answers setup old turn new
    → turn.offer ≡ Some (offer, given) → EndsContent old turn.asked

-- the greeting and the replies of all turns are well formed
abbrev pub RepliesAreWellFormed : Type 0
RepliesAreWellFormed =
    (setup : Setup) → IsHostName setup.host
    → IsReply (reply_of setup.host Greeting)
    × ((old new : State) (turns : List Turn) → Turns setup old turns new → AreNumbered (answered_by turns)
    → AllByRecursion (λ turn. IsReply turn.reply) turns)

-- an offer as it may be stored: the client's word is one of HELO's, the envelope is whole, the
-- content is within the limit, has fewer than 100 `Received:` fields, and isn't one that the rule refuses
pub record MayBeStored (setup : Setup) (offer : Offered) : Type 0 where
  pub client : IsHostWord offer.client.word
  pub envelope : IsEnvelope offer.envelope
  pub content : length offer.content ≤ setup.max_content
  pub received : received_count_of offer.content < 100
  pub allowed : is_refused_by setup.bare_newlines offer.content ≡ false

-- each offer of a dialogue may be stored
abbrev pub OffersMayBeStored : Type 0
OffersMayBeStored =
    (setup : Setup) (said : Said) → IsDialogue setup said → AllByRecursion (MayBeStored setup) said.offers

-- a recipient that the server takes: its path, which is one, isn't refused, and has a next hop
pub record IsTaken (setup : Setup) (recipient : Recipient) : Type 0 where
  pub path : Path
  pub valid : IsPath path
  pub text_is : recipient.path ≡ path_text path
  pub kept : refuses_path setup.routed_paths path ≡ false
  pub goes : IsSome (hop_of setup.routes path)

-- each recipient of each offer of a dialogue is one that the server takes
abbrev pub RecipientsAreTaken : Type 0
RecipientsAreTaken =
    (setup : Setup) (said : Said) → IsDialogue setup said
    → AllByRecursion (λ offer. AllByRecursion (IsTaken setup) offer.envelope.recipients) said.offers
