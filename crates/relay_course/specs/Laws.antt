-- Laws of every attempt, whatever the replies.
use Rattle.std.specs.Prelude.{◌≡◌, ◌⊎◌, ◌↔◌, ◌<◌, ◌≤◌, ◌^◌, ℕ, ◌+◌, Bool, true, false, List, [], ◌∷◌, ◌++◌, length, map}
use Rattle.std.specs.Prelude.{slice_get, Option, None, Some, if◌then◌else◌}
use Rattle.std.specs.List.{AllByRecursion, Contains, flat_map}
use Rattle.relay_octets.specs.Beginning.{Begins}
use Rattle.relay_octets.specs.Line.{line_text}
use Rattle.relay_lines.specs.Command.{Command, Helo, Ehlo, Mail, Rcpt, Data, Bdat, Rset, Noop, Vrfy, Help, Quit}
use Rattle.relay_lines.specs.Reply.{Reply}
use Rattle.relay_lines.specs.Word.{IsHostWord}
use Rattle.relay_lines.specs.WrittenCommand.{IsCommandLine}
use Rattle.relay_body.specs.DotText.{WritesDotText}
use Rattle.relay_envelope.specs.declared.envelope.Envelope.{Envelope}
use Rattle.relay_envelope.specs.declared.envelope.Recipient.{Recipient}
use Rattle.relay_envelope.specs.Envelope.{IsEnvelope, mail_text, rcpt_text}
use Rattle.relay_book.specs.declared.change.Verdict.{Verdict}
use Rattle.relay_book.specs.declared.change.Verdict.TheVariants.{Taken}
use Rattle.relay_book.specs.Queue.{is_without_hop}
use Rattle.relay_book.specs.Record.{IsVerdict}
use Rattle.relay_course.specs.declared.awaited.Awaited.{Awaited}
use Rattle.relay_course.specs.declared.awaited.Awaited.TheVariants as awaited
use Rattle.relay_course.specs.declared.reply_kind.ReplyKind.TheVariants.{Completion}
use Rattle.relay_course.specs.VerdictTable.{all_later, is_accepted, kind_of}
use Rattle.relay_course.specs.Progress.{Delivery, Answered, Progress, answer_of, after_reply, progress}
use Rattle.relay_course.specs.Course.{IsCourse, IsSentAs}

-- A further reply leads on from where the others led.
abbrev pub ReplyLeadsOn : Type 0
ReplyLeadsOn =
    (delivery : Delivery) (replies : List Reply) (reply : Reply)
    → progress delivery (replies ++ reply ∷ []) ≡ after_reply delivery (progress delivery replies) reply

-- Until an attempt ends, each further reply answers something.
abbrev pub EachReplyAnswers : Type 0
EachReplyAnswers =
    (delivery : Delivery) (replies : List Reply) (reply : Reply) → (progress delivery replies).verdicts ≡ None
    → length (progress delivery (replies ++ reply ∷ [])).answered ≡ length (progress delivery replies).answered + 1

-- What was written stays written, whatever replies come after.
abbrev pub CommandsStay : Type 0
CommandsStay =
    (delivery : Delivery) (replies more : List Reply)
    → Begins (progress delivery replies).commands (progress delivery (replies ++ more)).commands

-- Until it ends an attempt waits for something, and of the greeting and the commands each was answered or waits.
abbrev pub EachCommandWaits : Type 0
EachCommandWaits =
    (delivery : Delivery) (replies : List Reply) → (progress delivery replies).verdicts ≡ None
    → (0 < length (progress delivery replies).waits)
    × (length replies + length (progress delivery replies).waits ≡ length (progress delivery replies).commands + 1)

-- An attempt that has ended waits for nothing.
abbrev pub EndWaitsForNothing : Type 0
EndWaitsForNothing =
    (delivery : Delivery) (replies : List Reply) (verdicts : List Verdict)
    → (progress delivery replies).verdicts ≡ Some verdicts → (progress delivery replies).waits ≡ []

-- Where nothing waits, replies after change nothing.
abbrev pub EndIsEnd : Type 0
EndIsEnd =
    (delivery : Delivery) (replies more : List Reply) → (progress delivery replies).waits ≡ []
    → progress delivery (replies ++ more) ≡ progress delivery replies

-- After this many replies as many commands are written, or nothing more is.
abbrev pub CommandsKeepUp : Type 0
CommandsKeepUp =
    (delivery : Delivery) (replies more : List Reply)
    → (length replies ≤ length (progress delivery replies).commands)
    ⊎ ((progress delivery (replies ++ more)).commands ≡ (progress delivery replies).commands)

-- the replies that answered something
abbrev pub replies_in : List Answered → List Reply
replies_in answered = map (λ one. one.reply) answered

-- The replies that answered something are the first ones, in order.
abbrev pub AnsweredAreFirst : Type 0
AnsweredAreFirst =
    (delivery : Delivery) (replies : List Reply) → Begins (replies_in (progress delivery replies).answered) replies

-- What was answered stays answered, whatever replies come after.
abbrev pub AnswersStay : Type 0
AnswersStay =
    (delivery : Delivery) (replies more : List Reply)
    → Begins (progress delivery replies).answered (progress delivery (replies ++ more)).answered

-- the RCPTs that were answered
abbrev pub if_rcpt_one : Awaited → Answered → List Answered
if_rcpt_one (awaited.Rcpt place) one = one ∷ []
if_rcpt_one _ one = []

abbrev pub rcpts_in : List Answered → List Answered
rcpts_in answered = flat_map (λ one. if_rcpt_one one.waited one) answered

-- their places
abbrev pub if_rcpt_place : Awaited → List ℕ
if_rcpt_place (awaited.Rcpt place) = place ∷ []
if_rcpt_place _ = []

abbrev pub rcpt_places : List Answered → List ℕ
rcpt_places answered = flat_map (λ one. if_rcpt_place one.waited) answered

-- the places whose RCPT was answered 2yz
abbrev pub if_accepted_place : Awaited → Reply → List ℕ
if_accepted_place (awaited.Rcpt place) reply = if is_accepted reply then place ∷ [] else []
if_accepted_place _ reply = []

abbrev pub accepted_places : List Answered → List ℕ
accepted_places answered = flat_map (λ one. if_accepted_place one.waited one.reply) answered

-- The RCPTs that were answered are those of the first places, in order.
abbrev pub RcptsAreInOrder : Type 0
RcptsAreInOrder =
    (delivery : Delivery) (replies : List Reply)
    → Begins (rcpt_places (progress delivery replies).answered) delivery.places

-- the RCPT of this place, which is there in the row of places, and the content were answered 2yz, by a server that
-- offers DSN or doesn't
pub record WasTaken (end : Progress) (index place : ℕ) (dsn : Bool) : Type 0 where
  pub rcpt : Reply
  pub content : Reply
  pub asked : slice_get (rcpts_in end.answered) index ≡ Some (answer_of (awaited.Rcpt place) rcpt)
  pub accepted : kind_of rcpt.code ≡ Completion
  pub sent : Contains end.answered (answer_of awaited.Content content)
  pub taken : kind_of content.code ≡ Completion
  pub offered : dsn ≡ end.extensions.dsn

-- A place is Taken exactly if its RCPT and the content were answered 2yz.
abbrev pub TakenWhereAnswered : Type 0
TakenWhereAnswered =
    (delivery : Delivery) (replies : List Reply) (verdicts : List Verdict)
    → (progress delivery replies).verdicts ≡ Some verdicts
    → (index place : ℕ) (dsn : Bool) → slice_get delivery.places index ≡ Some place
    → (slice_get verdicts index ≡ Some (Taken dsn)) ↔ WasTaken (progress delivery replies) index place dsn

-- the places are some of these recipients'
abbrev pub AreWithin : List ℕ → List Recipient → Type 0
AreWithin places recipients = AllByRecursion (λ place. place < length recipients) places

-- a delivery as a stored message has it: our host's name is a word of EHLO, and 1 to 100 places are tried
pub record IsDelivery (delivery : Delivery) : Type 0 where
  pub host : IsHostWord delivery.host
  pub envelope : IsEnvelope delivery.envelope
  pub short : length delivery.text < 2 ^ 32
  pub dot_text : IsSentAs delivery.text delivery.dot_text
  pub some : 1 ≤ length delivery.places
  pub few : length delivery.places ≤ 100
  pub within : AreWithin delivery.places delivery.envelope.recipients

-- the text is what is after the colon of this recipient's RCPT, with its parameters or with none
abbrev pub IsRcptOf : Recipient → List ℕ → Type 0
IsRcptOf recipient text = (text ≡ rcpt_text recipient) ⊎ (text ≡ recipient.path)

-- the commands that are written as a line alone, with nothing after it
abbrev pub MayAsk : Delivery → Command → Type 0
MayAsk delivery (Helo host) = host ≡ delivery.host
MayAsk delivery (Ehlo host) = host ≡ delivery.host
MayAsk delivery (Mail text) = (text ≡ mail_text delivery.envelope) ⊎ (text ≡ delivery.envelope.reverse_path)
MayAsk delivery (Rcpt text) = (place : ℕ) × (recipient : Recipient) × Contains delivery.places place
    × (slice_get delivery.envelope.recipients place ≡ Some recipient) × IsRcptOf recipient text
MayAsk delivery Data = Unit {0}
MayAsk delivery (Bdat chunk) = ⊥
MayAsk delivery Rset = ⊥
MayAsk delivery Noop = ⊥
MayAsk delivery Vrfy = ⊥
MayAsk delivery Help = ⊥
MayAsk delivery Quit = Unit {0}

-- what is written is a line that every server reads as this command; or the text as mail data; or a line that is read
-- as that of a last chunk of the text's size, and the text
pub data IsWritten (delivery : Delivery) (octets : List ℕ) : Type 0 where
  AsLine : (command : Command) (line : List ℕ) → MayAsk delivery command → IsCommandLine line command
      → octets ≡ line_text line → IsWritten delivery octets
  AsMailData : WritesDotText delivery.text octets → IsWritten delivery octets
  AsLastChunk : (line : List ℕ)
      → IsCommandLine line (Bdat (record { size = length delivery.text; last = true }))
      → octets ≡ line_text line ++ delivery.text → IsWritten delivery octets

-- Each command is read by a server as what was asked, and of contents nothing but the stored text is sent.
abbrev pub EachCommandIsRead : Type 0
EachCommandIsRead =
    (delivery : Delivery) (replies : List Reply) → IsDelivery delivery
    → AllByRecursion (IsWritten delivery) (progress delivery replies).commands

-- A course has as many verdicts as places.
abbrev pub VerdictForEachPlace : Type 0
VerdictForEachPlace =
    (host : List ℕ) (envelope : Envelope) (text places input : List ℕ) (told : Bool) (output : List ℕ)
    (verdicts : List Verdict)
    → IsCourse host envelope text places input told output (Some verdicts)
    → length verdicts ≡ length places

-- The verdicts of a course may be stored: a refusal has a reply's code, and its text is short and
-- printable.
abbrev pub VerdictsMayBeStored : Type 0
VerdictsMayBeStored =
    (host : List ℕ) (envelope : Envelope) (text places input : List ℕ) (told : Bool) (output : List ℕ)
    (verdicts : List Verdict)
    → IsCourse host envelope text places input told output (Some verdicts)
    → AllByRecursion IsVerdict verdicts

-- No verdict of a course says that there was no hop, or is the postmaster's.
abbrev pub VerdictsAreOfAHop : Type 0
VerdictsAreOfAHop =
    (host : List ℕ) (envelope : Envelope) (text places input : List ℕ) (told : Bool) (output : List ℕ)
    (verdicts : List Verdict)
    → IsCourse host envelope text places input told output (Some verdicts)
    → AllByRecursion (λ verdict. is_without_hop verdict ≡ false) verdicts

-- A course that goes on may be lost: then each place may be tried again, and nothing more is written.
abbrev pub CourseMayBeLost : Type 0
CourseMayBeLost =
    (host : List ℕ) (envelope : Envelope) (text places input output : List ℕ)
    → IsCourse host envelope text places input false output None
    → IsCourse host envelope text places input true output (Some (all_later places))

-- What was read, and whether a loss was told, fix what was written and the verdicts.
abbrev pub CourseIsOne : Type 0
CourseIsOne =
    (host : List ℕ) (envelope : Envelope) (text places input : List ℕ) (told : Bool) (output other : List ℕ)
    (verdicts others : Option (List Verdict))
    → IsCourse host envelope text places input told output verdicts
    → IsCourse host envelope text places input told other others
    → (output ≡ other) × (verdicts ≡ others)
