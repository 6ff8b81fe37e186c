-- What an attempt does at a server as ours is: one that offers PIPELINING, CHUNKING and DSN, and takes MAIL and DATA.
use Rattle.std.specs.Prelude.{◌≡◌, ◌<◌, ℕ, true, List, [], ◌∷◌, ◌++◌, drop, length, map, None, Some, if◌then◌else◌}
use Rattle.relay_lines.specs.Reply.{Reply}
use Rattle.relay_body.specs.DotText.{ends_in_line_end}
use Rattle.relay_book.specs.declared.change.Verdict.{Verdict}
use Rattle.relay_book.specs.declared.change.Verdict.TheVariants.{Later}
use Rattle.relay_course.specs.declared.awaited.Awaited.TheVariants as awaited
use Rattle.relay_course.specs.declared.extensions.Extensions.{Extensions}
use Rattle.relay_course.specs.declared.reply_kind.ReplyKind.TheVariants.{Completion, Intermediate}
use Rattle.relay_course.specs.Extensions.{extensions_of}
use Rattle.relay_course.specs.WrittenLine.{data_line, ehlo_line, last_chunk, mail_line, quit_line, rcpt_line_at}
use Rattle.relay_course.specs.VerdictTable.{content_verdict_by, kind_of, some_accepted, verdicts_of}
use Rattle.relay_course.specs.Progress.{Delivery, Answered, Progress, answer_of, progress}

abbrev pub all_extensions : Extensions
all_extensions = record { pipelining = true; chunking = true; dsn = true }

-- the greeting and the replies to EHLO and MAIL, and that to DATA if it is written, are as a relay of ours has them
pub record AreWilling (greeting hello mail input : Reply) : Type 0 where
  pub greets : kind_of greeting.code ≡ Completion
  pub says_hello : kind_of hello.code ≡ Completion
  pub offers : extensions_of hello ≡ all_extensions
  pub takes_mail : kind_of mail.code ≡ Completion
  pub takes_input : kind_of input.code ≡ Intermediate

-- EHLO, and MAIL and the RCPTs in one group
abbrev pub opening_commands : Delivery → List (List ℕ)
opening_commands delivery =
    ehlo_line delivery.host ∷ mail_line true delivery.envelope
    ∷ map (rcpt_line_at true delivery.envelope.recipients) delivery.places

-- DATA and the mail data, or one last chunk
abbrev pub content_commands : Delivery → List (List ℕ)
content_commands delivery =
    if ends_in_line_end delivery.text then data_line ∷ delivery.dot_text ∷ [] else last_chunk delivery.text ∷ []

-- all of it: the content where a RCPT was accepted, and QUIT
abbrev pub relay_commands : Delivery → List Reply → List (List ℕ)
relay_commands delivery rcpts =
    opening_commands delivery ++ (if some_accepted rcpts then content_commands delivery else []) ++ quit_line ∷ []

-- the replies to the content's commands
abbrev pub content_replies : Delivery → List Reply → Reply → Reply → List Reply
content_replies delivery rcpts input content =
    if some_accepted rcpts then (if ends_in_line_end delivery.text then input ∷ content ∷ [] else content ∷ []) else []

-- the replies up to those to the RCPTs
abbrev pub opening_replies : Reply → Reply → Reply → List Reply → List Reply
opening_replies greeting hello mail rcpts = greeting ∷ hello ∷ mail ∷ rcpts

-- all replies that are awaited
abbrev pub relay_replies : Delivery → Reply → Reply → Reply → List Reply → Reply → Reply → List Reply
relay_replies delivery greeting hello mail rcpts input content =
    opening_replies greeting hello mail rcpts ++ content_replies delivery rcpts input content

-- RCPTs, each with its reply
abbrev pub answered_rcpts : List ℕ → List Reply → List Answered
answered_rcpts [] replies = []
answered_rcpts (place ∷ places) [] = []
answered_rcpts (place ∷ places) (reply ∷ replies) =
    answer_of (awaited.Rcpt place) reply ∷ answered_rcpts places replies

-- what the replies up to those to the RCPTs answered
abbrev pub opening_answers : List ℕ → Reply → Reply → Reply → List Reply → List Answered
opening_answers places greeting hello mail rcpts =
    answer_of awaited.Greeting greeting ∷ answer_of awaited.Ehlo hello ∷ answer_of awaited.Mail mail
    ∷ answered_rcpts places rcpts

-- what the replies to the content's commands answered
abbrev pub content_answers : Delivery → List Reply → Reply → Reply → List Answered
content_answers delivery rcpts input content =
    if some_accepted rcpts
    then (if ends_in_line_end delivery.text
    then answer_of awaited.Data input ∷ answer_of awaited.Content content ∷ []
    else answer_of awaited.Content content ∷ [])
    else []

-- the verdict of the places whose RCPT was accepted; if none was, nobody has it
abbrev pub last_verdict : List Reply → Reply → Verdict
last_verdict rcpts content =
    if some_accepted rcpts then content_verdict_by true (kind_of content.code) content else Later

-- how far an attempt has come after all replies: to the end
abbrev pub relay_progress : Delivery → Reply → Reply → Reply → List Reply → Reply → Reply → Progress
relay_progress delivery greeting hello mail rcpts input content = record {
  commands = relay_commands delivery rcpts;
  waits = [];
  unasked = [];
  extensions = all_extensions;
  answered =
      opening_answers delivery.places greeting hello mail rcpts ++ content_answers delivery rcpts input content;
  verdicts = Some (verdicts_of delivery.places rcpts (last_verdict rcpts content));
}

-- To a relay an attempt writes EHLO, MAIL, the RCPTs, the content where one of those is accepted, and QUIT, and then
-- has ended, whatever the RCPTs and the content are answered.
abbrev pub CommandsToARelay : Type 0
CommandsToARelay =
    (delivery : Delivery) (greeting hello mail input content : Reply) (rcpts : List Reply)
    → AreWilling greeting hello mail input → length rcpts ≡ length delivery.places
    → progress delivery (relay_replies delivery greeting hello mail rcpts input content)
    ≡ relay_progress delivery greeting hello mail rcpts input content

-- how far it has come while RCPTs are to be answered
abbrev pub opening_progress : Delivery → Reply → Reply → Reply → List Reply → Progress
opening_progress delivery greeting hello mail rcpts = record {
  commands = opening_commands delivery;
  waits = map (λ place. awaited.Rcpt place) (drop (length rcpts) delivery.places);
  unasked = [];
  extensions = all_extensions;
  answered = opening_answers delivery.places greeting hello mail rcpts;
  verdicts = None;
}

-- Before all RCPTs are answered, nothing is written after them, and the others wait.
abbrev pub NothingBeforeAllRcpts : Type 0
NothingBeforeAllRcpts =
    (delivery : Delivery) (greeting hello mail input : Reply) (rcpts : List Reply)
    → AreWilling greeting hello mail input → length rcpts < length delivery.places
    → progress delivery (opening_replies greeting hello mail rcpts)
    ≡ opening_progress delivery greeting hello mail rcpts

-- Where all RCPTs were answered, so was what was written before them, and nothing else.
abbrev pub AllRcptsAnswered : Type 0
AllRcptsAnswered =
    (delivery : Delivery) (greeting hello mail input : Reply) (rcpts : List Reply)
    → AreWilling greeting hello mail input → length rcpts ≡ length delivery.places
    → (progress delivery (opening_replies greeting hello mail rcpts)).answered
    ≡ opening_answers delivery.places greeting hello mail rcpts
