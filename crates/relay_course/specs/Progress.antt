-- How far an attempt has come (RFC 5321, sections 3.1 to 3.3 and 4.2; RFC 2920, section 3.1; RFC 3030, section 2), as a
-- function of the replies: to each what the client writes, and at the end a verdict for each place. Each reply answers
-- the earliest thing that waits for one.
use Rattle.std.specs.Prelude.{ℕ, List, [], ◌∷◌, ◌++◌, Option, Some, None, if◌then◌else◌}
use Rattle.std.specs.List.{flat_map}
use Rattle.relay_lines.specs.Reply.{Reply}
use Rattle.relay_body.specs.DotText.{ends_in_line_end}
use Rattle.relay_envelope.specs.declared.envelope.Envelope.{Envelope}
use Rattle.relay_book.specs.declared.change.Verdict.{Verdict}
use Rattle.relay_book.specs.declared.change.Verdict.TheVariants.{Later, CantSend}
use Rattle.relay_course.specs.declared.awaited.Awaited.{Awaited}
use Rattle.relay_course.specs.declared.awaited.Awaited.TheVariants.{Greeting, Ehlo, Helo, Mail, Rcpt, Data, Content}
use Rattle.relay_course.specs.declared.extensions.Extensions.{Extensions}
use Rattle.relay_course.specs.declared.reply_kind.ReplyKind.{ReplyKind}
use Rattle.relay_course.specs.declared.reply_kind.ReplyKind.TheVariants.{Completion, Intermediate, Permanent}
use Rattle.relay_course.specs.Extensions.{extensions_of, no_extensions}
use Rattle.relay_course.specs.WrittenLine.{ehlo_line, helo_line, mail_line, rcpt_line_at, data_line, last_chunk}
use Rattle.relay_course.specs.WrittenLine.{quit_line}
use Rattle.relay_course.specs.VerdictTable.{content_verdict_by, kind_of, refusal, some_accepted, verdicts_of}

-- what an attempt must do, which never changes: our host's name, the message's envelope and stored text, that text as
-- it is sent after DATA, and the places to try, in order
pub record Delivery : Type 0 where
  pub host : List ℕ
  pub envelope : Envelope
  pub text : List ℕ
  pub dot_text : List ℕ
  pub places : List ℕ

-- what waited, and the reply that answered it
pub record Answered : Type 0 where
  pub waited : Awaited
  pub reply : Reply

abbrev pub answer_of : Awaited → Reply → Answered
answer_of waited reply = record { waited = waited; reply = reply }

-- what was written, each command for itself; what waits for a reply; the places whose RCPT wasn't written yet; what the
-- server offers; what was answered; and at the end the verdict of each place in order
pub record Progress : Type 0 where
  pub commands : List (List ℕ)
  pub waits : List Awaited
  pub unasked : List ℕ
  pub extensions : Extensions
  pub answered : List Answered
  pub verdicts : Option (List Verdict)

-- the replies to RCPTs, which come in the order of the places
abbrev pub if_rcpt : Awaited → Reply → List Reply
if_rcpt (Rcpt place) reply = reply ∷ []
if_rcpt _ reply = []

abbrev pub rcpt_replies : List Answered → List Reply
rcpt_replies answered = flat_map (λ one. if_rcpt one.waited one.reply) answered

-- a command is written, and waits for its reply
abbrev pub with_command : List ℕ → Awaited → Progress → Progress
with_command command waited old =
    record old { commands = old.commands ++ command ∷ []; waits = old.waits ++ waited ∷ [] }

-- the attempt ends: QUIT is written, its reply isn't waited for, and the places that are left have this verdict
abbrev pub ended_by : Delivery → Verdict → Progress → Progress
ended_by delivery last old = record old {
  commands = old.commands ++ quit_line ∷ [];
  waits = [];
  verdicts = Some (verdicts_of delivery.places (rcpt_replies old.answered) last);
}

-- the RCPT of the next place is written
abbrev pub with_rcpt : Delivery → ℕ → List ℕ → Progress → Progress
with_rcpt delivery place more old =
    with_command (rcpt_line_at old.extensions.dsn delivery.envelope.recipients place) (Rcpt place)
    (record old { unasked = more })

-- the RCPTs of all these places are written
abbrev pub with_rcpts : Delivery → List ℕ → Progress → Progress
with_rcpts delivery [] old = old
with_rcpts delivery (place ∷ places) old = with_rcpts delivery places (with_rcpt delivery place places old)

-- the content is begun: by DATA where the text ends in CR LF, and else it is written as a chunk
abbrev pub with_content : Delivery → Progress → Progress
with_content delivery old =
    if ends_in_line_end delivery.text then with_command data_line Data old
    else with_command (last_chunk delivery.text) Content old

-- all RCPTs are answered: the content follows where a place is left, and else the end
abbrev pub after_rcpts : Delivery → Progress → Progress
after_rcpts delivery old =
    if some_accepted (rcpt_replies old.answered) then with_content delivery old else ended_by delivery Later old

-- a reply to MAIL or to a RCPT has come: where nothing waits the next RCPT is written, and after the last one the
-- content
abbrev pub with_next : Delivery → List Awaited → List ℕ → Progress → Progress
with_next delivery (waited ∷ waits) unasked old = old
with_next delivery [] (place ∷ more) old = with_rcpt delivery place more old
with_next delivery [] [] old = after_rcpts delivery old

abbrev pub gone_on : Delivery → Progress → Progress
gone_on delivery old = with_next delivery old.waits old.unasked old

-- MAIL is written, and in one group with it the RCPTs where PIPELINING is offered (RFC 2920, section 3.1)
abbrev pub with_mail : Delivery → Progress → Progress
with_mail delivery old =
    let mail : Progress = with_command (mail_line old.extensions.dsn delivery.envelope) Mail old in
    if old.extensions.pipelining then with_rcpts delivery old.unasked mail else mail

-- the server is greeted: a text that doesn't end in CR LF needs CHUNKING
abbrev pub after_hello : Delivery → Progress → Progress
after_hello delivery old =
    if ends_in_line_end delivery.text then with_mail delivery old
    else (if old.extensions.chunking then with_mail delivery old else ended_by delivery CantSend old)

-- The table: by what waited and by the reply's first digit, what is done.
abbrev pub after_answer : Delivery → Awaited → ReplyKind → Reply → Progress → Progress
after_answer delivery Greeting Completion reply old = with_command (ehlo_line delivery.host) Ehlo old
after_answer delivery Greeting Permanent reply old = ended_by delivery (refusal reply) old
after_answer delivery Greeting _ reply old = ended_by delivery Later old
after_answer delivery Ehlo Completion reply old = after_hello delivery (record old { extensions = extensions_of reply })
after_answer delivery Ehlo Permanent reply old = with_command (helo_line delivery.host) Helo old
after_answer delivery Ehlo _ reply old = ended_by delivery Later old
after_answer delivery Helo Completion reply old = after_hello delivery old
after_answer delivery Helo Permanent reply old = ended_by delivery (refusal reply) old
after_answer delivery Helo _ reply old = ended_by delivery Later old
after_answer delivery Mail Completion reply old = gone_on delivery old
after_answer delivery Mail Permanent reply old = ended_by delivery (refusal reply) old
after_answer delivery Mail _ reply old = ended_by delivery Later old
after_answer delivery (Rcpt place) _ reply old = gone_on delivery old
after_answer delivery Data Intermediate reply old = with_command delivery.dot_text Content old
after_answer delivery Data Permanent reply old = ended_by delivery (refusal reply) old
after_answer delivery Data _ reply old = ended_by delivery Later old
after_answer delivery Content kind reply old =
    ended_by delivery (content_verdict_by old.extensions.dsn kind reply) old

-- a connection is there, and its greeting is awaited
abbrev pub at_greeting : Delivery → Progress
at_greeting delivery = record {
  commands = [];
  waits = Greeting ∷ [];
  unasked = delivery.places;
  extensions = no_extensions;
  answered = [];
  verdicts = None;
}

-- the reply answers what waits first; after the end it answers nothing
abbrev pub with_answer : Delivery → List Awaited → Reply → Progress → Progress
with_answer delivery [] reply old = old
with_answer delivery (waited ∷ waits) reply old =
    after_answer delivery waited (kind_of reply.code) reply
    (record old { waits = waits; answered = old.answered ++ answer_of waited reply ∷ [] })

abbrev pub after_reply : Delivery → Progress → Reply → Progress
after_reply delivery old reply = with_answer delivery old.waits reply old

abbrev pub after_replies : Delivery → Progress → List Reply → Progress
after_replies delivery old [] = old
after_replies delivery old (reply ∷ replies) = after_replies delivery (after_reply delivery old reply) replies

-- how far an attempt has come after these replies
abbrev pub progress : Delivery → List Reply → Progress
progress delivery replies = after_replies delivery (at_greeting delivery) replies
