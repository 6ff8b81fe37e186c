-- Replies: each is well formed, and tells what became of a content.
use Rattle.std.proofs.Common.{◌≡◌, ℕ, ◌^◌, ◌<◌, ◌≤◌, Bool, true, false, ◌||◌, ◌==◌, nat_le, is_some, if◌then◌else◌, List, [], ◌∷◌, ◌++◌, codes, decimal, length, Option, Some, None, Result, Ok, Err, inl, inr, refl, sym, subst, ap, ◌∙◌, arith, length-append}
use Rattle.std.specs.List.{AllByRecursion}
use Rattle.std.proofs.lemmas.List.Folds.{list_any-append}
use Rattle.relay_lines.specs.Command as line
use Rattle.relay_lines.specs.Command.{reading_of}
use Rattle.relay_lines.specs.ChunkArgument.{begins_with_bdat}
use Rattle.relay_lines.specs.Reply.{Reply, IsReply, one_line}
use Rattle.relay_lines.specs.declared.command.LineFault.{LineFault}
use Rattle.relay_lines.specs.declared.command.LineFault.TheVariants as fault
use Rattle.relay_envelope.specs.declared.envelope.Envelope.{Envelope}
use Rattle.relay_envelope.specs.declared.fault.EnvelopeFault.{EnvelopeFault}
use Rattle.relay_envelope.specs.declared.fault.EnvelopeFault.TheVariants as envelope_fault
use Rattle.relay_envelope.specs.Mail.{Mail as MailSaid, Rcpt as RcptSaid}
use Rattle.relay_envelope.specs.Mailbox.{stands_in}
use Rattle.relay_trace.specs.HeaderSection.{received_count_of}
use Rattle.relay_trace.specs.declared.received.Protocol.{Protocol}
use Rattle.relay_trace.specs.declared.received.Protocol.TheVariants.{Smtp, Esmtp}
use Rattle.relay_server.specs.declared.client.Client.{Client}
use Rattle.relay_server.specs.declared.offer.Answer.{Answer}
use Rattle.relay_server.specs.declared.offer.Answer.TheVariants as answer
use Rattle.relay_server.specs.declared.reply_table.Row.{Row}
use Rattle.relay_server.specs.declared.reply_table.Row.TheVariants.{Greeting, Hello, Extensions, SenderOk, RecipientOk, TooManyRecipients, RoutedAddress, NoRoute, BadSequence, NoValidRecipients, StartMailInput, ChunkOk, ContentTooLarge, TooManyReceived, BareLineEnd, NulInContent, Queued, SpoolFull, Done, NotVerified, SeeStandard, Closing, UnknownCommand, BadOctet, LineTooLong, BadArgument, BadPath, BadValue, Repeated, UnknownParameter, NotOffered, BadChunkSize}
use Rattle.relay_envelope.specs.HostName.{IsHostName, is_host_octet}
use Rattle.relay_server.specs.Dialogue.{Offered, Turn, Answers, Comes, Takes, Turns, answers_in, answered_by, row_of_answer}
use Rattle.relay_server.specs.DialogueLaws.{AreNumbered, IsNumbered, OnlyContentIsOffered, OnlyQueuedIsPositive, RepliesAreWellFormed}
use Rattle.relay_server.specs.Reply.{reply_of}
use Rattle.relay_routes.specs.declared.bare_newlines.BareNewlines.{BareNewlines}
use Rattle.relay_routes.specs.declared.bare_newlines.BareNewlines.TheVariants.{Pass, Refuse}
use Rattle.relay_routes.specs.RoutedPath.{refuses_path}
use Rattle.relay_body.specs.BareEnds.{has_bare_end}
use Rattle.relay_body.specs.Nul.{has_nul}
use Rattle.relay_server.specs.ReplyTable.{offer_unless, refusal_by, unless_refused, Course, Replies, Offers, row_of_envelope_fault, row_of_fault, row_of_hello, course_of, course_of_bdat, course_of_chunks, course_of_content, course_of_data, course_of_mail, course_of_rcpt, course_of_text}
use Rattle.relay_routes.specs.Routes.{hop_of}
use Rattle.relay_server.specs.Setup.{Setup}
use Rattle.relay_server.specs.State.{CommandState, Fresh, Greeted, Open, Gathering, Spent, State, Command, Receiving, Closed}
use Rattle.relay_server.specs.Unit as unit
use Rattle.relay_server.specs.Unit.{Asked, LongLine, Faulty, Mail, Rcpt, Data, Bdat, Rset, Noop, Vrfy, Help, Quit, Asks, AsksBy}
use Rattle.relay_server.proofs.BeginningLemmas.{numbered_parts}
use Rattle.relay_server.proofs.OctetLemmas.{lacks_by_test}
use Rattle.relay_server.proofs.ReplyTextLemmas.{decimal_lacks_cr, no_crlf_without_cr, short_decimal}
use Rattle.relay_server.proofs.UnitLemmas.{one_command_unit}

-- a line without a CR makes a reply
line_is_reply : (code : ℕ) (text : List ℕ) → 200 ≤ code → code < 600 → stands_in 13 text ≡ false → length text ≤ 2042 → IsReply (one_line code text)
line_is_reply code text low high none short = record {
  code_is = record { low = low; high = high };
  some_line = omega arith;
  few_lines = omega arith;
  each = (record { line = no_crlf_without_cr text none; short = short }, tt);
}

-- a host name, and what stands after it
name_is_reply : (code : ℕ) (host more : List ℕ) → 200 ≤ code → code < 600 → IsHostName host → stands_in 13 more ≡ false → length more ≤ 1000 → IsReply (one_line code (host ++ more))
name_is_reply code host more low high name none short =
    let lacks = lacks_by_test is_host_octet 13 host refl name.octets in
    let sum = length-append host more in
    let few = name.few_octets in
    line_is_reply code (host ++ more) low high (list_any-append (λ other. other == 13) host more ∙ ap (λ b. b || stands_in 13 more) lacks ∙ none) (omega arith)

-- the number of a row is one of 64 bits
abbrev IsNumberedRow : Row → Type 0
IsNumberedRow (Queued number) = number < 2 ^ 64
IsNumberedRow _ = Unit {0}

row_is_reply : (host : List ℕ) (row : Row) → IsHostName host → IsNumberedRow row → IsReply (reply_of host row)
unfolding reply_of
row_is_reply host Greeting name h = name_is_reply 220 host (codes " ESMTP relay ready") (omega arith) (omega arith) name refl (omega arith)
row_is_reply host Hello name h =
    let few = name.few_octets in
    line_is_reply 250 host (omega arith) (omega arith) (lacks_by_test is_host_octet 13 host refl name.octets) (omega arith)
row_is_reply host Extensions name h =
    let few = name.few_octets in
    record {
      code_is = record { low = omega arith; high = omega arith };
      some_line = omega arith;
      few_lines = omega arith;
      each = (
        record { line = no_crlf_without_cr host (lacks_by_test is_host_octet 13 host refl name.octets); short = omega arith },
        (
          record { line = no_crlf_without_cr (codes "PIPELINING") refl; short = omega arith },
          (
            record { line = no_crlf_without_cr (codes "CHUNKING") refl; short = omega arith },
            (record { line = no_crlf_without_cr (codes "DSN") refl; short = omega arith }, tt),
          ),
        ),
      );
    }
row_is_reply host SenderOk name h = line_is_reply 250 (codes "sender OK") (omega arith) (omega arith) refl (omega arith)
row_is_reply host RecipientOk name h = line_is_reply 250 (codes "recipient OK") (omega arith) (omega arith) refl (omega arith)
row_is_reply host TooManyRecipients name h = line_is_reply 452 (codes "too many recipients") (omega arith) (omega arith) refl (omega arith)
row_is_reply host RoutedAddress name h = line_is_reply 553 (codes "routed address refused") (omega arith) (omega arith) refl (omega arith)
row_is_reply host NoRoute name h = line_is_reply 550 (codes "no route") (omega arith) (omega arith) refl (omega arith)
row_is_reply host BadSequence name h = line_is_reply 503 (codes "bad sequence") (omega arith) (omega arith) refl (omega arith)
row_is_reply host NoValidRecipients name h = line_is_reply 554 (codes "no valid recipients") (omega arith) (omega arith) refl (omega arith)
row_is_reply host StartMailInput name h = line_is_reply 354 (codes "end with a line of one period") (omega arith) (omega arith) refl (omega arith)
row_is_reply host ChunkOk name h = line_is_reply 250 (codes "chunk OK") (omega arith) (omega arith) refl (omega arith)
row_is_reply host TooManyReceived name h = line_is_reply 554 (codes "too many Received fields") (omega arith) (omega arith) refl (omega arith)
row_is_reply host BareLineEnd name h = line_is_reply 554 (codes "bare line end in content") (omega arith) (omega arith) refl (omega arith)
row_is_reply host NulInContent name h = line_is_reply 554 (codes "NUL in content") (omega arith) (omega arith) refl (omega arith)
row_is_reply host BadChunkSize name h = name_is_reply 421 host (codes " bad chunk size, closing") (omega arith) (omega arith) name refl (omega arith)
row_is_reply host ContentTooLarge name h = line_is_reply 552 (codes "content too large") (omega arith) (omega arith) refl (omega arith)
row_is_reply host (Queued number) name h =
    let short = short_decimal number h in
    let sum = length-append (codes "queued as ") (decimal number) in
    line_is_reply 250 (codes "queued as " ++ decimal number) (omega arith) (omega arith) (decimal_lacks_cr number) (omega (arith, sum, short))
row_is_reply host SpoolFull name h = line_is_reply 452 (codes "spool full") (omega arith) (omega arith) refl (omega arith)
row_is_reply host Done name h = line_is_reply 250 (codes "OK") (omega arith) (omega arith) refl (omega arith)
row_is_reply host NotVerified name h = line_is_reply 252 (codes "not verified") (omega arith) (omega arith) refl (omega arith)
row_is_reply host SeeStandard name h = line_is_reply 214 (codes "see RFC 5321") (omega arith) (omega arith) refl (omega arith)
row_is_reply host Closing name h = name_is_reply 221 host (codes " closing") (omega arith) (omega arith) name refl (omega arith)
row_is_reply host UnknownCommand name h = line_is_reply 500 (codes "unknown command") (omega arith) (omega arith) refl (omega arith)
row_is_reply host BadOctet name h = line_is_reply 500 (codes "bad octet in line") (omega arith) (omega arith) refl (omega arith)
row_is_reply host LineTooLong name h = line_is_reply 500 (codes "line too long") (omega arith) (omega arith) refl (omega arith)
row_is_reply host BadArgument name h = line_is_reply 501 (codes "bad argument") (omega arith) (omega arith) refl (omega arith)
row_is_reply host BadPath name h = line_is_reply 501 (codes "bad path") (omega arith) (omega arith) refl (omega arith)
row_is_reply host BadValue name h = line_is_reply 501 (codes "bad parameter value") (omega arith) (omega arith) refl (omega arith)
row_is_reply host Repeated name h = line_is_reply 501 (codes "parameter given twice") (omega arith) (omega arith) refl (omega arith)
row_is_reply host NotOffered name h = line_is_reply 502 (codes "not implemented") (omega arith) (omega arith) refl (omega arith)
row_is_reply host UnknownParameter name h = line_is_reply 555 (codes "unknown parameter") (omega arith) (omega arith) refl (omega arith)

-- the row of a course is no number, and only LAST ends in an offer
abbrev MayCome : Bool → Course → Type 0
MayCome last (Replies row next) = IsNumberedRow row
MayCome last (Offers client envelope content) = last ≡ true

-- of two courses
chosen_course : (last b : Bool) (one two : Course) → MayCome last one → MayCome last two → MayCome last (if b then one else two)
chosen_course last true one two h k = h
chosen_course last false one two h k = k

fault_row : (which : LineFault) → IsNumberedRow (row_of_fault which)
fault_row fault.Unknown = tt
fault_row fault.BadByte = tt
fault_row fault.BadArgument = tt
fault_row fault.NotOffered = tt
fault_row fault.BadChunkSize = tt

envelope_fault_row : (which : EnvelopeFault) → IsNumberedRow (row_of_envelope_fault which)
envelope_fault_row envelope_fault.BadPath = tt
envelope_fault_row envelope_fault.BadValue = tt
envelope_fault_row envelope_fault.Repeated = tt
envelope_fault_row envelope_fault.UnknownParameter = tt

hello_row : (protocol : Protocol) → IsNumberedRow (row_of_hello protocol)
hello_row Smtp = tt
hello_row Esmtp = tt

mail_course : (mail : Result MailSaid EnvelopeFault) (state : CommandState) → MayCome false (course_of_mail mail state)
mail_course (Err which) state = envelope_fault_row which
mail_course (Ok mail) Fresh = tt
mail_course (Ok mail) (Greeted client) = tt
mail_course (Ok mail) (Open client envelope) = tt
mail_course (Ok mail) (Gathering client envelope content) = tt
mail_course (Ok mail) (Spent client) = tt

rcpt_course : (setup : Setup) (rcpt : Result RcptSaid EnvelopeFault) (state : CommandState) → MayCome false (course_of_rcpt setup rcpt state)
rcpt_course setup (Err which) state = envelope_fault_row which
rcpt_course setup (Ok rcpt) Fresh = tt
rcpt_course setup (Ok rcpt) (Greeted client) = tt
rcpt_course setup (Ok rcpt) (Open client envelope) =
    chosen_course false (nat_le 100 (length envelope.recipients)) _ _ tt
    (chosen_course false (refuses_path setup.routed_paths rcpt.path) _ _ tt (chosen_course false (is_some (hop_of setup.routes rcpt.path)) _ _ tt tt))
rcpt_course setup (Ok rcpt) (Gathering client envelope content) = tt
rcpt_course setup (Ok rcpt) (Spent client) = tt

data_course : (state : CommandState) → MayCome false (course_of_data state)
data_course Fresh = tt
data_course (Greeted client) = tt
data_course (Open client envelope) = chosen_course false (nat_le 1 (length envelope.recipients)) _ _ tt tt
data_course (Gathering client envelope content) = tt
data_course (Spent client) = tt

content_course : (client : Client) (envelope : Envelope) (content : List ℕ) → MayCome true (course_of_content client envelope content)
content_course client envelope content = chosen_course true (nat_le 100 (received_count_of content)) _ _ tt refl

text_course : (limit : ℕ) (client : Client) (envelope : Envelope) (content : List ℕ) → MayCome true (course_of_text limit client envelope content)
text_course limit client envelope content =
    chosen_course true (nat_le (length content) limit) _ _ (content_course client envelope content) tt

last_course : (last : Bool) (client : Client) (envelope : Envelope) (content : List ℕ) → MayCome last (if last then course_of_content client envelope content else Replies ChunkOk (Command (Gathering client envelope content)))
last_course true client envelope content = content_course client envelope content
last_course false client envelope content = tt

chunks_course : (limit : ℕ) (client : Client) (envelope : Envelope) (content : List ℕ) (last : Bool) → MayCome last (course_of_chunks limit client envelope content last)
chunks_course limit client envelope content last =
    chosen_course last (nat_le (length content) limit) _ _ (last_course last client envelope content) tt

pub bdat_course : (limit : ℕ) (octets : List ℕ) (last : Bool) (state : CommandState) → MayCome last (course_of_bdat limit octets last state)
bdat_course limit octets last Fresh = tt
bdat_course limit octets last (Greeted client) = tt
bdat_course limit octets last (Open client envelope) =
    chosen_course last (nat_le 1 (length envelope.recipients)) _ _ (chunks_course limit client envelope octets last) tt
bdat_course limit octets last (Gathering client envelope content) =
    chunks_course limit client envelope (content ++ octets) last
bdat_course limit octets last (Spent client) = tt

-- what holds without a refusal, and of each row that refuses, holds of what the rule says
by_refusal : (P : Option Row → Type 0) → P None → P (Some BareLineEnd) → P (Some NulInContent) → (rule : BareNewlines) (content : List ℕ) → P (refusal_by rule content)
by_refusal P none bare nul Pass content = none
by_refusal P none bare nul Refuse content = by (has_bare_end content) (has_nul content)
  where
    by : (is_bare has : Bool) → P (if is_bare then Some BareLineEnd else (if has then Some NulInContent else None))
    by true has = bare
    by false true = nul
    by false false = none

-- a content that is refused is answered by a row that is no number
refused_course : (last : Bool) (rule : BareNewlines) (course : Course) → MayCome last course → MayCome last (unless_refused rule course)
refused_course last rule (Replies row next) may = may
refused_course last rule (Offers client envelope content) may =
    by_refusal (λ refusal. MayCome last (offer_unless refusal client envelope content)) may tt tt rule content

-- what a line asks that ends a content
abbrev ends_content : Asked → Bool
ends_content (Bdat octets last) = last
ends_content _ = false

-- no command line is answered by a number, and only a last chunk ends in an offer
line_course : (setup : Setup) (asked : Asked) (state : CommandState) → MayCome (ends_content asked) (course_of setup asked state)
line_course setup LongLine state = tt
line_course setup (Faulty which) state = fault_row which
line_course setup (unit.Hello client) state = hello_row client.protocol
line_course setup (Mail mail) state = mail_course mail state
line_course setup (Rcpt rcpt) state = rcpt_course setup rcpt state
line_course setup Data state = data_course state
line_course setup (Bdat octets last) state =
    refused_course last setup.bare_newlines (course_of_bdat setup.max_content octets last state) (bdat_course setup.max_content octets last state)
line_course setup Rset state = tt
line_course setup Noop state = tt
line_course setup Vrfy state = tt
line_course setup Help state = tt
line_course setup Quit state = tt

answer_row : (given : Answer) → IsNumbered given → IsNumberedRow (row_of_answer given)
answer_row (answer.Queued number) h = h
answer_row answer.Full h = tt

-- the row of what comes of a unit
comes_may : (setup : Setup) (old : State) (asked : List ℕ) (course : Course) → Comes setup old asked course → (last : Bool) × MayCome last course
comes_may setup (Command state) asked course comes =
    let last = ends_content comes.what in
    (last, subst (λ (c : Course). MayCome last c) (sym comes.course_is) (line_course setup comes.what state))
comes_may setup (Receiving client envelope) asked course comes = (
  true,
  subst (λ (c : Course). MayCome true c) (sym comes.course_is)
      (refused_course true setup.bare_newlines (course_of_text setup.max_content client envelope comes.content) (text_course setup.max_content client envelope comes.content)),
)
comes_may setup Closed asked course comes = absurd comes

-- the reply of a course
taken_is_reply : (host : List ℕ) (course : Course) (turn : Turn) (new : State) (last : Bool) → IsHostName host → MayCome last course → Takes host course turn new → AreNumbered (answers_in turn.offer) → IsReply turn.reply
taken_is_reply host (Replies row next) turn new last name may takes h =
    subst IsReply (sym takes.0) (row_is_reply host row name may)
taken_is_reply host (Offers client envelope content) turn new last name may takes h =
    let number = subst (λ o. AreNumbered (answers_in o)) takes.2 h in
    subst IsReply (sym takes.1) (row_is_reply host (row_of_answer takes.0) name (answer_row takes.0 number.0))

-- the reply of a turn
turn_is_reply : (setup : Setup) (old new : State) (turn : Turn) → IsHostName setup.host → Answers setup old turn new → AreNumbered (answers_in turn.offer) → IsReply turn.reply
turn_is_reply setup old new turn name is h =
    let may = comes_may setup old turn.asked is.course is.comes in
    taken_is_reply setup.host is.course turn new may.0 name may.1 is.takes h

-- the replies of all turns
turns_are_replies : (setup : Setup) (old new : State) (turns : List Turn) → IsHostName setup.host → Turns setup old turns new → AreNumbered (answered_by turns) → AllByRecursion (λ (turn : Turn). IsReply turn.reply) turns
turns_are_replies setup old new [] name runs h = tt
turns_are_replies setup old new (turn ∷ turns) name runs h =
    let parts = numbered_parts (answers_in turn.offer) (answered_by turns) h in (
      turn_is_reply setup old runs.0 turn name runs.1 parts.0,
      turns_are_replies setup runs.0 new turns name runs.2 parts.1,
    )

pub replies_are_well_formed : RepliesAreWellFormed
replies_are_well_formed setup name = (
  row_is_reply setup.host Greeting name tt,
  λ old new turns runs h. turns_are_replies setup old new turns name runs h,
)

-- a course that isn't an offer, where its unit ends a content, is refused by a code of three hundred at least
abbrev IsRefused : List ℕ → Course → Type 0
IsRefused host (Replies row next) = 300 ≤ (reply_of host row).code
IsRefused host (Offers client envelope content) = Unit {0}

chosen_refused : (host : List ℕ) (b : Bool) (one two : Course) → IsRefused host one → IsRefused host two → IsRefused host (if b then one else two)
chosen_refused host true one two h k = h
chosen_refused host false one two h k = k

content_refused : (host : List ℕ) (client : Client) (envelope : Envelope) (content : List ℕ) → IsRefused host (course_of_content client envelope content)
unfolding reply_of
content_refused host client envelope content =
    chosen_refused host (nat_le 100 (received_count_of content)) (Replies TooManyReceived (Command (Greeted client))) (Offers client envelope content) (omega arith) tt

text_refused : (host : List ℕ) (limit : ℕ) (client : Client) (envelope : Envelope) (content : List ℕ) → IsRefused host (course_of_text limit client envelope content)
unfolding reply_of
text_refused host limit client envelope content =
    chosen_refused host (nat_le (length content) limit) (course_of_content client envelope content) (Replies ContentTooLarge (Command (Greeted client))) (content_refused host client envelope content) (omega arith)

chunks_refused : (host : List ℕ) (limit : ℕ) (client : Client) (envelope : Envelope) (content : List ℕ) → IsRefused host (course_of_chunks limit client envelope content true)
unfolding reply_of
chunks_refused host limit client envelope content =
    chosen_refused host (nat_le (length content) limit) (course_of_content client envelope content) (Replies ContentTooLarge (Command (Spent client))) (content_refused host client envelope content) (omega arith)

bdat_refused : (host : List ℕ) (limit : ℕ) (octets : List ℕ) (state : CommandState) → IsRefused host (course_of_bdat limit octets true state)
unfolding reply_of
bdat_refused host limit octets Fresh = omega arith
bdat_refused host limit octets (Greeted client) = omega arith
bdat_refused host limit octets (Open client envelope) =
    chosen_refused host (nat_le 1 (length envelope.recipients)) (course_of_chunks limit client envelope octets true) (Replies NoValidRecipients (Command (Spent client))) (chunks_refused host limit client envelope octets) (omega arith)
bdat_refused host limit octets (Gathering client envelope content) =
    chunks_refused host limit client envelope (content ++ octets)
bdat_refused host limit octets (Spent client) = omega arith

unless_is_refused : (host : List ℕ) (rule : BareNewlines) (course : Course) → IsRefused host course → IsRefused host (unless_refused rule course)
unfolding reply_of
unless_is_refused host rule (Replies row next) refused = refused
unless_is_refused host rule (Offers client envelope content) refused =
    by_refusal (λ refusal. IsRefused host (offer_unless refusal client envelope content)) tt (omega arith) (omega arith) rule content

-- the answer of a positive reply
positive_is_queued : (host : List ℕ) (given : Answer) (reply : Reply) → reply ≡ reply_of host (row_of_answer given) → reply.code < 300 → (number : ℕ) × (given ≡ answer.Queued number)
unfolding reply_of
positive_is_queued host (answer.Queued number) reply e high = (number, refl)
positive_is_queued host answer.Full reply e high =
    let code : reply.code ≡ 452 = ap (λ (r : Reply). r.code) e in
    absurd (omega arith)

positive_course : (host : List ℕ) (course : Course) (turn : Turn) (new : State) → IsRefused host course → Takes host course turn new → turn.reply.code < 300 → (number : ℕ) × (answers_in turn.offer ≡ answer.Queued number ∷ [])
positive_course host (Replies row next) turn new refused takes high =
    let code = ap (λ (r : Reply). r.code) takes.0 in
    absurd (omega (arith, code, refused, high))
positive_course host (Offers client envelope content) turn new refused takes high =
    let queued = positive_is_queued host takes.0 turn.reply takes.1 high in
    (queued.0, ap answers_in takes.2 ∙ ap (λ given. given ∷ []) queued.1)

-- the unit of a last chunk asks for nothing else
last_asked : (text octets : List ℕ) (size : ℕ) (asked : Asked) → length text ≤ 2046 → reading_of text ≡ Ok (line.Bdat (record { size = size; last = true })) → Asks text octets asked → asked ≡ Bdat octets true
last_asked text octets size asked short reads (inl long) = absurd (omega (arith, short))
last_asked text octets size asked short reads (inr asks) = subst (λ reading. AsksBy reading octets asked) reads asks.1

pub only_queued_is_positive : OnlyQueuedIsPositive
only_queued_is_positive setup (Command state) new turn is ends low high =
    let unit_is = ends.3 in
    let comes = is.comes in
    let same = one_command_unit turn.asked turn.asked [] [] comes.text comes.octets ends.0 ends.1 comes.is_unit ends.3 refl in
    let asks = subst (λ (t : List ℕ). Asks t comes.octets comes.what) same.0 comes.asks in
    let what = last_asked ends.0 comes.octets ends.2 comes.what ends.4 ends.5 asks in
    let course = comes.course_is ∙ ap (λ w. course_of setup w state) what in
    positive_course setup.host is.course turn new (subst (IsRefused setup.host) (sym course)
    (unless_is_refused setup.host setup.bare_newlines (course_of_bdat setup.max_content comes.octets true state) (bdat_refused setup.host setup.max_content comes.octets state))) is.takes high
only_queued_is_positive setup (Receiving client envelope) new turn is ends low high =
    positive_course setup.host is.course turn new (subst (IsRefused setup.host) (sym is.comes.course_is)
    (unless_is_refused setup.host setup.bare_newlines (course_of_text setup.max_content client envelope is.comes.content) (text_refused setup.host setup.max_content client envelope is.comes.content))) is.takes high
only_queued_is_positive setup Closed new turn is ends low high = absurd is.comes

-- what asks for the end of a content is BDAT with LAST
ending_asked : (asked : Asked) → ends_content asked ≡ true → (octets : List ℕ) × (asked ≡ Bdat octets true)
ending_asked LongLine e = absurd (cc)
ending_asked (Faulty which) e = absurd (cc)
ending_asked (unit.Hello client) e = absurd (cc)
ending_asked (Mail mail) e = absurd (cc)
ending_asked (Rcpt rcpt) e = absurd (cc)
ending_asked Data e = absurd (cc)
ending_asked (Bdat octets last) e = (octets, ap (λ l. Bdat octets l) e)
ending_asked Rset e = absurd (cc)
ending_asked Noop e = absurd (cc)
ending_asked Vrfy e = absurd (cc)
ending_asked Help e = absurd (cc)
ending_asked Quit e = absurd (cc)

-- only a line of BDAT asks for a chunk
last_reading : (reading : Result line.Command LineFault) (octets more : List ℕ) → AsksBy reading octets (Bdat more true) → (size : ℕ) × (reading ≡ Ok (line.Bdat (record { size = size; last = true })))
last_reading (Err fault) octets more asks = absurd (cc)
last_reading (Ok (line.Helo word)) octets more asks = absurd (cc)
last_reading (Ok (line.Ehlo word)) octets more asks = absurd (cc)
last_reading (Ok (line.Mail text)) octets more asks = let e = asks.2 in absurd (cc)
last_reading (Ok (line.Rcpt text)) octets more asks = let e = asks.2 in absurd (cc)
last_reading (Ok line.Data) octets more asks = absurd (cc)
last_reading (Ok (line.Bdat argument)) octets more asks =
    let last : argument.last ≡ true = cc in
    (argument.size, ap (λ l. Ok (line.Bdat (record { size = argument.size; last = l }))) last)
last_reading (Ok line.Rset) octets more asks = absurd (cc)
last_reading (Ok line.Noop) octets more asks = absurd (cc)
last_reading (Ok line.Vrfy) octets more asks = absurd (cc)
last_reading (Ok line.Help) octets more asks = absurd (cc)
last_reading (Ok line.Quit) octets more asks = absurd (cc)

-- a long line asks for no chunk
long_asks_none : (b : Bool) (more : List ℕ) → Bdat more true ≡ (if b then Faulty fault.BadChunkSize else LongLine) → ⊥
long_asks_none true more e = cc
long_asks_none false more e = cc

last_asks : (text octets more : List ℕ) → Asks text octets (Bdat more true) → (size : ℕ) × (length text ≤ 2046) × (reading_of text ≡ Ok (line.Bdat (record { size = size; last = true })))
last_asks text octets more (inl long) = absurd (long_asks_none (begins_with_bdat text) more long.1)
last_asks text octets more (inr asks) =
    let reading = last_reading (reading_of text) octets more asks.1 in
    (reading.0, asks.0, reading.1)

-- a course that answers an offer is one
taken_offer : (host : List ℕ) (course : Course) (turn : Turn) (new : State) (last : Bool) (offer : Offered) (given : Answer) → MayCome last course → Takes host course turn new → turn.offer ≡ Some (offer, given) → last ≡ true
taken_offer host (Replies row next) turn new last offer given may takes e = absurd (let clash = sym takes.1 ∙ e in cc)
taken_offer host (Offers client envelope content) turn new last offer given may takes e = may

pub only_content_is_offered : OnlyContentIsOffered
only_content_is_offered setup (Command state) new turn offer given is e =
    let comes = is.comes in
    let may = subst (λ (c : Course). MayCome (ends_content comes.what) c) (sym comes.course_is) (line_course setup comes.what state) in
    let asked = ending_asked comes.what (taken_offer setup.host is.course turn new (ends_content comes.what) offer given may is.takes e) in
    let last = last_asks comes.text comes.octets asked.0 (subst (λ (a : Asked). Asks comes.text comes.octets a) asked.1 comes.asks) in
    (comes.text, comes.octets, last.0, comes.is_unit, last.1, last.2)
only_content_is_offered setup (Receiving client envelope) new turn offer given is e = tt
only_content_is_offered setup Closed new turn offer given is e = absurd is.comes
