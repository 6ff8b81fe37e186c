-- The script is what the server makes of the commands.
use Rattle.std.proofs.Common.{◌≡◌, ◌≤◌, ◌<◌, ◌^◌, ◌+◌, ℕ, nat_le, Bool, true, false, MatchBool, List, [], ◌∷◌, ◌++◌, length, is_some, Option, None, Some, Ok, Result, inr, refl, sym, ap, ◌∙◌, subst, cond, arith, append-nil}
use Rattle.std.proofs.lemmas.List.{length-append}
use Rattle.std.proofs.lemmas.Bool.{le-leb, lt-leb}
use Rattle.relay_octets.specs.Line.{line_text}
use Rattle.relay_lines.specs.Command.{Command, Mail, Rcpt, Ehlo, Data, Quit, Bdat}
use Rattle.relay_lines.specs.Command.{reading_of}
use Rattle.relay_lines.specs.declared.command.LineFault.{LineFault}
use Rattle.relay_lines.specs.WrittenCommand.{IsCommandLine, written_command}
use Rattle.relay_lines.proofs.Theorems.{written_command_is_read}
use Rattle.relay_body.specs.DotText.{WritesDotText, ends_in_line_end}
use Rattle.relay_body.proofs.Theorems.{written_is_read}
use Rattle.relay_envelope.specs.declared.envelope.Envelope.{Envelope}
use Rattle.relay_envelope.specs.declared.envelope.Recipient.{Recipient}
use Rattle.relay_envelope.specs.Envelope.{IsEnvelope, envelope_from, mail_text, rcpt_text, recipient_from}
use Rattle.relay_envelope.proofs.Theorems.{mail_is_command_line, mail_is_read_again, rcpt_is_command_line}
use Rattle.relay_routes.specs.RoutedPath.{refuses_path}
use Rattle.relay_routes.specs.Routes.{hop_of}
use Rattle.relay_trace.specs.HeaderSection.{received_count_of}
use Rattle.relay_server.specs.declared.client.Client.{Client}
use Rattle.relay_server.specs.declared.reply_table.Row.{Row}
use Rattle.relay_server.specs.declared.reply_table.Row.TheVariants as row
use Rattle.relay_server.specs.Dialogue.{Comes}
use Rattle.relay_routes.specs.declared.bare_newlines.BareNewlines.{BareNewlines}
use Rattle.relay_server.specs.ReplyTable.{Course, Replies, Offers, course_of, course_of_chunks, offer_unless, refusal_by, unless_refused}
use Rattle.relay_server.specs.Setup.{Setup}
use Rattle.relay_server.specs.State.{CommandState, Fresh, Greeted, Open, Spent, State, Command as Awaits, Receiving, Closed}
use Rattle.relay_server.specs.Unit.{Asked, AsksBy, announced_by, announced_of}
use Rattle.relay_server.specs.Unit as asked
use Rattle.relay_course.specs.WrittenLine.{ehlo_line, mail_line, rcpt_line, data_line, last_chunk, quit_line}
use Rattle.relay_course.specs.Progress.{Delivery}
use Rattle.relay_meeting.specs.Meeting.{IsScript, step_of, state_after}
use Rattle.relay_course.specs.Laws.{IsDelivery}
use Rattle.relay_meeting.specs.Script.{Tried, course_of_last_chunk, course_of_mail_data, row_of_rcpt, with_tried, quit_step, content_steps, rcpt_steps, opened_of, client_in, AreTried, IsTried, ScriptIsServers}

announces_none : (b : Bool) (n : ℕ) → n ≡ 0 → 0 ≡ cond b n 0
announces_none true n e = sym e
announces_none false n e = refl

-- a line comes that announces nothing
line_comes : (setup : Setup) (old : CommandState) (line : List ℕ) (command : Command) (what : Asked)
    → IsCommandLine line command → announced_by (Ok command) ≡ 0 → AsksBy (Ok command) [] what
    → Comes setup (Awaits old) (line_text line) (course_of setup what old)
line_comes setup old line command what is none asks =
    let short : length line ≤ 2046 = omega (arith, is.short) in
    record {
      text = line;
      octets = [];
      what = what;
      is_unit = record {
        unit_is = sym (append-nil (line_text line));
        line = is.has_no_crlf;
        counted = announces_none (nat_le (length line) 2046) (announced_by (reading_of line))
            (ap announced_by is.is_read ∙ none);
      };
      asks = inr (short, subst (λ (r : Result Command LineFault). AsksBy r [] what) (sym is.is_read) asks);
      course_is = refl;
    }

comes_as : (setup : Setup) (old : State) (unit : List ℕ) (course other : Course) → course ≡ other
    → Comes setup old unit course → Comes setup old unit other
comes_as setup old unit course other e comes = subst (λ (c : Course). Comes setup old unit c) e comes

quit_comes : (setup : Setup) (old : CommandState)
    → Comes setup (Awaits old) quit_line (Replies row.Closing Closed)
quit_comes setup old =
    line_comes setup old (written_command Quit) Quit asked.Quit (written_command_is_read Quit tt) refl refl

quits : (setup : Setup) (old : CommandState) → IsScript setup (Awaits old) (quit_step ∷ [])
quits setup old = (quit_comes setup old, refl)

ehlo_comes : (setup : Setup) (old : CommandState) (delivery : Delivery) → IsDelivery delivery
    → Comes setup (Awaits old) (ehlo_line delivery.host) (Replies row.Extensions (Awaits (Greeted (client_in delivery))))
ehlo_comes setup old delivery is =
    line_comes setup old (written_command (Ehlo delivery.host)) (Ehlo delivery.host) (asked.Hello (client_in delivery))
    (written_command_is_read (Ehlo delivery.host) is.host) refl refl

mail_comes : (setup : Setup) (client : Client) (envelope : Envelope) → IsEnvelope envelope
    → Comes setup (Awaits (Greeted client)) (mail_line true envelope)
    (Replies row.SenderOk (Awaits (Open client (opened_of envelope))))
mail_comes setup client envelope valid =
    let again = mail_is_read_again envelope valid in
    let text : List ℕ = mail_text envelope in
    comes_as setup (Awaits (Greeted client)) (mail_line true envelope)
    (Replies row.SenderOk (Awaits (Open client (envelope_from again.0))))
    (Replies row.SenderOk (Awaits (Open client (opened_of envelope))))
    (ap (λ (e : Envelope). Replies row.SenderOk (Awaits (Open client e))) again.2)
    (line_comes setup (Greeted client) (written_command (Mail text)) (Mail text) (asked.Mail (Ok again.0))
    (mail_is_command_line envelope valid).0 refl (Ok again.0, again.1, refl))

-- what a RCPT is answered, and the state after it
abbrev after_rcpt : Client → Envelope → Recipient → Bool → Bool → Course
after_rcpt client envelope recipient routed goes =
    Replies (row_of_rcpt routed goes)
    (Awaits (Open client (with_tried envelope (record { recipient = recipient; routed = routed; goes = goes }))))

rcpt_by : (client : Client) (envelope : Envelope) (one two : Recipient) (routed has : Bool) → one ≡ two
    → cond routed (Replies row.RoutedAddress (Awaits (Open client envelope)))
    (cond has (Replies row.RecipientOk (Awaits
    (Open client (record envelope { recipients = envelope.recipients ++ one ∷ [] }))))
    (Replies row.NoRoute (Awaits (Open client envelope))))
    ≡ after_rcpt client envelope two routed (cond routed false has)
rcpt_by client envelope one two true has e = refl
rcpt_by client envelope one two false true e =
    ap (λ (r : Recipient). Replies row.RecipientOk
    (Awaits (Open client (record envelope { recipients = envelope.recipients ++ r ∷ [] })))) e
rcpt_by client envelope one two false false e = refl

rcpt_course : (setup : Setup) (client : Client) (envelope : Envelope) (tried : Tried) (is : IsTried setup tried)
    → length envelope.recipients < 100
    → course_of setup (asked.Rcpt (Ok is.rcpt)) (Open client envelope)
    ≡ Replies (row_of_rcpt tried.routed tried.goes) (Awaits (Open client (with_tried envelope tried)))
rcpt_course setup client envelope tried is few =
    let routed : Bool = refuses_path setup.routed_paths is.rcpt.path in
    let has : Bool = is_some (hop_of setup.routes is.rcpt.path) in
    ap (λ b. cond b (Replies row.TooManyRecipients (Awaits (Open client envelope)))
    (cond routed (Replies row.RoutedAddress (Awaits (Open client envelope)))
    (cond has (Replies row.RecipientOk (Awaits (Open client
    (record envelope { recipients = envelope.recipients ++ recipient_from is.rcpt ∷ [] }))))
    (Replies row.NoRoute (Awaits (Open client envelope)))))) (lt-leb 100 (length envelope.recipients) few)
    ∙ rcpt_by client envelope (recipient_from is.rcpt) tried.recipient routed has is.same
    ∙ ap (λ r. after_rcpt client envelope tried.recipient r (cond r false has)) is.routed
    ∙ ap (λ g. after_rcpt client envelope tried.recipient tried.routed g) is.goes

rcpt_comes : (setup : Setup) (client : Client) (envelope : Envelope) (tried : Tried) → IsTried setup tried
    → length envelope.recipients < 100 → Comes setup (Awaits (Open client envelope)) (rcpt_line true tried.recipient)
    (Replies (row_of_rcpt tried.routed tried.goes) (Awaits (Open client (with_tried envelope tried))))
rcpt_comes setup client envelope tried is few =
    let text : List ℕ = rcpt_text tried.recipient in
    comes_as setup (Awaits (Open client envelope)) (rcpt_line true tried.recipient)
    (course_of setup (asked.Rcpt (Ok is.rcpt)) (Open client envelope))
    (Replies (row_of_rcpt tried.routed tried.goes) (Awaits (Open client (with_tried envelope tried))))
    (rcpt_course setup client envelope tried is few)
    (line_comes setup (Open client envelope) (written_command (Rcpt text)) (Rcpt text) (asked.Rcpt (Ok is.rcpt))
    (rcpt_is_command_line tried.recipient is.valid).0 refl (Ok is.rcpt, is.reads, refl))

data_comes : (setup : Setup) (client : Client) (envelope : Envelope) → nat_le 1 (length envelope.recipients) ≡ true
    → Comes setup (Awaits (Open client envelope)) data_line (Replies row.StartMailInput (Receiving client envelope))
data_comes setup client envelope some =
    comes_as setup (Awaits (Open client envelope)) data_line (course_of setup asked.Data (Open client envelope))
    (Replies row.StartMailInput (Receiving client envelope))
    (ap (λ b. cond b (Replies row.StartMailInput (Receiving client envelope))
    (Replies row.NoValidRecipients (Awaits (Open client envelope)))) some)
    (line_comes setup (Open client envelope) (written_command Data) Data asked.Data (written_command_is_read Data tt) refl refl)

announced : (n size : ℕ) → n ≤ 2046 → size ≡ cond (nat_le n 2046) size 0
announced n size h = ap (λ b. cond b size 0) (sym (le-leb n 2046 h))

chunk_comes : (setup : Setup) (client : Client) (envelope : Envelope) (text : List ℕ) → length text < 2 ^ 32
    → nat_le 1 (length envelope.recipients) ≡ true
    → Comes setup (Awaits (Open client envelope)) (last_chunk text)
    (course_of_last_chunk setup client envelope text)
chunk_comes setup client envelope text short some =
    let command : Command = Bdat (record { size = length text; last = true }) in
    let line : List ℕ = written_command command in
    let is = written_command_is_read command short in
    let few : length line ≤ 2046 = omega (arith, is.short) in
    record {
      text = line;
      octets = text;
      what = asked.Bdat text true;
      is_unit = record {
        unit_is = refl;
        line = is.has_no_crlf;
        counted = announced (length line) (length text) few
            ∙ ap (λ r. cond (nat_le (length line) 2046) (announced_by r) 0) (sym is.is_read);
      };
      asks = inr (few, subst (λ (r : Result Command LineFault). AsksBy r text (asked.Bdat text true)) (sym is.is_read) refl);
      course_is = ap (λ b. unless_refused setup.bare_newlines (cond b (course_of_chunks setup.max_content client envelope text true)
          (Replies row.NoValidRecipients (Awaits (Spent client))))) (sym some);
    }

-- the mail data that is sent after DATA
sent_after : (text dot_text : List ℕ) (test : Bool) → test ≡ true
    → MatchBool test (WritesDotText text dot_text) (dot_text ≡ []) → WritesDotText text dot_text
sent_after text dot_text true e writes = writes
sent_after text dot_text false e writes = absurd (cc)

-- after the content a command is awaited again
offer_after : (client : Client) (envelope : Envelope) (content : List ℕ) (found : Option Row)
    → state_after (offer_unless found client envelope content) ≡ Awaits (Greeted client)
offer_after client envelope content (Some why) = refl
offer_after client envelope content None = refl

content_after : (rule : BareNewlines) (client : Client) (envelope : Envelope) (content : List ℕ) (many : Bool)
    → state_after (unless_refused rule (cond many (Replies row.TooManyReceived (Awaits (Greeted client)))
    (Offers client envelope content))) ≡ Awaits (Greeted client)
content_after rule client envelope content true = refl
content_after rule client envelope content false = offer_after client envelope content (refusal_by rule content)

text_after : (rule : BareNewlines) (client : Client) (envelope : Envelope) (content : List ℕ) (fits many : Bool)
    → state_after (unless_refused rule (cond fits (cond many (Replies row.TooManyReceived (Awaits (Greeted client)))
    (Offers client envelope content)) (Replies row.ContentTooLarge (Awaits (Greeted client))))) ≡ Awaits (Greeted client)
text_after rule client envelope content true many = content_after rule client envelope content many
text_after rule client envelope content false many = refl

chunk_after : (rule : BareNewlines) (client : Client) (envelope : Envelope) (content : List ℕ) (fits many : Bool)
    → (state : CommandState)
    × (state_after (unless_refused rule (cond fits (cond many (Replies row.TooManyReceived (Awaits (Greeted client)))
    (Offers client envelope content)) (Replies row.ContentTooLarge (Awaits (Spent client))))) ≡ Awaits state)
chunk_after rule client envelope content true many = (Greeted client, content_after rule client envelope content many)
chunk_after rule client envelope content false many = (Spent client, refl)

content_script : (setup : Setup) (client : Client) (delivery : Delivery) (envelope : Envelope) (ends : Bool) → IsDelivery delivery
    → nat_le 1 (length envelope.recipients) ≡ true → ends_in_line_end delivery.text ≡ ends
    → IsScript setup (Awaits (Open client envelope))
    (cond ends (step_of data_line (Replies row.StartMailInput (Receiving client envelope)) ∷ step_of delivery.dot_text
    (course_of_mail_data setup client envelope delivery.text) ∷ quit_step ∷ [])
    (step_of (last_chunk delivery.text) (course_of_last_chunk setup client envelope delivery.text) ∷ quit_step
    ∷ []))
content_script setup client delivery envelope true is some e =
    let fits : Bool = nat_le (length delivery.text) setup.max_content in
    let many : Bool = nat_le 100 (received_count_of delivery.text) in (
      data_comes setup client envelope some,
      (
        record {
          content = delivery.text;
          reads = written_is_read delivery.text delivery.dot_text
              (sent_after delivery.text delivery.dot_text (ends_in_line_end delivery.text) e is.dot_text);
          course_is = refl;
        },
        subst (λ (s : State). IsScript setup s (quit_step ∷ [])) (sym (text_after setup.bare_newlines client envelope delivery.text fits many))
            (quits setup (Greeted client)),
      ),
    )
content_script setup client delivery envelope false is some e =
    let fits : Bool = nat_le (length delivery.text) setup.max_content in
    let many : Bool = nat_le 100 (received_count_of delivery.text) in
    let after = chunk_after setup.bare_newlines client envelope delivery.text fits many in (
      chunk_comes setup client envelope delivery.text is.short some,
      subst (λ (s : State). IsScript setup s (quit_step ∷ [])) (sym after.1) (quits setup after.0),
    )

last_script : (setup : Setup) (client : Client) (delivery : Delivery) (envelope : Envelope) (some : Bool) → IsDelivery delivery
    → nat_le 1 (length envelope.recipients) ≡ some
    → IsScript setup (Awaits (Open client envelope))
    (cond some (content_steps setup client delivery envelope) (quit_step ∷ []))
last_script setup client delivery envelope true is e =
    content_script setup client delivery envelope (ends_in_line_end delivery.text) is e refl
last_script setup client delivery envelope false is e = quits setup (Open client envelope)

with_tried-length : (envelope : Envelope) (recipient : Recipient) (routed goes : Bool)
    → length (with_tried envelope (record { recipient = recipient; routed = routed; goes = goes })).recipients
    ≤ length envelope.recipients + 1
with_tried-length envelope recipient routed true = omega (arith, length-append envelope.recipients (recipient ∷ []))
with_tried-length envelope recipient routed false = omega arith

rcpt_script : (setup : Setup) (client : Client) (delivery : Delivery) (recipients : List Recipient) (places : List ℕ)
    (tried : List Tried) (envelope : Envelope) → IsDelivery delivery → AreTried setup recipients places tried
    → length envelope.recipients + length places ≤ 100
    → IsScript setup (Awaits (Open client envelope)) (rcpt_steps setup client delivery envelope tried)
rcpt_script setup client delivery recipients [] [] envelope is all few =
    last_script setup client delivery envelope (nat_le 1 (length envelope.recipients)) is refl
rcpt_script setup client delivery recipients [] (tried ∷ more) envelope is all few = absurd all
rcpt_script setup client delivery recipients (place ∷ places) [] envelope is all few = absurd all
rcpt_script setup client delivery recipients (place ∷ places) (tried ∷ more) envelope is all few = (
  rcpt_comes setup client envelope tried all.1 (omega arith),
  rcpt_script setup client delivery recipients places more (with_tried envelope tried) is all.2
      (let n = with_tried-length envelope tried.recipient tried.routed tried.goes in omega arith),
)

pub script_is_servers : ScriptIsServers
script_is_servers setup delivery tried is all = (
  ehlo_comes setup Fresh delivery is,
  (
    mail_comes setup (client_in delivery) delivery.envelope is.envelope,
    rcpt_script setup (client_in delivery) delivery delivery.envelope.recipients delivery.places tried (opened_of delivery.envelope)
        is all (omega (arith, is.few)),
  ),
)
