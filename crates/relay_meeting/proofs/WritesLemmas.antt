-- The client writes the script.
use Rattle.std.proofs.Common.{◌≡◌, ℕ, suc, nat_le, Bool, true, false, List, [], ◌∷◌, ◌++◌, length, map, refl, sym, ap, ◌∙◌, subst, cond, arith}
use Rattle.std.proofs.lemmas.List.{append_assoc, length-append}
use Rattle.std.proofs.lemmas.Bool.{le-leb}
use Rattle.relay_lines.specs.Reply.{Reply}
use Rattle.relay_body.specs.DotText.{ends_in_line_end}
use Rattle.relay_envelope.specs.declared.envelope.Envelope.{Envelope}
use Rattle.relay_envelope.specs.declared.envelope.Recipient.{Recipient}
use Rattle.relay_server.specs.declared.client.Client.{Client}
use Rattle.relay_server.specs.declared.reply_table.Row.TheVariants as row
use Rattle.relay_server.specs.declared.offer.Answer.TheVariants as answer
use Rattle.relay_server.specs.Reply.{reply_of}
use Rattle.relay_server.specs.ReplyTable.{Course, Replies, Offers}
use Rattle.relay_server.specs.Setup.{Setup}
use Rattle.relay_server.specs.State.{Receiving}
use Rattle.relay_octets.specs.Beginning.{Begins}
use Rattle.relay_lines.specs.Word.{first_word, word_len, is_word}
use Rattle.relay_course.specs.declared.reply_kind.ReplyKind.TheVariants.{Completion, Intermediate}
use Rattle.relay_course.specs.Extensions.{extensions_of}
use Rattle.relay_course.specs.WrittenLine.{ehlo_line, mail_line, rcpt_line_at, data_line, last_chunk, quit_line}
use Rattle.relay_course.specs.VerdictTable.{kind_of, some_accepted}
use Rattle.relay_course.specs.Progress.{Delivery, Progress, progress}
use Rattle.relay_course.specs.RelayLaws.{AreWilling, all_extensions, content_commands, content_replies, opening_commands, relay_replies}
use Rattle.relay_course.proofs.Theorems.{commands_keep_up, commands_stay, commands_to_a_relay, end_is_end}
use Rattle.relay_meeting.specs.Meeting.{Step, step_of, AreExpected, IsExpected, commands_in}
use Rattle.relay_meeting.proofs.TriedLemmas.{rcpt_line-at}
use Rattle.relay_meeting.specs.Script.{AreRcpts, Tried, course_of_last_chunk, course_of_mail_data, refusal_row, row_of_rcpt, with_tried, quit_step, content_steps, last_steps, rcpt_steps, opened_of, client_in, script_of, envelope_after, AreTried, ClientWrites}

-- a reply that a course may have
any_reply : (host : List ℕ) (course : Course) → (reply : Reply) × IsExpected host course reply
any_reply host (Replies row next) = (reply_of host row, refl)
any_reply host (Offers client envelope content) = (reply_of host row.SpoolFull, (answer.Full, refl))

-- replies to the rest of a script
pub record Filled (host : List ℕ) (script : List Step) (replies : List Reply) : Type 0 where
  pub later : List Reply
  pub expected : AreExpected host script (replies ++ later)
  pub all : length (replies ++ later) ≡ length script

pub fill : (host : List ℕ) (script : List Step) (replies : List Reply) → AreExpected host script replies
    → Filled host script replies
fill host [] [] e = record { later = []; expected = tt; all = refl }
fill host [] (reply ∷ replies) e = absurd e
fill host (step ∷ script) [] e =
    let one = any_reply host step.course in
    let more = fill host script [] tt in
    record { later = one.0 ∷ more.later; expected = (one.1, more.expected); all = ap suc more.all }
fill host (step ∷ script) (reply ∷ replies) e =
    let more = fill host script replies e.1 in
    record { later = more.later; expected = (e.0, more.expected); all = ap suc more.all }

abbrev pub has_some : Envelope → Bool
has_some envelope = nat_le 1 (length envelope.recipients)

-- the replies to the RCPTs, and those after them
pub record RcptReplies (host : List ℕ) (setup : Setup) (client : Client) (delivery : Delivery) (envelope : Envelope)
    (tried : List Tried) (replies : List Reply) : Type 0 where
  pub rcpts : List Reply
  pub last : List Reply
  pub replies_are : replies ≡ rcpts ++ last
  pub count : length rcpts ≡ length tried
  pub are : AreRcpts host tried rcpts
  pub some : has_some (envelope_after envelope tried) ≡ cond (has_some envelope) true (some_accepted rcpts)
  pub last_are : AreExpected host (last_steps setup client delivery (envelope_after envelope tried)) last
  pub all : length last ≡ length (last_steps setup client delivery (envelope_after envelope tried))

either_true : (b : Bool) → b ≡ cond b true false
either_true true = refl
either_true false = refl

both_true : (b : Bool) → true ≡ cond b true true
both_true true = refl
both_true false = refl

accepted_first : (host : List ℕ) (reply : Reply) (rcpts : List Reply) → reply ≡ reply_of host row.RecipientOk
    → some_accepted (reply ∷ rcpts) ≡ true
unfolding reply_of
accepted_first host reply rcpts e = ap (λ (r : Reply). some_accepted (r ∷ rcpts)) e

refused_first : (host : List ℕ) (routed : Bool) (reply : Reply) (rcpts : List Reply)
    → reply ≡ reply_of host (refusal_row routed) → some_accepted (reply ∷ rcpts) ≡ some_accepted rcpts
unfolding reply_of
refused_first host true reply rcpts e = ap (λ (r : Reply). some_accepted (r ∷ rcpts)) e
refused_first host false reply rcpts e = ap (λ (r : Reply). some_accepted (r ∷ rcpts)) e

one_more : (host : List ℕ) (envelope : Envelope) (recipient : Recipient) (routed goes : Bool) (reply : Reply)
    (rcpts : List Reply) → reply ≡ reply_of host (row_of_rcpt routed goes)
    → cond (has_some (with_tried envelope (record { recipient = recipient; routed = routed; goes = goes }))) true
    (some_accepted rcpts)
    ≡ cond (has_some envelope) true (some_accepted (reply ∷ rcpts))
one_more host envelope recipient routed true reply rcpts e =
    ap (λ b. cond b true (some_accepted rcpts))
    (le-leb 1 (length (envelope.recipients ++ recipient ∷ []))
    (omega (arith, length-append envelope.recipients (recipient ∷ []))))
    ∙ both_true (has_some envelope)
    ∙ ap (λ b. cond (has_some envelope) true b) (sym (accepted_first host reply rcpts e))
one_more host envelope recipient routed false reply rcpts e =
    ap (λ b. cond (has_some envelope) true b) (sym (refused_first host routed reply rcpts e))

rcpt_replies_are : (host : List ℕ) (setup : Setup) (client : Client) (delivery : Delivery) (envelope : Envelope)
    (tried : List Tried) (replies : List Reply) → AreExpected host (rcpt_steps setup client delivery envelope tried) replies
    → length replies ≡ length (rcpt_steps setup client delivery envelope tried)
    → RcptReplies host setup client delivery envelope tried replies
rcpt_replies_are host setup client delivery envelope [] replies e n = record {
  rcpts = [];
  last = replies;
  replies_are = refl;
  count = refl;
  are = tt;
  some =
      either_true (has_some envelope);
  last_are = e;
  all = n;
}
rcpt_replies_are host setup client delivery envelope (tried ∷ more) [] e n = absurd (omega arith)
rcpt_replies_are host setup client delivery envelope (tried ∷ more) (reply ∷ replies) e n =
    let after = rcpt_replies_are host setup client delivery (with_tried envelope tried) more replies e.1 (omega arith) in
    record {
      rcpts = reply ∷ after.rcpts;
      last = after.last;
      replies_are = ap (λ l. reply ∷ l) after.replies_are;
      count = ap suc after.count;
      are = (e.0, after.are);
      some = after.some ∙ one_more host envelope tried.recipient tried.routed tried.goes reply after.rcpts e.0;
      last_are = after.last_are;
      all = after.all;
    }

-- the replies to the content's commands, where a RCPT was accepted or not
abbrev pub content_replies_by : Delivery → Bool → Reply → Reply → List Reply
content_replies_by delivery some input content =
    cond some (cond (ends_in_line_end delivery.text) (input ∷ content ∷ []) (content ∷ [])) []

-- the replies after the RCPTs
pub record LastReplies (delivery : Delivery) (some : Bool) (last : List Reply) : Type 0 where
  pub input : Reply
  pub content : Reply
  pub quit : Reply
  pub goes_on : kind_of input.code ≡ Intermediate
  pub last_are : last ≡ content_replies_by delivery some input content ++ quit ∷ []

input_kind : (host : List ℕ) (reply : Reply) → reply ≡ reply_of host row.StartMailInput → kind_of reply.code ≡ Intermediate
unfolding reply_of
input_kind host reply e = ap (λ (r : Reply). kind_of r.code) e

text_replies : (host : List ℕ) (delivery : Delivery) (first : Course) (text chunk : Step) (t : Bool) (client : Client)
    (envelope : Envelope) (last : List Reply)
    → AreExpected host (cond t (step_of data_line (Replies row.StartMailInput (Receiving client envelope)) ∷ text
    ∷ quit_step ∷ []) (chunk ∷ quit_step ∷ [])) last
    → length last ≡ length (cond t (step_of data_line (Replies row.StartMailInput (Receiving client envelope)) ∷ text
    ∷ quit_step ∷ []) (chunk ∷ quit_step ∷ []))
    → ends_in_line_end delivery.text ≡ t → LastReplies delivery true last
text_replies host delivery first text chunk true client envelope [] e n t = absurd (omega arith)
text_replies host delivery first text chunk true client envelope (input ∷ []) e n t = absurd (omega arith)
text_replies host delivery first text chunk true client envelope (input ∷ content ∷ []) e n t = absurd (omega arith)
text_replies host delivery first text chunk true client envelope (input ∷ content ∷ quit ∷ []) e n t = record {
  input = input;
  content = content;
  quit = quit;
  goes_on = input_kind host input e.0;
  last_are = ap (λ b. cond b (input ∷ content ∷ []) (content ∷ []) ++ quit ∷ []) (sym t);
}
text_replies host delivery first text chunk true client envelope (input ∷ content ∷ quit ∷ next ∷ more) e n t =
    absurd (omega arith)
text_replies host delivery first text chunk false client envelope [] e n t = absurd (omega arith)
text_replies host delivery first text chunk false client envelope (content ∷ []) e n t = absurd (omega arith)
text_replies host delivery first text chunk false client envelope (content ∷ quit ∷ []) e n t = record {
  input = reply_of host row.StartMailInput;
  content = content;
  quit = quit;
  goes_on =
      input_kind host (reply_of host row.StartMailInput) refl;
  last_are = ap (λ b. cond b (reply_of host row.StartMailInput ∷ content ∷ []) (content ∷ []) ++ quit ∷ []) (sym t);
}
text_replies host delivery first text chunk false client envelope (content ∷ quit ∷ next ∷ more) e n t = absurd (omega arith)

last_replies_are : (host : List ℕ) (setup : Setup) (client : Client) (delivery : Delivery) (envelope : Envelope) (some : Bool)
    (last : List Reply)
    → AreExpected host (cond some (content_steps setup client delivery envelope) (quit_step ∷ [])) last
    → length last ≡ length (cond some (content_steps setup client delivery envelope) (quit_step ∷ []))
    → LastReplies delivery some last
last_replies_are host setup client delivery envelope true last e n =
    text_replies host delivery (course_of_mail_data setup client envelope delivery.text)
    (step_of delivery.dot_text (course_of_mail_data setup client envelope delivery.text))
    (step_of (last_chunk delivery.text) (course_of_last_chunk setup client envelope delivery.text))
    (ends_in_line_end delivery.text) client envelope last e n refl
last_replies_are host setup client delivery envelope false [] e n = absurd (omega arith)
last_replies_are host setup client delivery envelope false (quit ∷ []) e n = record {
  input = reply_of host row.StartMailInput;
  content = quit;
  quit = quit;
  goes_on =
      input_kind host (reply_of host row.StartMailInput) refl;
  last_are = refl;
}
last_replies_are host setup client delivery envelope false (quit ∷ next ∷ more) e n = absurd (omega arith)

-- the commands of the script
text_commands : (delivery : Delivery) (input text chunk : Step) (t : Bool) → input.command ≡ data_line
    → text.command ≡ delivery.dot_text → chunk.command ≡ last_chunk delivery.text
    → commands_in (cond t (input ∷ text ∷ quit_step ∷ []) (chunk ∷ quit_step ∷ [])) ≡ cond t
    (data_line ∷ delivery.dot_text ∷ []) (last_chunk delivery.text ∷ []) ++ quit_line ∷ []
text_commands delivery input text chunk true d x c =
    ap (λ l. l ∷ text.command ∷ quit_line ∷ []) d ∙ ap (λ l. data_line ∷ l ∷ quit_line ∷ []) x
text_commands delivery input text chunk false d x c = ap (λ l. l ∷ quit_line ∷ []) c

last_commands : (setup : Setup) (client : Client) (delivery : Delivery) (envelope : Envelope) (some : Bool)
    → commands_in (cond some (content_steps setup client delivery envelope) (quit_step ∷ [])) ≡ cond some
    (content_commands delivery) [] ++ quit_line ∷ []
last_commands setup client delivery envelope true =
    text_commands delivery (step_of data_line (Replies row.StartMailInput (Receiving client envelope)))
    (step_of delivery.dot_text (course_of_mail_data setup client envelope delivery.text))
    (step_of (last_chunk delivery.text) (course_of_last_chunk setup client envelope delivery.text))
    (ends_in_line_end delivery.text) refl refl refl
last_commands setup client delivery envelope false = refl

rcpt_commands : (setup : Setup) (client : Client) (delivery : Delivery) (recipients : List Recipient)
    (places : List ℕ) (tried : List Tried) (envelope : Envelope) → AreTried setup recipients places tried
    → commands_in (rcpt_steps setup client delivery envelope tried) ≡ map (rcpt_line_at true recipients) places ++ commands_in
    (last_steps setup client delivery (envelope_after envelope tried))
rcpt_commands setup client delivery recipients [] [] envelope all = refl
rcpt_commands setup client delivery recipients [] (tried ∷ more) envelope all = absurd all
rcpt_commands setup client delivery recipients (place ∷ places) [] envelope all = absurd all
rcpt_commands setup client delivery recipients (place ∷ places) (tried ∷ more) envelope all =
    ap (λ l. l ∷ commands_in (rcpt_steps setup client delivery (with_tried envelope tried) more))
    (sym (rcpt_line-at true recipients place tried.recipient all.0))
    ∙ ap (λ l. rcpt_line_at true recipients place ∷ l)
    (rcpt_commands setup client delivery recipients places more (with_tried envelope tried) all.2)

pub as_many_tried : (setup : Setup) (recipients : List Recipient) (places : List ℕ) (tried : List Tried)
    → AreTried setup recipients places tried → length tried ≡ length places
as_many_tried setup recipients [] [] all = refl
as_many_tried setup recipients [] (tried ∷ more) all = absurd all
as_many_tried setup recipients (place ∷ places) [] all = absurd all
as_many_tried setup recipients (place ∷ places) (tried ∷ more) all = ap suc (as_many_tried setup recipients places more all.2)

script_commands : (setup : Setup) (delivery : Delivery) (tried : List Tried) (some : Bool)
    → AreTried setup delivery.envelope.recipients delivery.places tried
    → has_some (envelope_after (opened_of delivery.envelope) tried) ≡ some
    → commands_in (script_of setup delivery tried)
    ≡ (ehlo_line delivery.host ∷ mail_line true delivery.envelope ∷ map (rcpt_line_at true delivery.envelope.recipients)
    delivery.places) ++ (cond some (content_commands delivery) [] ++ quit_line ∷ [])
script_commands setup delivery tried some all is =
    let front : List (List ℕ) = map (rcpt_line_at true delivery.envelope.recipients) delivery.places in
    ap (λ l. ehlo_line delivery.host ∷ mail_line true delivery.envelope ∷ l)
    (rcpt_commands setup (client_in delivery) delivery delivery.envelope.recipients delivery.places tried
    (opened_of delivery.envelope) all
    ∙ ap (λ l. front ++ l) (last_commands setup (client_in delivery) delivery
    (envelope_after (opened_of delivery.envelope) tried) (has_some (envelope_after (opened_of delivery.envelope) tried))
    ∙ ap (λ b. cond b (content_commands delivery) [] ++ quit_line ∷ []) is))

pub greeting_kind : (host : List ℕ) → kind_of (reply_of host row.Greeting).code ≡ Completion
unfolding reply_of
greeting_kind host = refl

mail_kind : (host : List ℕ) (reply : Reply) → reply ≡ reply_of host row.SenderOk → kind_of reply.code ≡ Completion
unfolding reply_of
mail_kind host reply e = ap (λ (r : Reply). kind_of r.code) e

-- a relay of ours offers all three
offers_all : (host : List ℕ) → extensions_of (reply_of host row.Extensions) ≡ all_extensions
unfolding reply_of first_word word_len is_word
offers_all host = refl

hello_kind : (host : List ℕ) → kind_of (reply_of host row.Extensions).code ≡ Completion
unfolding reply_of
hello_kind host = refl

input-is : (host : List ℕ) → kind_of (reply_of host row.StartMailInput).code ≡ Intermediate
unfolding reply_of
input-is host = refl

-- a relay of ours is willing
pub willing_relay : (host : List ℕ)
    → AreWilling (reply_of host row.Greeting) (reply_of host row.Extensions) (reply_of host row.SenderOk)
    (reply_of host row.StartMailInput)
willing_relay host = record {
  greets = greeting_kind host;
  says_hello = hello_kind host;
  offers = offers_all host;
  takes_mail = mail_kind host (reply_of host row.SenderOk) refl;
  takes_input = input-is host;
}

-- the replies to all of a script
pub record AllReplies (setup : Setup) (delivery : Delivery) (tried : List Tried) (replies : List Reply) : Type 0 where
  pub mail : Reply
  pub rcpts : List Reply
  pub input : Reply
  pub content : Reply
  pub quit : Reply
  pub willing : AreWilling (reply_of setup.host row.Greeting) (reply_of setup.host row.Extensions) mail input
  pub mail_is : mail ≡ reply_of setup.host row.SenderOk
  pub count : length rcpts ≡ length tried
  pub are : AreRcpts setup.host tried rcpts
  pub some : has_some (envelope_after (opened_of delivery.envelope) tried) ≡ some_accepted rcpts
  pub replies_are : reply_of setup.host row.Greeting ∷ replies
      ≡ relay_replies delivery (reply_of setup.host row.Greeting) (reply_of setup.host row.Extensions) mail rcpts input
      content ++ quit ∷ []

pub all_replies : (setup : Setup) (delivery : Delivery) (tried : List Tried) (replies : List Reply)
    → AreExpected setup.host (script_of setup delivery tried) replies
    → length replies ≡ length (script_of setup delivery tried) → AllReplies setup delivery tried replies
all_replies setup delivery tried [] e n = absurd (omega arith)
all_replies setup delivery tried (hello ∷ []) e n = absurd (omega arith)
all_replies setup delivery tried (hello ∷ mail ∷ replies) e n =
    let greeting : Reply = reply_of setup.host row.Greeting in
    let opened : Envelope = opened_of delivery.envelope in
    let client : Client = client_in delivery in
    let parts = rcpt_replies_are setup.host setup client delivery opened tried replies e.1.1 (omega arith) in
    let some : Bool = has_some (envelope_after opened tried) in
    let last = last_replies_are setup.host setup client delivery (envelope_after opened tried) some
    parts.last parts.last_are parts.all in
    let is : some ≡ some_accepted parts.rcpts = parts.some in
    let content : List Reply = content_replies delivery parts.rcpts last.input last.content in
    record {
      mail = mail;
      rcpts = parts.rcpts;
      input = last.input;
      content = last.content;
      quit = last.quit;
      willing = record {
        greets = greeting_kind setup.host;
        says_hello = hello_kind setup.host;
        offers = offers_all setup.host;
        takes_mail = mail_kind setup.host mail e.1.0;
        takes_input = last.goes_on;
      };
      mail_is = e.1.0;
      count = parts.count;
      are = parts.are;
      some = is;
      replies_are = ap (λ r. greeting ∷ r ∷ mail ∷ replies) e.0
          ∙ ap (λ l. greeting ∷ reply_of setup.host row.Extensions ∷ mail ∷ l)
          (parts.replies_are
          ∙ ap (λ l. parts.rcpts ++ l) (last.last_are
          ∙ ap (λ b. content_replies_by delivery b last.input last.content ++ last.quit ∷ []) is)
          ∙ sym (append_assoc parts.rcpts content (last.quit ∷ [])));
    }

-- on all replies of a script the commands are the script's
whole_script : (setup : Setup) (delivery : Delivery) (tried : List Tried) (replies : List Reply)
    → AreTried setup delivery.envelope.recipients delivery.places tried → AllReplies setup delivery tried replies
    → (progress delivery (reply_of setup.host row.Greeting ∷ replies)).commands
    ≡ commands_in (script_of setup delivery tried)
whole_script setup delivery tried replies all parts =
    let greeting : Reply = reply_of setup.host row.Greeting in
    let hello : Reply = reply_of setup.host row.Extensions in
    let whole : List Reply = relay_replies delivery greeting hello parts.mail parts.rcpts parts.input parts.content in
    let at = commands_to_a_relay delivery greeting hello parts.mail parts.input parts.content parts.rcpts parts.willing
    (parts.count ∙ as_many_tried setup delivery.envelope.recipients delivery.places tried all) in
    let some : Bool = some_accepted parts.rcpts in
    ap (λ (l : List Reply). (progress delivery l).commands) parts.replies_are
    ∙ ap (λ (end : Progress). end.commands)
    (end_is_end delivery whole (parts.quit ∷ []) (ap (λ (end : Progress). end.waits) at) ∙ at)
    ∙ append_assoc (opening_commands delivery) (cond some (content_commands delivery) []) (quit_line ∷ [])
    ∙ sym (script_commands setup delivery tried some all parts.some)

expected : (setup : Setup) (delivery : Delivery) (tried : List Tried)
    → AreTried setup delivery.envelope.recipients delivery.places tried → (replies : List Reply)
    → AreExpected setup.host (script_of setup delivery tried) replies
    → Begins (progress delivery (reply_of setup.host row.Greeting ∷ replies)).commands
    (commands_in (script_of setup delivery tried))
expected setup delivery tried all replies e =
    let greeting : Reply = reply_of setup.host row.Greeting in
    let filled = fill setup.host (script_of setup delivery tried) replies e in
    let parts = all_replies setup delivery tried (replies ++ filled.later) filled.expected filled.all in
    subst (λ (l : List (List ℕ)). Begins (progress delivery (greeting ∷ replies)).commands l)
    (whole_script setup delivery tried (replies ++ filled.later) all parts)
    (commands_stay delivery (greeting ∷ replies) filled.later)

pub client_writes : ClientWrites
client_writes setup delivery tried is all = record {
  stays = λ replies more. commands_stay delivery replies more;
  keeps_up = λ replies more. commands_keep_up delivery replies more;
  expected = λ replies e. expected setup delivery tried all replies e;
}
