-- Two relays that meet.
use Rattle.std.proofs.Common.{◌≡◌, inl, inr, ℕ, nat_le, Bool, true, false, List, [], ◌∷◌, ◌++◌, length, is_some, Option, None, Some, refl, sym, ap, ◌∙◌, subst, cond, arith}
use Rattle.std.specs.Prelude.{option_to_list}
use Rattle.std.proofs.lemmas.List.{append_assoc, append-nil, length-append}
use Rattle.std.proofs.lemmas.List.Concat.{flat_map-append}
use Rattle.std.specs.List.{AllByRecursion, flat_map}
use Rattle.relay_lines.specs.Reply.{Reply, IsReply, reply_text}
use Rattle.relay_lines.specs.Reply.{written_replies}
use Rattle.relay_lines.specs.ReplyReading.{CutsReplies}
use Rattle.relay_lines.proofs.Theorems.{beginning_is_cut}
use Rattle.relay_body.specs.DotText.{ends_in_line_end}
use Rattle.relay_envelope.specs.declared.envelope.Envelope.{Envelope}
use Rattle.relay_envelope.specs.HostName.{IsHostName}
use Rattle.relay_trace.specs.HeaderSection.{received_count_of}
use Rattle.relay_server.specs.declared.client.Client.{Client}
use Rattle.relay_server.specs.declared.offer.Answer.{Answer}
use Rattle.relay_server.specs.declared.offer.Answer.TheVariants as answer
use Rattle.relay_server.specs.declared.reply_table.Row.TheVariants as row
use Rattle.relay_server.specs.Dialogue.{Answers, IsDialogue, IsLeft, Offered, Said, Takes, Turn, Turns, offered_of, offered_by, offers_in, answers_in, read_by, written_by, answered_by}
use Rattle.relay_server.specs.DialogueLaws.{AreNumbered}
use Rattle.relay_server.specs.Reply.{reply_of}
use Rattle.relay_routes.specs.declared.bare_newlines.BareNewlines.{BareNewlines}
use Rattle.relay_server.specs.declared.reply_table.Row.{Row}
use Rattle.relay_server.specs.ReplyTable.{Course, Replies, Offers, is_refused_by, offer_unless, refusal_by, unless_refused}
use Rattle.relay_server.specs.Setup.{Setup}
use Rattle.relay_server.specs.State.{State, Command, Greeted, Receiving, Spent, start}
use Rattle.relay_server.proofs.Theorems.{replies_are_well_formed, runs_compose}
use Rattle.relay_course.specs.WrittenLine.{data_line, last_chunk}
use Rattle.relay_course.specs.Progress.{Delivery, progress}
use Rattle.relay_octets.specs.Beginning.{Begins}
use Rattle.relay_course.specs.Course.{joined}
use Rattle.relay_meeting.specs.Meeting.{Plays, Step, replies_by, state_after, step_of}
use Rattle.relay_meeting.specs.Script.{Tried, course_of_last_chunk, course_of_mail_data, quit_step, content_steps, last_steps, rcpt_steps, with_tried, client_in, envelope_after, opened_of, script_of}
use Rattle.relay_meeting.specs.Joined.{MayClose, TwoRelaysMeet, child_envelope, child_of, output_with}
use Rattle.relay_meeting.proofs.MeetLemmas.{meeting}
use Rattle.relay_meeting.proofs.ScriptLemmas.{script_is_servers}
use Rattle.relay_meeting.proofs.WritesLemmas.{client_writes}

-- what a course may offer
abbrev may_offer : Course → List Offered
may_offer (Replies row next) = []
may_offer (Offers client envelope content) = offered_of client envelope content ∷ []

abbrev may_offer_in : List Step → List Offered
may_offer_in script = flat_map (λ step. may_offer step.course) script

taken_offer : (host : List ℕ) (course : Course) (turn : Turn) (new : State) → Takes host course turn new
    → offers_in turn.offer ≡ may_offer course
taken_offer host (Replies row next) turn new takes = ap offers_in takes.1
taken_offer host (Offers client envelope content) turn new takes = ap offers_in takes.2

plays_offer : (host : List ℕ) (script : List Step) (turns : List Turn) → Plays host script turns
    → Begins (offered_by turns) (may_offer_in script)
plays_offer host script [] plays = (may_offer_in script, refl)
plays_offer host [] (turn ∷ turns) plays = absurd plays
plays_offer host (step ∷ script) (turn ∷ turns) plays =
    let after = plays_offer host script turns plays.2 in
    let one = taken_offer host step.course turn (state_after step.course) plays.1 in (
      after.0,
      ap (λ l. may_offer step.course ++ l) after.1 ∙ ap (λ l. l ++ (offered_by turns ++ after.0)) (sym one)
          ∙ sym (append_assoc (offers_in turn.offer) (offered_by turns) after.0),
    )

offer_or_none : (client : Client) (envelope : Envelope) (content : List ℕ) (found : Option Row)
    → may_offer (offer_unless found client envelope content)
    ≡ cond (is_some found) [] (offered_of client envelope content ∷ [])
offer_or_none client envelope content (Some why) = refl
offer_or_none client envelope content None = refl

content_offer : (rule : BareNewlines) (client : Client) (envelope : Envelope) (content : List ℕ) (many : Bool)
    → may_offer (unless_refused rule (cond many (Replies row.TooManyReceived (Command (Greeted client)))
    (Offers client envelope content)))
    ≡ cond many [] (cond (is_refused_by rule content) [] (offered_of client envelope content ∷ []))
content_offer rule client envelope content true = refl
content_offer rule client envelope content false = offer_or_none client envelope content (refusal_by rule content)

text_offer : (rule : BareNewlines) (client : Client) (envelope : Envelope) (content : List ℕ) (over : State)
    (fits many : Bool)
    → may_offer (unless_refused rule (cond fits (cond many (Replies row.TooManyReceived (Command (Greeted client)))
    (Offers client envelope content)) (Replies row.ContentTooLarge over)))
    ≡ cond fits (cond many [] (cond (is_refused_by rule content) [] (offered_of client envelope content ∷ []))) []
text_offer rule client envelope content over true many = content_offer rule client envelope content many
text_offer rule client envelope content over false many = refl

steps_offer : (client : Client) (envelope : Envelope) (text chunk : Step) (t : Bool) (one : List Offered)
    → may_offer text.course ≡ one → may_offer chunk.course ≡ one
    → may_offer_in (cond t (step_of data_line (Replies row.StartMailInput (Receiving client envelope)) ∷ text ∷ quit_step
    ∷ []) (chunk ∷ quit_step ∷ [])) ≡ one
steps_offer client envelope text chunk true one a b = append-nil (may_offer text.course) ∙ a
steps_offer client envelope text chunk false one a b = append-nil (may_offer chunk.course) ∙ b

last_offer : (setup : Setup) (client : Client) (delivery : Delivery) (envelope : Envelope) (some : Bool)
    → may_offer_in (cond some (content_steps setup client delivery envelope) (quit_step ∷ []))
    ≡ cond some (cond (nat_le (length delivery.text) setup.max_content)
    (cond (nat_le 100 (received_count_of delivery.text)) [] (cond (is_refused_by setup.bare_newlines delivery.text) []
    (offered_of client envelope delivery.text ∷ []))) []) []
last_offer setup client delivery envelope true =
    let fits : Bool = nat_le (length delivery.text) setup.max_content in
    let many : Bool = nat_le 100 (received_count_of delivery.text) in
    let rule : BareNewlines = setup.bare_newlines in
    steps_offer client envelope (step_of delivery.dot_text (course_of_mail_data setup client envelope delivery.text))
    (step_of (last_chunk delivery.text) (course_of_last_chunk setup client envelope delivery.text))
    (ends_in_line_end delivery.text)
    (cond fits (cond many [] (cond (is_refused_by rule delivery.text) [] (offered_of client envelope delivery.text ∷ []))) [])
    (text_offer rule client envelope delivery.text (Command (Greeted client)) fits many)
    (text_offer rule client envelope delivery.text (Command (Spent client)) fits many)
last_offer setup client delivery envelope false = refl

rcpt_offer : (setup : Setup) (client : Client) (delivery : Delivery) (envelope : Envelope) (tried : List Tried)
    → may_offer_in (rcpt_steps setup client delivery envelope tried) ≡ may_offer_in
    (last_steps setup client delivery (envelope_after envelope tried))
rcpt_offer setup client delivery envelope [] = refl
rcpt_offer setup client delivery envelope (tried ∷ more) = rcpt_offer setup client delivery (with_tried envelope tried) more

script_offer : (setup : Setup) (delivery : Delivery) (tried : List Tried)
    → may_offer_in (script_of setup delivery tried) ≡ child_of setup delivery tried
script_offer setup delivery tried =
    rcpt_offer setup (client_in delivery) delivery (opened_of delivery.envelope) tried
    ∙ last_offer setup (client_in delivery) delivery (child_envelope delivery tried)
    (nat_le 1 (length (child_envelope delivery tried).recipients))

pub replies_written : (turns : List Turn) → written_by turns ≡ written_replies (replies_by turns)
replies_written [] = refl
replies_written (turn ∷ turns) = ap (λ l. reply_text turn.reply ++ l) (replies_written turns)

all_replies : (turns : List Turn) → AllByRecursion (λ turn. IsReply turn.reply) turns
    → AllByRecursion IsReply (replies_by turns)
all_replies [] h = tt
all_replies (turn ∷ turns) h = (h.0, all_replies turns h.1)

-- the replies of a server, and that with which it closed
abbrev pub sent_by : List ℕ → List Turn → Option Reply → List Reply
sent_by host turns closing = reply_of host row.Greeting ∷ (replies_by turns ++ option_to_list closing)

-- they are what was written
sent-written : (host : List ℕ) (turns : List Turn) (closing : Option Reply) (output : List ℕ)
    → reply_text (reply_of host row.Greeting) ++ written_by turns ≡ output
    → written_replies (sent_by host turns closing) ≡ output_with output closing
sent-written host turns None output e =
    let greeting : Reply = reply_of host row.Greeting in
    ap (λ (l : List Reply). written_replies (greeting ∷ l)) (append-nil (replies_by turns))
    ∙ ap (λ l. reply_text greeting ++ l) (sym (replies_written turns)) ∙ e
sent-written host turns (Some reply) output e =
    let greeting : Reply = reply_of host row.Greeting in
    ap (λ l. reply_text greeting ++ l)
    (flat_map-append reply_text (replies_by turns) (reply ∷ [])
    ∙ ap (λ l. l ++ (reply_text reply ++ [])) (sym (replies_written turns))
    ∙ ap (λ l. written_by turns ++ l) (append-nil (reply_text reply)))
    ∙ sym (append_assoc (reply_text greeting) (written_by turns) (reply_text reply))
    ∙ ap (λ l. l ++ reply_text reply) e

all_sent : (replies more : List Reply) → AllByRecursion IsReply replies → AllByRecursion IsReply more
    → AllByRecursion IsReply (replies ++ more)
all_sent [] more a b = b
all_sent (reply ∷ replies) more a b = (a.0, all_sent replies more a.1 b)

closing_formed : (said : Said) (closing : Option Reply) → MayClose said closing
    → AllByRecursion IsReply (option_to_list closing)
closing_formed said None closes = tt
closing_formed said (Some reply) closes = (closes.0, tt)

-- and they are well formed
sent_formed : (setup : Setup) (said : Said) (turns : List Turn) (state : State) (closing : Option Reply)
    → IsHostName setup.host → MayClose said closing → Turns setup start turns state → AreNumbered (answered_by turns)
    → AllByRecursion IsReply (sent_by setup.host turns closing)
sent_formed setup said turns state closing host closes runs numbered =
    let formed = replies_are_well_formed setup host in (
      formed.0,
      all_sent (replies_by turns) (option_to_list closing) (all_replies turns (formed.1 start state turns runs numbered))
          (closing_formed said closing closes),
    )

-- the turns of a dialogue, with one more where an offer is unanswered: its answer might be that the spool is full
pub record Turned (setup : Setup) (said : Said) (closing : Option Reply) : Type 0 where
  pub turns : List Turn
  pub state : State
  pub runs : Turns setup start turns state
  pub unread : List ℕ
  pub input : said.input ≡ read_by turns ++ unread
  pub unwritten : List ℕ
  pub output : written_replies (sent_by setup.host turns closing) ≡ output_with said.output closing ++ unwritten
  pub offers : said.offers ≡ offered_by turns
  pub numbered : AreNumbered (answered_by turns)

numbered_more : (answers : List Answer) → AreNumbered answers → AreNumbered (answers ++ answer.Full ∷ [])
numbered_more [] h = (tt, tt)
numbered_more (one ∷ answers) h = (h.0, numbered_more answers h.1)

-- each offer of a turn has its answer
one-answered : (offer : Option (Offered × Answer)) → length (answers_in offer) ≡ length (offers_in offer)
one-answered None = refl
one-answered (Some offer) = refl

pub turns-answered : (turns : List Turn) → length (answered_by turns) ≡ length (offered_by turns)
turns-answered [] = refl
turns-answered (turn ∷ turns) =
    let first = one-answered turn.offer in
    let after = turns-answered turns in
    omega (
      arith,
      first,
      after,
      length-append (answers_in turn.offer) (answered_by turns),
      length-append (offers_in turn.offer) (offered_by turns),
    )

pub turned_by : (setup : Setup) (said : Said) (closing : Option Reply) (d : IsDialogue setup said)
    → AreNumbered said.answers → MayClose said closing → IsLeft setup d.state d.rest d.unanswered
    → Turned setup said closing
turned_by setup said closing d numbered closes (inl none) = record {
  turns = d.turns;
  state = d.state;
  runs = d.runs;
  unread = d.rest;
  input = d.input;
  unwritten = [];
  output = sent-written setup.host d.turns closing said.output (sym d.output)
      ∙ sym (append-nil (output_with said.output closing));
  offers = d.offers ∙ ap (λ l. offered_by d.turns ++ l) none.1 ∙ append-nil (offered_by d.turns);
  numbered = subst AreNumbered d.answers numbered;
}
turned_by setup said None d numbered closes (inr waiting) =
    let offer : Offered = offered_of waiting.client waiting.envelope waiting.content in
    let reply : Reply = reply_of setup.host row.SpoolFull in
    let turn : Turn = record { asked = d.rest; reply = reply; offer = Some (offer, answer.Full) } in
    let new : State = Command (Greeted waiting.client) in
    let is : Answers setup d.state turn new =
    record {
      course = Offers waiting.client waiting.envelope waiting.content;
      comes = waiting.comes;
      takes =
          (answer.Full, refl, refl, refl);
    } in
    record {
      turns = d.turns ++ turn ∷ [];
      state = new;
      runs = runs_compose setup start d.state new d.turns (turn ∷ []) d.runs (new, is, refl);
      unread = [];
      input = d.input ∙ ap (λ l. read_by d.turns ++ l) (sym (append-nil d.rest))
          ∙ sym (flat_map-append (λ t. t.asked) d.turns (turn ∷ [])) ∙ sym (append-nil (read_by (d.turns ++ turn ∷ [])));
      unwritten = reply_text reply;
      output = sent-written setup.host (d.turns ++ turn ∷ []) None (said.output ++ reply_text reply)
          (ap (λ l. reply_text (reply_of setup.host row.Greeting) ++ l)
          (flat_map-append (λ t. reply_text t.reply) d.turns (turn ∷ [])
          ∙ ap (λ l. written_by d.turns ++ l) (append-nil (reply_text reply)))
          ∙ sym (append_assoc (reply_text (reply_of setup.host row.Greeting)) (written_by d.turns) (reply_text reply))
          ∙ ap (λ l. l ++ reply_text reply) (sym d.output));
      offers = d.offers ∙ ap (λ l. offered_by d.turns ++ l) waiting.offer_is
          ∙ sym (flat_map-append (λ t. offers_in t.offer) d.turns (turn ∷ []));
      numbered = subst AreNumbered (sym (flat_map-append (λ t. answers_in t.offer) d.turns (turn ∷ [])))
          (numbered_more (answered_by d.turns) (subst AreNumbered d.answers numbered));
    }
turned_by setup said (Some reply) d numbered closes (inr waiting) =
    absurd (omega (
      arith,
      closes.2,
      ap length d.answers,
      ap length d.offers,
      ap length waiting.offer_is,
      length-append (offered_by d.turns) d.unanswered,
      turns-answered d.turns,
    ))

pub two_relays_meet : TwoRelaysMeet
two_relays_meet setup delivery tried said closing input output replies rest is all ends =
    let greeting : Reply = reply_of setup.host row.Greeting in
    let t = turned_by setup said closing ends.dialogue ends.numbered ends.closes ends.dialogue.left in
    let sent : List Reply = sent_by setup.host t.turns closing in
    let written : input ++ (ends.down.0 ++ t.unwritten) ≡ written_replies sent =
    sym (append_assoc input ends.down.0 t.unwritten) ∙ ap (λ l. l ++ t.unwritten) (sym ends.down.1) ∙ sym t.output in
    let heard = beginning_is_cut input (ends.down.0 ++ t.unwritten) rest replies sent
    (sent_formed setup said t.turns t.state closing ends.host ends.closes t.runs t.numbered) written ends.cut in
    let octets : joined (progress delivery replies).commands ≡ read_by t.turns ++ (t.unread ++ ends.up.0) =
    sym ends.written ∙ ends.up.1 ∙ ap (λ l. l ++ ends.up.0) t.input ∙ append_assoc (read_by t.turns) t.unread ends.up.0 in
    let meets = meeting setup greeting (λ l. (progress delivery l).commands) (script_of setup delivery tried)
    t.state t.turns (option_to_list closing) replies heard.0.0 (t.unread ++ ends.up.0)
    (client_writes setup delivery tried is all) (script_is_servers setup delivery tried is all) t.runs octets heard.0.1 in
    record {
      turns = t.turns;
      state = t.state;
      meets = meets;
      read = heard.0;
      sound = heard.1;
      unread = t.unread;
      input = t.input;
      offered = t.offers;
      children = subst (λ l. Begins l (child_of setup delivery tried)) (sym t.offers)
          (subst (λ l. Begins (offered_by t.turns) l) (script_offer setup delivery tried)
          (plays_offer setup.host (script_of setup delivery tried) t.turns meets.plays));
    }

-- the replies that were read begin those of the turns, and that with which the server closed
pub all_written : (setup : Setup) (said : Said) (closing : Option Reply) (input : List ℕ) (replies : List Reply)
    (rest : List ℕ) (d : IsDialogue setup said) → AreNumbered said.answers → MayClose said closing
    → IsHostName setup.host → CutsReplies input replies rest
    → Begins input (output_with said.output closing) → Begins replies (sent_by setup.host d.turns closing)
all_written setup said closing input replies rest d numbered closes host cut down =
    let sent : List Reply = sent_by setup.host d.turns closing in
    let written : input ++ down.0 ≡ written_replies sent =
    sym down.1 ∙ sym (sent-written setup.host d.turns closing said.output (sym d.output)) in
    (beginning_is_cut input down.0 rest replies sent
    (sent_formed setup said d.turns d.state closing host closes d.runs (subst AreNumbered d.answers numbered))
    written cut).0
