-- What an attempt at a relay ends with.
use Rattle.std.proofs.Common.{◌≡◌, ◌≢◌, ◌⊎◌, ◌<◌, ◌≤◌, ◌+◌, inl, inr, ℕ, suc, nat_le, Bool, true, false, List, [], ◌∷◌, ◌++◌, length, map, Option, Some, None, refl, sym, ap, ◌∙◌, subst, cond, arith}
use Rattle.std.specs.Prelude.{option_to_list, unwrap_or}
use Rattle.std.proofs.lemmas.List.{append_assoc, append-nil, append_cancel_left, length-append, length-map}
use Rattle.std.proofs.lemmas.Option.{same_Some}
use Rattle.relay_octets.specs.Beginning.{Begins}
use Rattle.relay_lines.specs.Reply.{Reply}
use Rattle.relay_body.specs.DotText.{ends_in_line_end}
use Rattle.relay_envelope.specs.declared.envelope.Envelope.{Envelope}
use Rattle.relay_trace.specs.HeaderSection.{received_count_of}
use Rattle.relay_server.specs.declared.client.Client.{Client}
use Rattle.relay_server.specs.declared.offer.Answer.{Answer}
use Rattle.relay_server.specs.declared.offer.Answer.TheVariants as answer
use Rattle.relay_server.specs.declared.reply_table.Row.TheVariants as row
use Rattle.relay_server.specs.Dialogue.{IsDialogue, Offered, Said, Takes, Turn, answers_in, offers_in, read_by, offered_by, answered_by, row_of_answer}
use Rattle.relay_server.specs.Reply.{reply_of}
use Rattle.relay_routes.specs.declared.bare_newlines.BareNewlines.{BareNewlines}
use Rattle.relay_routes.specs.declared.bare_newlines.BareNewlines.TheVariants.{Pass, Refuse}
use Rattle.relay_body.specs.BareEnds.{has_bare_end}
use Rattle.relay_body.specs.Nul.{has_nul}
use Rattle.relay_server.specs.declared.reply_table.Row.{Row}
use Rattle.relay_server.specs.ReplyTable.{Replies, Offers, offer_unless, refusal_by, unless_refused}
use Rattle.relay_server.specs.Setup.{Setup}
use Rattle.relay_server.specs.State.{State, Command, Greeted, Receiving, Spent}
use Rattle.relay_book.specs.declared.change.Verdict.{Verdict}
use Rattle.relay_book.specs.declared.change.Verdict.TheVariants.{Later, Taken}
use Rattle.relay_course.specs.declared.awaited.Awaited.TheVariants.{Data, Content}
use Rattle.relay_course.specs.WrittenLine.{data_line, last_chunk}
use Rattle.relay_course.specs.VerdictTable.{content_verdict_by, kind_of, rcpt_verdict, refusal, some_accepted, verdicts_of}
use Rattle.relay_course.specs.Progress.{Delivery, Answered, Progress, answer_of, progress}
use Rattle.relay_course.specs.Course.{joined}
use Rattle.relay_course.specs.Laws.{IsDelivery}
use Rattle.relay_course.specs.RelayLaws.{answered_rcpts, content_answers, content_replies, last_verdict, opening_replies, relay_progress, relay_replies}
use Rattle.relay_course.proofs.Theorems.{commands_to_a_relay, end_is_end, end_waits_for_nothing}
use Rattle.relay_meeting.specs.Meeting.{AreExpected, Plays, Step, replies_by, state_after, step_of}
use Rattle.relay_meeting.specs.Script.{AreRcpts, AreTried, Tried, course_of_last_chunk, course_of_mail_data, refusal_row, row_of_rcpt, quit_step, content_steps, rcpt_steps, with_tried, client_in, envelope_after, opened_of, script_of}
use Rattle.relay_meeting.specs.Joined.{AreJoined, HaveEnded, IsCutShort, MayClose, Tells, TwoRelaysEnd, child_envelope, verdict_at}
use Rattle.relay_meeting.proofs.MeetLemmas.{either_begins, meeting, taken_expected}
use Rattle.relay_meeting.proofs.ScriptLemmas.{script_is_servers}
use Rattle.relay_meeting.proofs.WritesLemmas.{AllReplies, all_replies, as_many_tried, client_writes, content_replies_by, fill, has_some}
use Rattle.relay_meeting.proofs.JoinLemmas.{all_written, sent_by, turns-answered}
use Rattle.relay_meeting.proofs.CutShortLemmas.{last_takes_none}

pub plays_expected : (host : List ℕ) (script : List Step) (turns : List Turn) → Plays host script turns
    → AreExpected host script (replies_by turns)
plays_expected host script [] plays = tt
plays_expected host [] (turn ∷ turns) plays = absurd plays
plays_expected host (step ∷ script) (turn ∷ turns) plays =
    (taken_expected host step.course turn (state_after step.course) plays.1, plays_expected host script turns plays.2)

-- the verdicts by the table
accepted_verdict : (host : List ℕ) → rcpt_verdict (reply_of host row.RecipientOk) ≡ None
unfolding reply_of
accepted_verdict host = refl

refused_verdict : (host : List ℕ) (routed : Bool)
    → rcpt_verdict (reply_of host (refusal_row routed)) ≡ Some (refusal (reply_of host (refusal_row routed)))
unfolding reply_of
refused_verdict host true = refl
refused_verdict host false = refl

verdict_of_rcpt : (host : List ℕ) (routed goes : Bool) (last : Verdict)
    → unwrap_or (rcpt_verdict (reply_of host (row_of_rcpt routed goes))) last
    ≡ cond goes last (refusal (reply_of host (refusal_row routed)))
verdict_of_rcpt host routed true last = ap (λ v. unwrap_or v last) (accepted_verdict host)
verdict_of_rcpt host routed false last = ap (λ v. unwrap_or v last) (refused_verdict host routed)

verdicts_are : (host : List ℕ) (places : List ℕ) (tried : List Tried) (rcpts : List Reply) (last : Verdict)
    → length tried ≡ length places → AreRcpts host tried rcpts
    → verdicts_of places rcpts last ≡ map (verdict_at host last) tried
verdicts_are host [] [] rcpts last n are = refl
verdicts_are host [] (one ∷ tried) rcpts last n are = absurd (omega arith)
verdicts_are host (place ∷ places) [] rcpts last n are = absurd (omega arith)
verdicts_are host (place ∷ places) (one ∷ tried) [] last n are = absurd are
verdicts_are host (place ∷ places) (one ∷ tried) (reply ∷ rcpts) last n are =
    let first : unwrap_or (rcpt_verdict reply) last ≡ verdict_at host last one =
    ap (λ r. unwrap_or (rcpt_verdict r) last) are.0 ∙ verdict_of_rcpt host one.routed one.goes last in
    ap (λ v. v ∷ verdicts_of places rcpts last) first
    ∙ ap (λ l. verdict_at host last one ∷ l) (verdicts_are host places tried rcpts last (omega arith) are.1)

-- the verdict of a content's reply
abbrev verdict_by : Reply → Verdict
verdict_by reply = content_verdict_by true (kind_of reply.code) reply

not_taken-later : (dsn : Bool) → Later ≢ Taken dsn
not_taken-later dsn = λ e. (cc)

refused-not : (reply : Reply) (dsn : Bool) → refusal reply ≢ Taken dsn
refused-not reply dsn = λ e. (cc)

queued_verdict : (host : List ℕ) (number : ℕ) → verdict_by (reply_of host (row.Queued number)) ≡ Taken true
unfolding reply_of
queued_verdict host number = refl

full_verdict : (host : List ℕ) → verdict_by (reply_of host row.SpoolFull) ≡ Later
unfolding reply_of
full_verdict host = refl

many_verdict : (host : List ℕ) → verdict_by (reply_of host row.TooManyReceived) ≡ refusal (reply_of host row.TooManyReceived)
unfolding reply_of
many_verdict host = refl

large_verdict : (host : List ℕ) → verdict_by (reply_of host row.ContentTooLarge) ≡ refusal (reply_of host row.ContentTooLarge)
unfolding reply_of
large_verdict host = refl

bare_verdict : (host : List ℕ) → verdict_by (reply_of host row.BareLineEnd) ≡ refusal (reply_of host row.BareLineEnd)
unfolding reply_of
bare_verdict host = refl

nul_verdict : (host : List ℕ) → verdict_by (reply_of host row.NulInContent) ≡ refusal (reply_of host row.NulInContent)
unfolding reply_of
nul_verdict host = refl

-- the row that refuses a content is a refusal for good
abbrev RefusesFor : List ℕ → Option Row → Type 0
RefusesFor host None = Unit {0}
RefusesFor host (Some why) = verdict_by (reply_of host why) ≡ refusal (reply_of host why)

refuses_for : (host : List ℕ) (rule : BareNewlines) (content : List ℕ) → RefusesFor host (refusal_by rule content)
refuses_for host Pass content = tt
refuses_for host Refuse content = by (has_bare_end content) (has_nul content)
  where
    by : (is_bare has : Bool) → RefusesFor host (cond is_bare (Some row.BareLineEnd) (cond has (Some row.NulInContent) None))
    by true has = bare_verdict host
    by false true = nul_verdict host
    by false false = tt

refused_tells : (last : Verdict) (reply : Reply) (answers : List Answer) → last ≡ refusal reply → answers ≡ []
    → Tells last answers
refused_tells last reply answers e a = inr (λ dsn h. refused-not reply dsn (sym e ∙ h), inl a)

given_tells : (host : List ℕ) (given : Answer) (last : Verdict) (answers : List Answer)
    → last ≡ verdict_by (reply_of host (row_of_answer given)) → answers ≡ given ∷ [] → Tells last answers
given_tells host (answer.Queued number) last answers e a = inl (e ∙ queued_verdict host number, (number, a))
given_tells host answer.Full last answers e a = inr (λ dsn h. not_taken-later dsn (sym (full_verdict host) ∙ sym e ∙ h), inr a)

offer_tells : (host : List ℕ) (client : Client) (envelope : Envelope) (content : List ℕ) (found : Option Row) (turn : Turn)
    (new : State) → RefusesFor host found → Takes host (offer_unless found client envelope content) turn new
    → Tells (verdict_by turn.reply) (answers_in turn.offer)
offer_tells host client envelope content (Some why) turn new refuses takes =
    refused_tells (verdict_by turn.reply) (reply_of host why) (answers_in turn.offer)
    (ap verdict_by takes.0 ∙ refuses) (ap answers_in takes.1)
offer_tells host client envelope content None turn new refuses takes =
    given_tells host takes.0 (verdict_by turn.reply) (answers_in turn.offer) (ap verdict_by takes.1) (ap answers_in takes.2)

content_tells : (host : List ℕ) (rule : BareNewlines) (client : Client) (envelope : Envelope) (content : List ℕ) (over : State)
    (fits many : Bool) (turn : Turn) (new : State)
    → Takes host (unless_refused rule (cond fits (cond many (Replies row.TooManyReceived (Command (Greeted client)))
    (Offers client envelope content)) (Replies row.ContentTooLarge over))) turn new
    → Tells (verdict_by turn.reply) (answers_in turn.offer)
content_tells host rule client envelope content over true true turn new takes =
    refused_tells (verdict_by turn.reply) (reply_of host row.TooManyReceived) (answers_in turn.offer)
    (ap verdict_by takes.0 ∙ many_verdict host) (ap answers_in takes.1)
content_tells host rule client envelope content over true false turn new takes =
    offer_tells host client envelope content (refusal_by rule content) turn new (refuses_for host rule content) takes
content_tells host rule client envelope content over false many turn new takes =
    refused_tells (verdict_by turn.reply) (reply_of host row.ContentTooLarge) (answers_in turn.offer)
    (ap verdict_by takes.0 ∙ large_verdict host) (ap answers_in takes.1)

-- QUIT has no answer
quit_answers : (host : List ℕ) (turns : List Turn) → Plays host (quit_step ∷ []) turns → answered_by turns ≡ []
quit_answers host [] plays = refl
quit_answers host (turn ∷ []) plays = ap (λ o. answers_in o ++ []) plays.1.1
quit_answers host (turn ∷ next ∷ turns) plays = absurd plays.2

after_content : (answers more : List Answer) (last : Verdict) → more ≡ [] → Tells last answers → Tells last (answers ++ more)
after_content answers more last e tells =
    subst (λ (l : List Answer). Tells last l) (sym (append-nil answers) ∙ ap (λ l. answers ++ l) (sym e)) tells

-- the turns of the content, which come as far as its reply
text_tells : (host : List ℕ) (client : Client) (envelope : Envelope) (text chunk : Step) (t : Bool) (turns : List Turn)
    (input content : Reply) (later : List Reply)
    → ((turn : Turn) → Takes host text.course turn (state_after text.course)
    → Tells (verdict_by turn.reply) (answers_in turn.offer))
    → ((turn : Turn) → Takes host chunk.course turn (state_after chunk.course)
    → Tells (verdict_by turn.reply) (answers_in turn.offer))
    → Plays host (cond t (step_of data_line (Replies row.StartMailInput (Receiving client envelope)) ∷ text ∷ quit_step
    ∷ []) (chunk ∷ quit_step ∷ [])) turns
    → replies_by turns ≡ cond t (input ∷ content ∷ []) (content ∷ []) ++ later
    → Tells (verdict_by content) (answered_by turns)
text_tells host client envelope text chunk true [] input content later a b plays e = absurd (omega (arith, ap length e))
text_tells host client envelope text chunk true (first ∷ []) input content later a b plays e =
    absurd (omega (arith, ap length e))
text_tells host client envelope text chunk true (first ∷ turn ∷ turns) input content later a b plays e =
    let same : turn.reply ≡ content = cc in
    let told = subst (λ (r : Reply). Tells (verdict_by r) (answers_in turn.offer)) same (a turn plays.2.1) in
    let after =
    after_content (answers_in turn.offer) (answered_by turns) (verdict_by content) (quit_answers host turns plays.2.2)
    told in
    subst (λ (l : List Answer). Tells (verdict_by content) l)
    (ap (λ o. answers_in o ++ (answers_in turn.offer ++ answered_by turns)) (sym plays.1.1)) after
text_tells host client envelope text chunk false [] input content later a b plays e = absurd (omega (arith, ap length e))
text_tells host client envelope text chunk false (turn ∷ turns) input content later a b plays e =
    let same : turn.reply ≡ content = cc in
    let told = subst (λ (r : Reply). Tells (verdict_by r) (answers_in turn.offer)) same (b turn plays.1) in
    after_content (answers_in turn.offer) (answered_by turns) (verdict_by content) (quit_answers host turns plays.2) told

-- the last verdict, where a RCPT was accepted or not
abbrev last_verdict_by : Bool → Reply → Verdict
last_verdict_by some content = cond some (verdict_by content) Later

last_tells : (host : List ℕ) (setup : Setup) (client : Client) (delivery : Delivery) (envelope : Envelope) (some : Bool)
    (turns : List Turn) (input content : Reply) (later : List Reply)
    → Plays host (cond some (content_steps setup client delivery envelope) (quit_step ∷ [])) turns
    → replies_by turns ≡ content_replies_by delivery some input content ++ later
    → Tells (last_verdict_by some content) (answered_by turns)
last_tells host setup client delivery envelope true turns input content later plays e =
    let fits : Bool = nat_le (length delivery.text) setup.max_content in
    let many : Bool = nat_le 100 (received_count_of delivery.text) in
    let text : Step = step_of delivery.dot_text (course_of_mail_data setup client envelope delivery.text) in
    let chunk : Step = step_of (last_chunk delivery.text) (course_of_last_chunk setup client envelope delivery.text) in
    text_tells host client envelope text chunk (ends_in_line_end delivery.text) turns input content later
    (λ turn takes. content_tells host setup.bare_newlines client envelope delivery.text (Command (Greeted client)) fits many turn
    (state_after text.course) takes)
    (λ turn takes. content_tells host setup.bare_newlines client envelope delivery.text (Command (Spent client)) fits many turn
    (state_after chunk.course) takes)
    plays e
last_tells host setup client delivery envelope false turns input content later plays e =
    inr (λ dsn. not_taken-later dsn, inl (quit_answers host turns plays))

rcpts_tell : (host : List ℕ) (setup : Setup) (client : Client) (delivery : Delivery) (envelope : Envelope) (tried : List Tried)
    (turns : List Turn) (rcpts : List Reply) (some : Bool) (input content : Reply) (later : List Reply)
    → Plays host (rcpt_steps setup client delivery envelope tried) turns → AreRcpts host tried rcpts
    → has_some (envelope_after envelope tried) ≡ some
    → replies_by turns ≡ rcpts ++ (content_replies_by delivery some input content ++ later)
    → Tells (last_verdict_by some content) (answered_by turns)
rcpts_tell host setup client delivery envelope [] turns [] some input content later plays are is e =
    last_tells host setup client delivery envelope some turns input content later
    (subst (λ (b : Bool). Plays host (cond b (content_steps setup client delivery envelope) (quit_step ∷ [])) turns) is plays) e
rcpts_tell host setup client delivery envelope [] turns (reply ∷ rcpts) some input content later plays are is e = absurd are
rcpts_tell host setup client delivery envelope (tried ∷ more) turns [] some input content later plays are is e = absurd are
rcpts_tell host setup client delivery envelope (tried ∷ more) [] (reply ∷ rcpts) some input content later plays are is e =
    absurd (omega (arith, ap length e))
rcpts_tell host setup client delivery envelope (tried ∷ more) (turn ∷ turns) (reply ∷ rcpts) some input content later plays
    are is e =
    let tail : replies_by turns ≡ rcpts ++ (content_replies_by delivery some input content ++ later) = cc in
    let after =
    rcpts_tell host setup client delivery (with_tried envelope tried) more turns rcpts some input content later plays.2
    are.1 is tail in
    subst (λ (l : List Answer). Tells (last_verdict_by some content) l)
    (ap (λ o. answers_in o ++ answered_by turns) (sym plays.1.1)) after

script_tells : (host : List ℕ) (setup : Setup) (delivery : Delivery) (tried : List Tried) (turns : List Turn) (hello mail : Reply)
    (rcpts : List Reply) (some : Bool) (input content : Reply) (later : List Reply)
    → Plays host (script_of setup delivery tried) turns → AreRcpts host tried rcpts → has_some (child_envelope delivery tried) ≡ some
    → replies_by turns ≡ hello ∷ mail ∷ (rcpts ++ (content_replies_by delivery some input content ++ later))
    → Tells (last_verdict_by some content) (answered_by turns)
script_tells host setup delivery tried [] hello mail rcpts some input content later plays are is e =
    absurd (omega (arith, ap length e))
script_tells host setup delivery tried (first ∷ []) hello mail rcpts some input content later plays are is e =
    absurd (omega (arith, ap length e))
script_tells host setup delivery tried (first ∷ second ∷ turns) hello mail rcpts some input content later plays are is e =
    let tail : replies_by turns ≡ rcpts ++ (content_replies_by delivery some input content ++ later) = cc in
    let after =
    rcpts_tell host setup (client_in delivery) delivery (opened_of delivery.envelope) tried turns rcpts some input content
    later plays.2.2 are is tail in
    subst (λ (l : List Answer). Tells (last_verdict_by some content) l)
    (ap (λ o. answers_in o ++ answered_by turns) (sym plays.2.1.1)
    ∙ ap (λ o. answers_in o ++ answered_by (second ∷ turns)) (sym plays.1.1)) after

-- replies that ended the course of a whole conversation are all of it
ended_whole : (delivery : Delivery) (replies whole : List Reply) (verdicts : List Verdict)
    → (progress delivery whole).waits ≡ [] → length (progress delivery whole).answered ≡ length whole
    → (progress delivery replies).verdicts ≡ Some verdicts → length (progress delivery replies).answered ≡ length replies
    → Begins replies whole ⊎ Begins whole replies → replies ≡ whole
ended_whole delivery replies whole verdicts waits count ended each (inl ([], is)) = sym (append-nil replies) ∙ sym is
ended_whole delivery replies whole verdicts waits count ended each (inl (reply ∷ later, is)) =
    let same : progress delivery whole ≡ progress delivery replies =
    ap (progress delivery) is ∙ end_is_end delivery replies (reply ∷ later)
    (end_waits_for_nothing delivery replies verdicts ended) in
    let a = ap (λ (c : Progress). length c.answered) same in
    let b = ap length is ∙ length-append replies (reply ∷ later) in
    absurd (omega (arith, a, b))
ended_whole delivery replies whole verdicts waits count ended each (inr ([], is)) = is ∙ append-nil whole
ended_whole delivery replies whole verdicts waits count ended each (inr (reply ∷ later, is)) =
    let same : progress delivery replies ≡ progress delivery whole =
    ap (progress delivery) is ∙ end_is_end delivery whole (reply ∷ later) waits in
    let a = ap (λ (c : Progress). length c.answered) same in
    let b = ap length is ∙ length-append whole (reply ∷ later) in
    absurd (omega (arith, a, b))

-- at a relay each reply answers something
rcpts-count : (places : List ℕ) (rcpts : List Reply) → length rcpts ≡ length places
    → length (answered_rcpts places rcpts) ≡ length rcpts
rcpts-count [] [] e = refl
rcpts-count [] (reply ∷ rcpts) e = absurd (omega (arith, e))
rcpts-count (place ∷ places) [] e = absurd (omega (arith, e))
rcpts-count (place ∷ places) (reply ∷ rcpts) e = ap suc (rcpts-count places rcpts (omega (arith, e)))

either-count : {A B : Type 0} (some ends : Bool) (one two three : A) (first second third : B)
    → length (cond some (cond ends (one ∷ two ∷ []) (three ∷ [])) [])
    ≡ length (cond some (cond ends (first ∷ second ∷ []) (third ∷ [])) [])
either-count true true one two three first second third = refl
either-count true false one two three first second third = refl
either-count false ends one two three first second third = refl

each-answers : (delivery : Delivery) (greeting hello mail input content : Reply) (rcpts : List Reply)
    → length rcpts ≡ length delivery.places
    → length (relay_progress delivery greeting hello mail rcpts input content).answered
    ≡ length (relay_replies delivery greeting hello mail rcpts input content)
each-answers delivery greeting hello mail input content rcpts e =
    let answers : List Answered = answered_rcpts delivery.places rcpts in
    let last : List Answered = content_answers delivery rcpts input content in
    let after : List Reply = content_replies delivery rcpts input content in
    let same : length last ≡ length after =
    either-count (some_accepted rcpts) (ends_in_line_end delivery.text) (answer_of Data input)
    (answer_of Content content) (answer_of Content content) input content content in
    omega (arith, length-append answers last, length-append rcpts after, rcpts-count delivery.places rcpts e, same)

-- What both ends have said: the turns are of the script, and their replies, with others after them, are those of a
-- whole conversation. Of these the client has read a beginning, and that of a server that closed.
pub record Conversed (setup : Setup) (delivery : Delivery) (tried : List Tried) (closing : Option Reply) (turns : List Turn)
    (replies : List Reply) : Type 0 where
  pub plays : Plays setup.host (script_of setup delivery tried) turns
  pub heard : Begins replies (sent_by setup.host turns closing)
  pub later : List Reply
  pub parts : AllReplies setup delivery tried (replies_by turns ++ later)

pub conversed : (setup : Setup) (delivery : Delivery) (tried : List Tried) (said : Said) (closing : Option Reply)
    (input output : List ℕ) (replies : List Reply) (rest : List ℕ)
    → IsDelivery delivery → AreTried setup delivery.envelope.recipients delivery.places tried
    → (ends : AreJoined setup delivery said closing input output replies rest)
    → Conversed setup delivery tried closing ends.dialogue.turns replies
conversed setup delivery tried said closing input output replies rest is all ends =
    let script : List Step = script_of setup delivery tried in
    let d = ends.dialogue in
    let heard = all_written setup said closing input replies rest d ends.numbered ends.closes ends.host ends.cut ends.down in
    let octets : joined (progress delivery replies).commands ≡ read_by d.turns ++ (d.rest ++ ends.up.0) =
    sym ends.written ∙ ends.up.1 ∙ ap (λ l. l ++ ends.up.0) d.input ∙ append_assoc (read_by d.turns) d.rest ends.up.0 in
    let meets = meeting setup (reply_of setup.host row.Greeting) (λ l. (progress delivery l).commands) script d.state d.turns
    (option_to_list closing) replies heard.0 (d.rest ++ ends.up.0) (client_writes setup delivery tried is all)
    (script_is_servers setup delivery tried is all) d.runs octets heard.1 in
    let filled = fill setup.host script (replies_by d.turns) (plays_expected setup.host script d.turns meets.plays) in
    record {
      plays = meets.plays;
      heard = heard;
      later = filled.later;
      parts = all_replies setup delivery tried (replies_by d.turns ++ filled.later) filled.expected filled.all;
    }

-- turns with an offer reach as far as the content's reply
content_reached : (host : List ℕ) (client : Client) (envelope : Envelope) (text chunk : Step) (some ends : Bool)
    (turns : List Turn) (input content : Reply)
    → Plays host (cond some (cond ends (step_of data_line (Replies row.StartMailInput (Receiving client envelope)) ∷ text
    ∷ quit_step ∷ []) (chunk ∷ quit_step ∷ [])) (quit_step ∷ [])) turns
    → 0 < length (offered_by turns)
    → length (cond some (cond ends (input ∷ content ∷ []) (content ∷ [])) []) ≤ length turns
content_reached host client envelope text chunk true true [] input content plays h = absurd (omega (arith, h))
content_reached host client envelope text chunk true true (turn ∷ []) input content plays h =
    absurd (omega (arith, h, ap (λ o. length (offers_in o ++ [])) plays.1.1))
content_reached host client envelope text chunk true true (turn ∷ next ∷ turns) input content plays h = omega arith
content_reached host client envelope text chunk true false [] input content plays h = absurd (omega (arith, h))
content_reached host client envelope text chunk true false (turn ∷ turns) input content plays h = omega arith
content_reached host client envelope text chunk false ends turns input content plays h = omega arith

rcpts_reached : (host : List ℕ) (setup : Setup) (client : Client) (delivery : Delivery) (envelope : Envelope)
    (tried : List Tried) (turns : List Turn) (some : Bool) (input content : Reply)
    → Plays host (rcpt_steps setup client delivery envelope tried) turns
    → has_some (envelope_after envelope tried) ≡ some → 0 < length (offered_by turns)
    → length tried + length (content_replies_by delivery some input content) ≤ length turns
rcpts_reached host setup client delivery envelope [] turns some input content plays is h =
    let reached = content_reached host client envelope
    (step_of delivery.dot_text (course_of_mail_data setup client envelope delivery.text))
    (step_of (last_chunk delivery.text) (course_of_last_chunk setup client envelope delivery.text)) some
    (ends_in_line_end delivery.text) turns input content
    (subst (λ (b : Bool). Plays host (cond b (content_steps setup client delivery envelope) (quit_step ∷ [])) turns) is plays)
    h in
    omega (arith, reached)
rcpts_reached host setup client delivery envelope (tried ∷ more) [] some input content plays is h =
    absurd (omega (arith, h))
rcpts_reached host setup client delivery envelope (tried ∷ more) (turn ∷ turns) some input content plays is h =
    let none = ap (λ o. length (offers_in o ++ offered_by turns)) plays.1.1 in
    let after = rcpts_reached host setup client delivery (with_tried envelope tried) more turns some input content plays.2
    is (omega (arith, h, none)) in
    omega (arith, after)

pub script_reached : (setup : Setup) (delivery : Delivery) (tried : List Tried) (turns : List Turn) (some : Bool)
    (input content : Reply) → Plays setup.host (script_of setup delivery tried) turns
    → has_some (child_envelope delivery tried) ≡ some → 0 < length (offered_by turns)
    → suc (suc (length tried + length (content_replies_by delivery some input content))) ≤ length turns
script_reached setup delivery tried [] some input content plays is h = absurd (omega (arith, h))
script_reached setup delivery tried (first ∷ []) some input content plays is h =
    absurd (omega (arith, h, ap (λ o. length (offers_in o ++ [])) plays.1.1))
script_reached setup delivery tried (first ∷ second ∷ turns) some input content plays is h =
    let none = ap (λ o. length (offers_in o ++ offered_by (second ∷ turns))) plays.1.1 in
    let nothing = ap (λ o. length (offers_in o ++ offered_by turns)) plays.2.1.1 in
    let after = rcpts_reached setup.host setup (client_in delivery) delivery (opened_of delivery.envelope) tried turns some input
    content plays.2.2 is (omega (arith, h, none, nothing)) in
    omega (arith, after)

-- replies that were read begin those of the turns; or they are all of these, and that of a server that closed
closed_or_not : (closing : Option Reply) (replies all : List Reply) → Begins replies (all ++ option_to_list closing)
    → Begins replies all ⊎ ((reply : Reply) × (closing ≡ Some reply) × (replies ≡ all ++ reply ∷ []))
closed_or_not None replies all heard = inl (heard.0, sym (append-nil all) ∙ heard.1)
closed_or_not (Some reply) replies all heard = by (either_begins replies all heard.0 (reply ∷ []) (sym heard.1))
  where
    by : Begins replies all ⊎ Begins all replies
        → Begins replies all ⊎ ((one : Reply) × (Some reply ≡ Some one) × (replies ≡ all ++ one ∷ []))
    by (inl begins) = inl begins
    by (inr ([], is)) = inl ([], sym (append-nil all) ∙ sym is ∙ sym (append-nil replies))
    by (inr (one ∷ [], is)) =
        let line : all ++ (one ∷ heard.0) ≡ all ++ reply ∷ [] =
        sym (append_assoc all (one ∷ []) heard.0) ∙ ap (λ l. l ++ heard.0) (sym is) ∙ sym heard.1 in
        let last : one ∷ heard.0 ≡ reply ∷ [] = append_cancel_left all (one ∷ heard.0) (reply ∷ []) line in
        let same : one ≡ reply = cc in
        inr (reply, refl, is ∙ ap (λ r. all ++ r ∷ []) same)
    by (inr (one ∷ next ∷ more, is)) =
        let a = ap length is in
        let b = length-append all (one ∷ next ∷ more) in
        let c = ap length heard.1 in
        let d = length-append all (reply ∷ []) in
        let e = length-append replies heard.0 in
        absurd (omega (arith, a, b, c, d, e))

none_offered : (offers : List Offered) → (0 < length offers → ⊥) → offers ≡ []
none_offered [] h = refl
none_offered (offer ∷ offers) h = absurd (h (omega arith))

nothing_more : {A : Type 0} (xs : List A) → length xs ≡ 0 → xs ≡ []
nothing_more [] e = refl
nothing_more (x ∷ xs) e = absurd (omega (arith, e))

module _ (setup : Setup) (delivery : Delivery) (tried : List Tried) (said : Said) (closing : Option Reply)
    (input output : List ℕ) (replies : List Reply) (rest : List ℕ) (verdicts : List Verdict)
    (is : IsDelivery delivery) (all : AreTried setup delivery.envelope.recipients delivery.places tried)
    (ends : AreJoined setup delivery said closing input output replies rest)
    (each : length (progress delivery replies).answered ≡ length replies)
    (ended : (progress delivery replies).verdicts ≡ Some verdicts) where
  abbrev greeting : Reply
  greeting = reply_of setup.host row.Greeting

  abbrev hello : Reply
  hello = reply_of setup.host row.Extensions

  abbrev d : IsDialogue setup said
  d = ends.dialogue

  abbrev told : List Reply
  told = replies_by d.turns

  talk : Conversed setup delivery tried closing d.turns replies
  talk = conversed setup delivery tried said closing input output replies rest is all ends

  parts : AllReplies setup delivery tried (told ++ talk.later)
  parts = talk.parts

  many : length tried ≡ length delivery.places
  many = as_many_tried setup delivery.envelope.recipients delivery.places tried all

  abbrev whole : List Reply
  whole = relay_replies delivery greeting hello parts.mail parts.rcpts parts.input parts.content

  abbrev after : List Reply
  after = content_replies delivery parts.rcpts parts.input parts.content

  at : progress delivery whole ≡ relay_progress delivery greeting hello parts.mail parts.rcpts parts.input parts.content
  at = commands_to_a_relay delivery greeting hello parts.mail parts.input parts.content parts.rcpts parts.willing
      (parts.count ∙ many)

  -- the replies are all of a conversation, where they begin it or go beyond it
  all_of_it : Begins replies whole ⊎ Begins whole replies → replies ≡ whole
  all_of_it either =
      ended_whole delivery replies whole verdicts (ap (λ (end : Progress). end.waits) at)
      (ap (λ (end : Progress). length end.answered) at
      ∙ each-answers delivery greeting hello parts.mail parts.input parts.content parts.rcpts (parts.count ∙ many))
      ended each either

  -- it was the dialogue's replies that ended the attempt
  by_dialogue : Begins replies (greeting ∷ told) → HaveEnded setup delivery tried said verdicts
  by_dialogue heard =
      let line : replies ++ (heard.0 ++ talk.later) ≡ whole ++ parts.quit ∷ [] =
      sym (append_assoc replies heard.0 talk.later) ∙ ap (λ l. l ++ talk.later) (sym heard.1) ∙ parts.replies_are in
      let same = all_of_it (either_begins replies whole (heard.0 ++ talk.later) (parts.quit ∷ []) line) in
      let last : Verdict = last_verdict parts.rcpts parts.content in
      let turned : greeting ∷ told ≡ whole ++ heard.0 = heard.1 ∙ ap (λ l. l ++ heard.0) same in
      let rest_is : told ≡ hello ∷ parts.mail ∷ ((parts.rcpts ++ after) ++ heard.0) = cc in
      record {
        last = last;
        verdicts_are = same_Some verdicts (verdicts_of delivery.places parts.rcpts last)
            (sym ended ∙ ap (λ l. (progress delivery l).verdicts) same ∙ ap (λ (end : Progress). end.verdicts) at)
            ∙ verdicts_are setup.host delivery.places tried parts.rcpts last many parts.are;
        tells = subst (λ (l : List Answer). Tells last l) (sym d.answers)
            (script_tells setup.host setup delivery tried d.turns hello parts.mail parts.rcpts
            (some_accepted parts.rcpts) parts.input parts.content heard.0 talk.plays parts.are parts.some
            (rest_is ∙ ap (λ l. hello ∷ parts.mail ∷ l) (append_assoc parts.rcpts after heard.0)));
      }

  -- it was the reply with which the server closed
  module _ (reply : Reply) (closed : closing ≡ Some reply) (replies_are : replies ≡ (greeting ∷ told) ++ reply ∷ []) where
    closes : MayClose said (Some reply)
    closes = subst (λ (c : Option Reply). MayClose said c) closed ends.closes

    -- with an offer all of a conversation was read before
    reaches : length whole ≤ length (greeting ∷ told) → Begins whole replies
    reaches short =
        elim (either_begins (greeting ∷ told) whole talk.later (parts.quit ∷ []) parts.replies_are) [
          | inl begins ↦
              let a = ap length begins.1 in
              let b = length-append (greeting ∷ told) begins.0 in
              let none : begins.0 ≡ [] = nothing_more begins.0 (omega (arith, a, b, short)) in
              let same : whole ≡ greeting ∷ told =
              begins.1 ∙ ap (λ l. (greeting ∷ told) ++ l) none ∙ append-nil (greeting ∷ told) in
              (reply ∷ [], replies_are ∙ ap (λ l. l ++ reply ∷ []) (sym same))
          | inr begins ↦ (
            begins.0 ++ reply ∷ [],
            replies_are ∙ ap (λ l. l ++ reply ∷ []) begins.1 ∙ append_assoc whole begins.0 (reply ∷ []),
          )
        ]

    no_offer : 0 < length said.offers → ⊥
    no_offer some =
        let even = closes.2 in
        let answers = ap length d.answers in
        let turned = turns-answered d.turns in
        let reached = script_reached setup delivery tried d.turns (some_accepted parts.rcpts) parts.input parts.content
        talk.plays parts.some (omega (arith, some, even, answers, turned)) in
        let count = length-map d.turns (λ (turn : Turn). turn.reply) in
        let rcpts = parts.count in
        let size = length-append (opening_replies greeting hello parts.mail parts.rcpts) after in
        let same = all_of_it (inr (reaches (omega (arith, reached, count, rcpts, size)))) in
        let a = ap length same in
        let b = ap length replies_are in
        let c = length-append (greeting ∷ told) (reply ∷ []) in
        omega (arith, a, b, c, reached, count, rcpts, size)

    short : IsCutShort said closing verdicts
    short = record {
      reply = reply;
      closed = closed;
      none = none_offered said.offers no_offer;
      untaken = last_takes_none delivery (greeting ∷ told) reply verdicts (ap kind_of closes.1)
          (subst (λ (l : List Reply). length (progress delivery l).answered ≡ length l) replies_are each)
          (subst (λ (l : List Reply). (progress delivery l).verdicts ≡ Some verdicts) replies_are ended);
    }

  so_ended : HaveEnded setup delivery tried said verdicts ⊎ IsCutShort said closing verdicts
  so_ended = elim (closed_or_not closing replies (greeting ∷ told) talk.heard) [
    | inl heard ↦ inl (by_dialogue heard)
    | inr last ↦ inr (short last.0 last.1 last.2)
  ]

pub two_relays_end : TwoRelaysEnd
two_relays_end setup delivery tried said closing input output replies rest verdicts is all ends each ended =
    so_ended setup delivery tried said closing input output replies rest verdicts is all ends each ended
