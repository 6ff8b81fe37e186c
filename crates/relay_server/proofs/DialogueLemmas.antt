-- Dialogues: runs of turns, what a session holds of them, and what fixes them.
use Rattle.std.proofs.Common.{◌≡◌, ◌<◌, ◌+◌, ℕ, List, [], ◌∷◌, ◌++◌, length, inl, inr, refl, sym, subst, ap, ◌∙◌, arith, append_assoc, length-append}
use Rattle.std.proofs.lemmas.List.{append-nil}
use Rattle.relay_octets.specs.Line.{crlf}
use Rattle.relay_octets.proofs.Theorems.{first_line_is_one}
use Rattle.relay_body.proofs.Theorems.{reading_has_no_dot_text}
use Rattle.relay_lines.specs.HeldLine.{HeldLine, Holds}
use Rattle.relay_lines.specs.Reply.{reply_text}
use Rattle.relay_lines.specs.declared.chunk_argument.BdatArgument.{BdatArgument}
use Rattle.relay_server.specs.declared.offer.Answer.{Answer}
use Rattle.relay_server.specs.declared.reply_table.Row.TheVariants.{Greeting}
use Rattle.relay_server.specs.declared.stage.Stage.{Stage}
use Rattle.relay_server.specs.declared.stage.Stage.TheVariants as stage
use Rattle.relay_server.specs.Dialogue.{Offered, Turn, Answers, Turns, IsLeft, offered_of, read_by, written_by, offered_by, answered_by, answers_in, row_of_answer}
use Rattle.relay_server.specs.DialogueLaws.{RunsCompose, WhatStandsIsADialogue, OutputIsFixed}
use Rattle.relay_server.specs.Reply.{reply_of}
use Rattle.relay_server.specs.ReplyTable.{Course, Replies, Offers}
use Rattle.relay_server.specs.Machine.{AnnouncesChunk, Keeps, offers_at}
use Rattle.relay_server.specs.Setup.{Setup}
use Rattle.relay_server.specs.State.{CommandState, State, Command, start}
use Rattle.relay_server.specs.Unit.{HasNoUnit, announced_of}
use Rattle.relay_server.specs.Values.{command_state_of}
use Rattle.relay_server.proofs.ChunkLemmas.{announced, chunk_missing}
use Rattle.relay_server.proofs.TurnLemmas.{asked_is_unit, as_many_answers, course_is_one, course_of_unit, row_is_fixed, unit_is_offered}
use Rattle.relay_server.proofs.UnitLemmas.{no_unit_begins_another, same_parts}

-- a part of a line is no unit
no_line_unit : (state : CommandState) (line : HeldLine) (rest : List ℕ) → Holds line rest → HasNoUnit (Command state) rest
no_line_unit state line rest holds unit more is e =
    holds.unended.nowhere is.0 (is.1 ++ more) (e ∙ ap (λ u. u ++ more) is.2.unit_is ∙ append_assoc (is.0 ++ crlf) is.1 more)

-- runs compose
pub runs_compose : RunsCompose
runs_compose setup old mid new [] more one two =
    subst (λ (state : State). Turns setup state more new) (sym one) two
runs_compose setup old mid new (turn ∷ turns) more one two =
    (one.0, one.1, runs_compose setup one.0 mid new turns more one.2 two)

-- a chunk that hasn't come whole makes no unit
unended_chunk : (octets part : List ℕ) (argument : BdatArgument) (missing : ℕ) → AnnouncesChunk octets argument part → argument.size ≡ length part + missing → 0 < missing → (state : CommandState) → HasNoUnit (Command state) octets
unended_chunk octets part argument missing begins size some state unit rest is e =
    let text = begins.text in
    let same = first_line_is_one octets text part is.0 (is.1 ++ rest) (record { text = begins.octets_are; first = begins.line }) (record {
      text = e ∙ ap (λ u. u ++ rest) is.2.unit_is ∙ append_assoc (is.0 ++ crlf) is.1 rest;
      first = is.2.line;
    }) in
    let counted = is.2.counted ∙ ap announced_of (sym same.0) ∙ announced text argument begins.short begins.reads in
    let sum = ap length same.1 ∙ length-append is.1 rest in
    omega (arith, counted, sum, size, some)

-- what a session keeps is what is left of the input
left_by : (setup : Setup) (line : HeldLine) (now : Stage) (state : State) (rest : List ℕ) → Keeps setup line now state rest → IsLeft setup state rest (offers_at now)
left_by setup line (stage.Command held) state rest keeps =
    inl (subst (λ (s : State). HasNoUnit s rest) (sym keeps.0) (no_line_unit (command_state_of held) line rest keeps.1), refl)
left_by setup line (stage.Receiving mail) state rest keeps =
    inl (subst (λ (s : State). HasNoUnit s rest) (sym keeps.1.0) (λ unit more is e. (reading_has_no_dot_text mail.reader setup.max_content rest keeps.1.1).nowhere unit is.0 more is.1 e), refl)
left_by setup line (stage.Chunk chunk) state rest keeps =
    let kept = keeps.1 in
    let missing = chunk_missing chunk setup.max_content state rest kept in
    inl (subst (λ (s : State). HasNoUnit s rest) (sym kept.state_is) (unended_chunk rest kept.part kept.argument kept.chunk_is.missing kept.begins kept.chunk_is.size_is missing kept.old), refl)
left_by setup line (stage.Skipping skipped) state rest keeps =
    let kept = keeps.1 in
    inl (subst (λ (s : State). HasNoUnit s rest) (sym kept.state_is) (unended_chunk rest kept.part kept.argument skipped.missing kept.begins kept.size_is skipped.some kept.old), refl)
left_by setup line (stage.Offering transaction content) state rest keeps =
    inr (record { client = transaction.client; envelope = transaction.envelope; content = content; comes = keeps.1; offer_is = refl })
left_by setup line stage.Closed state rest keeps =
    inl (subst (λ (s : State). HasNoUnit s rest) (sym keeps.1.0) (λ unit more is e. is), refl)
left_by setup line stage.Failed state rest keeps = absurd keeps.1

-- what fits a session is a dialogue
pub what_stands_is_a_dialogue : WhatStandsIsADialogue
what_stands_is_a_dialogue setup session said stands = record {
  turns = stands.turns;
  state = stands.state;
  rest = stands.rest;
  unanswered = offers_at session.stage;
  runs = stands.runs;
  input = stands.input;
  output = stands.output;
  answers = stands.answers;
  offers = stands.offers;
  left = left_by setup session.line session.stage stands.state stands.rest stands.keeps;
}

-- the offer of a course
abbrev offers_of : Course → List Offered
offers_of (Replies row next) = []
offers_of (Offers client envelope content) = offered_of client envelope content ∷ []

-- what is left of one input has the same offer unanswered
pub left_is_one : (setup : Setup) (state : State) (rest left : List ℕ) (unanswered other : List Offered) → IsLeft setup state rest unanswered → IsLeft setup state left other → rest ≡ left → unanswered ≡ other
left_is_one setup state rest left unanswered other (inl a) (inl b) e = a.1 ∙ sym b.1
left_is_one setup state rest left unanswered other (inl a) (inr b) e =
    absurd (a.0 left [] (course_of_unit setup state left _ b.comes) (e ∙ sym (append-nil left)))
left_is_one setup state rest left unanswered other (inr a) (inl b) e =
    absurd (b.0 rest [] (course_of_unit setup state rest _ a.comes) (sym e ∙ sym (append-nil rest)))
left_is_one setup state rest left unanswered other (inr a) (inr b) e =
    let one : Course = Offers a.client a.envelope a.content in
    let two : Course = Offers b.client b.envelope b.content in
    let same : one ≡ two = course_is_one setup state rest left one two a.comes b.comes e in
    a.offer_is ∙ ap offers_of same ∙ sym b.offer_is

-- a turn that answers an offer
pub record AnswersSome (setup : Setup) (turn : Turn) : Type 0 where
  pub given : Answer
  pub reply : turn.reply ≡ reply_of setup.host (row_of_answer given)
  pub answers : answers_in turn.offer ≡ given ∷ []

-- a turn on what was left answers the offer that was unanswered
pub turn_on_left : (setup : Setup) (old new : State) (turn : Turn) (rest more : List ℕ) (unanswered : List Offered) → IsLeft setup old rest unanswered → Answers setup old turn new → rest ≡ turn.asked ++ more → AnswersSome setup turn
turn_on_left setup old new turn rest more unanswered (inl left) is e =
    absurd (left.0 turn.asked more (asked_is_unit setup old turn new is) e)
turn_on_left setup old new turn rest more unanswered (inr left) is e =
    let same = no_unit_begins_another old rest turn.asked [] more (course_of_unit setup old rest _ left.comes) (asked_is_unit setup old turn new is) (append-nil rest ∙ e) in
    let offered = unit_is_offered setup old new turn rest left.client left.envelope left.content is (sym same.0) left.comes in
    record { given = offered.given; reply = offered.reply; answers = ap answers_in offered.offer }

-- the input and the answers fix the turns, and the offer that is unanswered
run_is_fixed : (setup : Setup) (old new next : State) (turns others : List Turn) (rest left : List ℕ) (unanswered other : List Offered) → Turns setup old turns new → Turns setup old others next → IsLeft setup new rest unanswered → IsLeft setup next left other → read_by turns ++ rest ≡ read_by others ++ left → answered_by turns ≡ answered_by others → (turns ≡ others) × (unanswered ≡ other)
run_is_fixed setup old new next [] [] rest left unanswered other one two a b e given = (
  refl,
  left_is_one setup old rest left unanswered other (subst (λ (s : State). IsLeft setup s rest unanswered) (sym one) a) (subst (λ (s : State). IsLeft setup s left other) (sym two) b) e,
)
run_is_fixed setup old new next [] (turn ∷ others) rest left unanswered other one two a b e given =
    let here = subst (λ (s : State). IsLeft setup s rest unanswered) (sym one) a in
    let met = turn_on_left setup old two.0 turn rest (read_by others ++ left) unanswered here two.1 (e ∙ append_assoc turn.asked (read_by others) left) in
    let none : ◌≡◌ {A = List Answer} [] (met.given ∷ answered_by others) = given ∙ ap (λ l. l ++ answered_by others) met.answers in
    let no : ⊥ = cc in
    absurd no
run_is_fixed setup old new next (turn ∷ turns) [] rest left unanswered other one two a b e given =
    let here = subst (λ (s : State). IsLeft setup s left other) (sym two) b in
    let met = turn_on_left setup old one.0 turn left (read_by turns ++ rest) other here one.1 (sym e ∙ append_assoc turn.asked (read_by turns) rest) in
    let none : ◌≡◌ {A = List Answer} [] (met.given ∷ answered_by turns) = sym given ∙ ap (λ l. l ++ answered_by turns) met.answers in
    let no : ⊥ = cc in
    absurd no
run_is_fixed setup old new next (turn ∷ turns) (same ∷ others) rest left unanswered other one two a b e given =
    let read = no_unit_begins_another old turn.asked same.asked (read_by turns ++ rest) (read_by others ++ left) (asked_is_unit setup old turn one.0 one.1) (asked_is_unit setup old same two.0 two.1) (sym (append_assoc turn.asked (read_by turns) rest) ∙ e ∙ append_assoc same.asked (read_by others) left) in
    let many = as_many_answers setup old one.0 two.0 turn same one.1 two.1 read.0 in
    let parts = same_parts (answers_in turn.offer) (answers_in same.offer) (answered_by turns) (answered_by others) many given in
    let row = row_is_fixed setup old one.0 two.0 turn same one.1 two.1 read.0 parts.0 in
    let run = subst (λ (s : State). Turns setup s others next) (sym row.1) two.2 in
    let later = run_is_fixed setup one.0 new next turns others rest left unanswered other one.2 run a b read.1 parts.1 in
    (ap (λ t. t ∷ turns) row.0 ∙ ap (λ l. same ∷ l) later.0, later.1)

pub output_is_fixed : OutputIsFixed
output_is_fixed setup said other one two input answers =
    let same = run_is_fixed setup start one.state two.state one.turns two.turns one.rest two.rest one.unanswered two.unanswered one.runs two.runs one.left two.left (sym one.input ∙ input ∙ two.input) (sym one.answers ∙ answers ∙ two.answers) in (
      one.output ∙ ap (λ ts. reply_text (reply_of setup.host Greeting) ++ written_by ts) same.0 ∙ sym two.output,
      one.offers ∙ ap (λ ts. offered_by ts ++ one.unanswered) same.0 ∙ ap (λ l. offered_by two.turns ++ l) same.1 ∙ sym two.offers,
    )
