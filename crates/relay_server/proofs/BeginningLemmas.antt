-- Dialogues that begin others: the answers and the offers of one begin those of the other.
use Rattle.std.proofs.Common.{◌≡◌, ℕ, List, [], ◌∷◌, ◌++◌, length, inl, inr, refl, sym, subst, ap, ◌∙◌, arith, append_assoc, length-append}
use Rattle.std.proofs.lemmas.List.{append-nil, append_cancel_left}
use Rattle.relay_octets.specs.Line.{crlf}
use Rattle.relay_lines.specs.Reply.{reply_text}
use Rattle.relay_server.specs.declared.offer.Answer.{Answer}
use Rattle.relay_server.specs.declared.reply_table.Row.TheVariants.{Greeting}
use Rattle.relay_server.specs.Dialogue.{Offered, Turn, Answers, Takes, Turns, IsLeft, read_by, written_by, offered_by, answered_by, answers_in, offers_in}
use Rattle.relay_octets.specs.Beginning.{Begins}
use Rattle.relay_server.specs.DialogueLaws.{AreNumbered, BeginningsHaveBeginnings}
use Rattle.relay_server.specs.Reply.{reply_of}
use Rattle.relay_server.specs.ReplyTable.{Course, Replies, Offers}
use Rattle.relay_server.specs.Setup.{Setup}
use Rattle.relay_server.specs.State.{State, start}
use Rattle.relay_server.proofs.DialogueLemmas.{left_is_one, turn_on_left}
use Rattle.relay_server.proofs.ReplyTextLemmas.{answer_line, answer_text, answer_is_one}
use Rattle.relay_server.proofs.TurnLemmas.{asked_is_unit, course_of_unit, courses_meet, row_is_fixed, unit_is_offered}
use Rattle.relay_server.proofs.UnitLemmas.{no_unit_begins_another}

-- an empty list begins every list
begins_none : {A : Type 0} (front whole : List A) → front ≡ [] → Begins front whole
begins_none front whole e = (whole, ap (λ l. l ++ whole) (sym e))

-- after equal parts
begins_after : {A : Type 0} (front same rest whole : List A) → front ≡ same → Begins rest whole → Begins (front ++ rest) (same ++ whole)
begins_after front same rest whole e begins = (
  begins.0,
  ap (λ l. same ++ l) begins.1 ∙ ap (λ l. l ++ (rest ++ begins.0)) (sym e) ∙ sym (append_assoc front rest begins.0),
)

-- and before more
begins_around : {A : Type 0} (front same mid more rest whole : List A) → front ≡ same → Begins (mid ++ rest) (more ++ whole) → Begins ((front ++ mid) ++ rest) ((same ++ more) ++ whole)
begins_around front same mid more rest whole e begins =
    let after = begins_after front same (mid ++ rest) (more ++ whole) e begins in (
      after.0,
      append_assoc same more whole ∙ after.1 ∙ ap (λ l. l ++ after.0) (sym (append_assoc front mid rest)),
    )

-- four lists, from the first on
from_first : {A : Type 0} (first second third fourth : List A) → ((first ++ second) ++ third) ++ fourth ≡ first ++ ((second ++ third) ++ fourth)
from_first first second third fourth =
    ap (λ l. l ++ fourth) (append_assoc first second third) ∙ append_assoc first (second ++ third) fourth

-- numbers of answers in a row
pub numbered_parts : (front back : List Answer) → AreNumbered (front ++ back) → AreNumbered front × AreNumbered back
numbered_parts [] back h = (tt, h)
numbered_parts (answer ∷ front) back h =
    let later = numbered_parts front back h.1 in
    ((h.0, later.0), later.1)

-- the reply tells the answer
taken_tells : (host : List ℕ) (course : Course) (new next : State) (turn other : Turn) (after more : List ℕ) → Takes host course turn new → Takes host course other next → AreNumbered (answers_in other.offer) → reply_text turn.reply ++ after ≡ reply_text other.reply ++ more → answers_in turn.offer ≡ answers_in other.offer
taken_tells host (Replies row mid) new next turn other after more one two h e = ap answers_in (one.1 ∙ sym two.1)
taken_tells host (Offers client envelope content) new next turn other after more one two h e =
    let number = subst (λ o. AreNumbered (answers_in o)) two.2 h in
    let same = answer_is_one host one.0 two.0 after more number.0 (ap (λ r. reply_text r ++ after) (sym one.1) ∙ e ∙ ap (λ r. reply_text r ++ more) two.1) in
    ap answers_in one.2 ∙ ap (λ given. given ∷ []) same ∙ sym (ap answers_in two.2)

-- the reply to a unit tells the answer
reply_tells : (setup : Setup) (old new next : State) (turn other : Turn) (after more : List ℕ) → Answers setup old turn new → Answers setup old other next → turn.asked ≡ other.asked → AreNumbered (answers_in other.offer) → reply_text turn.reply ++ after ≡ reply_text other.reply ++ more → answers_in turn.offer ≡ answers_in other.offer
reply_tells setup old new next turn other after more one two same h e =
    taken_tells setup.host two.course new next turn other after more (courses_meet setup old new next turn other one two same) two.takes h e

-- octets read and written begin with one turn
turn_is_one : (setup : Setup) (old new next : State) (turn other : Turn) (unread left after more : List ℕ) → Answers setup old turn new → Answers setup old other next → AreNumbered (answers_in other.offer) → turn.asked ++ unread ≡ other.asked ++ left → reply_text turn.reply ++ after ≡ reply_text other.reply ++ more → (turn ≡ other) × (new ≡ next) × (unread ≡ left) × (after ≡ more)
turn_is_one setup old new next turn other unread left after more one two h e w =
    let read = no_unit_begins_another old turn.asked other.asked unread left (asked_is_unit setup old turn new one) (asked_is_unit setup old other next two) e in
    let given = reply_tells setup old new next turn other after more one two read.0 h w in
    let row = row_is_fixed setup old new next turn other one two read.0 given in
    let written = append_cancel_left (reply_text other.reply) after more (ap (λ (t : Turn). reply_text t.reply ++ after) (sym row.0) ∙ w) in
    (row.0, row.1, read.1, written)

-- the offer that is unanswered after some input is that of any longer input
left_begins : (setup : Setup) (state : State) (rest left unread : List ℕ) (unanswered other : List Offered) → IsLeft setup state rest unanswered → IsLeft setup state left other → left ≡ rest ++ unread → Begins unanswered other
left_begins setup state rest left unread unanswered other (inl a) b e = begins_none unanswered other a.1
left_begins setup state rest left unread unanswered other (inr a) (inl b) e =
    absurd (b.0 rest unread (course_of_unit setup state rest _ a.comes) e)
left_begins setup state rest left unread unanswered other (inr a) (inr b) e =
    let same = no_unit_begins_another state rest left unread [] (course_of_unit setup state rest _ a.comes) (course_of_unit setup state left _ b.comes) (sym e ∙ sym (append-nil left)) in
    let offers = left_is_one setup state rest left unanswered other (inr a) (inr b) same.0 in
    ([], sym offers ∙ sym (append-nil unanswered))

-- and the offer of the turn that reads it
turn_begins : (setup : Setup) (old new : State) (turn : Turn) (rest unread more : List ℕ) (unanswered : List Offered) → IsLeft setup old rest unanswered → Answers setup old turn new → rest ++ unread ≡ turn.asked ++ more → Begins unanswered (offers_in turn.offer)
turn_begins setup old new turn rest unread more unanswered (inl left) is e =
    begins_none unanswered (offers_in turn.offer) left.1
turn_begins setup old new turn rest unread more unanswered (inr left) is e =
    let same = no_unit_begins_another old rest turn.asked unread more (course_of_unit setup old rest _ left.comes) (asked_is_unit setup old turn new is) e in
    let offered = unit_is_offered setup old new turn rest left.client left.envelope left.content is (sym same.0) left.comes in
    ([], ap offers_in offered.offer ∙ sym left.offer_is ∙ sym (append-nil unanswered))

-- where the octets read and written begin those of other turns, so do the answers and the offers
run_begins : (setup : Setup) (old new next : State) (turns others : List Turn) (rest left unread unwritten : List ℕ) (unanswered other : List Offered) → Turns setup old turns new → Turns setup old others next → IsLeft setup new rest unanswered → IsLeft setup next left other → AreNumbered (answered_by others) → read_by others ++ left ≡ (read_by turns ++ rest) ++ unread → written_by others ≡ written_by turns ++ unwritten → Begins (answered_by turns) (answered_by others) × Begins (offered_by turns ++ unanswered) (offered_by others ++ other)
run_begins setup old new next [] [] rest left unread unwritten unanswered other one two a b h e w = (
  ([], refl),
  left_begins setup old rest left unread unanswered other (subst (λ (s : State). IsLeft setup s rest unanswered) (sym one) a) (subst (λ (s : State). IsLeft setup s left other) (sym two) b) e,
)
run_begins setup old new next [] (turn ∷ others) rest left unread unwritten unanswered other one two a b h e w =
    let here = subst (λ (s : State). IsLeft setup s rest unanswered) (sym one) a in
    let front = turn_begins setup old two.0 turn rest unread (read_by others ++ left) unanswered here two.1 (sym e ∙ append_assoc turn.asked (read_by others) left) in
    let after = offered_by others ++ other in (
      (answered_by (turn ∷ others), refl),
      (
        front.0 ++ after,
        append_assoc (offers_in turn.offer) (offered_by others) other ∙ ap (λ l. l ++ after) front.1 ∙ append_assoc unanswered front.0 after,
      ),
    )
run_begins setup old new next (turn ∷ turns) [] rest left unread unwritten unanswered other one two a b h e w =
    let here = subst (λ (s : State). IsLeft setup s left other) (sym two) b in
    let met = turn_on_left setup old one.0 turn left ((read_by turns ++ rest) ++ unread) other here one.1 (e ∙ from_first turn.asked (read_by turns) rest unread) in
    let text = ap length (ap reply_text met.reply ∙ answer_text setup.host met.given) ∙ length-append (answer_line met.given) crlf in
    let whole = ap length w ∙ length-append (reply_text turn.reply ++ written_by turns) unwritten in
    let part = length-append (reply_text turn.reply) (written_by turns) in
    absurd (omega (arith, text, whole, part))
run_begins setup old new next (turn ∷ turns) (same ∷ others) rest left unread unwritten unanswered other one two a b h e w =
    let numbers = numbered_parts (answers_in same.offer) (answered_by others) h in
    let met = turn_is_one setup old one.0 two.0 turn same ((read_by turns ++ rest) ++ unread) (read_by others ++ left) (written_by turns ++ unwritten) (written_by others) one.1 two.1 numbers.0 (sym (from_first turn.asked (read_by turns) rest unread) ∙ sym e ∙ append_assoc same.asked (read_by others) left) (sym (append_assoc (reply_text turn.reply) (written_by turns) unwritten) ∙ sym w) in
    let run = subst (λ (s : State). Turns setup s others next) (sym met.1) two.2 in
    let later = run_begins setup one.0 new next turns others rest left unread unwritten unanswered other one.2 run a b numbers.1 (sym met.2) (sym met.3) in (
      begins_after (answers_in turn.offer) (answers_in same.offer) (answered_by turns) (answered_by others) (ap (λ (t : Turn). answers_in t.offer) met.0) later.0,
      begins_around (offers_in turn.offer) (offers_in same.offer) (offered_by turns) (offered_by others) unanswered other (ap (λ (t : Turn). offers_in t.offer) met.0) later.1,
    )

pub beginnings_have_beginnings : BeginningsHaveBeginnings
beginnings_have_beginnings setup said other one two h input output =
    let greeting = reply_text (reply_of setup.host Greeting) in
    let read = sym two.input ∙ input.1 ∙ ap (λ l. l ++ input.0) one.input in
    let written = append_cancel_left greeting (written_by two.turns) (written_by one.turns ++ output.0) (sym two.output ∙ output.1 ∙ ap (λ l. l ++ output.0) one.output ∙ append_assoc greeting (written_by one.turns) output.0) in
    let same = run_begins setup start one.state two.state one.turns two.turns one.rest two.rest input.0 output.0 one.unanswered two.unanswered one.runs two.runs one.left two.left (subst AreNumbered two.answers h) read written in (
      (same.0.0, two.answers ∙ same.0.1 ∙ ap (λ l. l ++ same.0.0) (sym one.answers)),
      (same.1.0, two.offers ∙ same.1.1 ∙ ap (λ l. l ++ same.1.0) (sym one.offers)),
    )
