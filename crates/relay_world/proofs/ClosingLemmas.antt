-- A server end that closes unasked: what it wrote before, and that no dialogue goes beyond its own into the reply with
-- which it closed.
use Rattle.std.proofs.Common.{◌≡◌, ℕ, false, List, [], ◌∷◌, ◌++◌, length, Option, None, Some, codes, decimal, inl, inr, refl, sym, subst, ap, ◌∙◌, arith}
use Rattle.std.proofs.lemmas.List.{append_assoc, append_cancel_left, length-append}
use Rattle.std.proofs.lemmas.Option.{none-some}
use Rattle.relay_octets.specs.Beginning.{Begins}
use Rattle.relay_octets.specs.Line.{crlf, HasNoCrlf}
use Rattle.relay_octets.proofs.Theorems.{first_line_is_one}
use Rattle.relay_lines.specs.Reply.{Reply, reply_text}
use Rattle.relay_server.specs.declared.offer.Answer.{Answer}
use Rattle.relay_server.specs.declared.offer.Answer.TheVariants.{Queued, Full}
use Rattle.relay_server.specs.declared.reply_table.Row.TheVariants.{Greeting}
use Rattle.relay_server.specs.Dialogue.{IsDialogue, IsLeft, Offered, Said, Takes, Turn, Turns, answered_by, answers_in, offered_by, offers_in, read_by, row_of_answer, written_by}
use Rattle.relay_server.specs.Reply.{reply_of}
use Rattle.relay_server.specs.ReplyTable.{Course, Replies, Offers}
use Rattle.relay_server.specs.Setup.{Setup}
use Rattle.relay_server.specs.State.{State, start}
use Rattle.relay_server.specs.Unit.{HasNoUnit}
use Rattle.relay_server.proofs.Theorems.{asked_is_a_unit, turn_is_of_its_unit}
use Rattle.relay_book.specs.declared.change.Change.{Change}
use Rattle.relay_meeting.specs.Joined.{MayClose, output_with}
use Rattle.relay_world.specs.declared.line.Line.{Line}
use Rattle.relay_world.specs.declared.link.Link.{Link}
use Rattle.relay_world.specs.declared.link.ServerEnd.{ServerEnd}
use Rattle.relay_world.specs.Bound.{MayHaveClosed, ServesLink}
use Rattle.relay_world.specs.World.{Host}
use Rattle.relay_world.proofs.ReceivedLemmas.{both, decimal_free, is_no_lf, literal_free, no_crlf}

-- where a session goes on nothing was closed
not_closed : (session : Option ℕ) (number : ℕ) (closing : Option Reply) → session ≡ Some number
    → MayHaveClosed session closing → closing ≡ None
not_closed session number None is may = refl
not_closed None number (Some reply) is may = absurd (none-some number is)
not_closed (Some other) number (Some reply) is may = absurd may

-- where none goes on it may have been
pub may_be_over : (closing : Option Reply) → MayHaveClosed None closing
may_be_over None = tt
may_be_over (Some reply) = tt

module _ {D : Type 0} (host : Host D) (changes : List Change) (ledger : List Line) (number : ℕ) (link : Link)
    (end : ServerEnd) (serves : ServesLink host changes ledger number link end) (session : ℕ)
    (goes_on : end.session ≡ Some session) where
  pub none_closed : serves.closing ≡ None
  none_closed = not_closed end.session session serves.closing goes_on serves.closed

  -- so what it wrote is of its dialogue alone
  pub wrote_open : Begins link.down serves.said.output
  wrote_open = subst (λ c. Begins link.down (output_with serves.said.output c)) none_closed serves.wrote

  pub whole_open : link.broken ≡ false → link.down ≡ serves.said.output
  whole_open is = serves.whole is ∙ ap (output_with serves.said.output) none_closed

-- each offer of a turn has its answer
one_answered : (offer : Option (Offered × Answer)) → length (answers_in offer) ≡ length (offers_in offer)
one_answered None = refl
one_answered (Some offer) = refl

pub turns_answered : (turns : List Turn) → length (answered_by turns) ≡ length (offered_by turns)
turns_answered [] = refl
turns_answered (turn ∷ turns) =
    let first = one_answered turn.offer in
    let after = turns_answered turns in
    let answers = length-append (answers_in turn.offer) (answered_by turns) in
    let offers = length-append (offers_in turn.offer) (offered_by turns) in
    omega (arith, first, after, answers, offers)

-- a dialogue whose offers are all answered leaves no whole unit
no_unit_left : (setup : Setup) (said : Said) (d : IsDialogue setup said) → length said.answers ≡ length said.offers
    → IsLeft setup d.state d.rest d.unanswered → HasNoUnit d.state d.rest
no_unit_left setup said d even (inl none) = none.0
no_unit_left setup said d even (inr waiting) =
    let answers = ap length d.answers in
    let offers = ap length d.offers ∙ length-append (offered_by d.turns) d.unanswered in
    let one = ap length waiting.offer_is in
    let turned = turns_answered d.turns in
    absurd (omega (arith, even, answers, offers, one, turned))

-- the line of the reply to an offer
abbrev answer_line : Answer → List ℕ
answer_line (Queued number) = codes "250 queued as " ++ decimal number
answer_line Full = codes "452 spool full"

answer_text : (host : List ℕ) (given : Answer)
    → reply_text (reply_of host (row_of_answer given)) ≡ answer_line given ++ crlf
unfolding reply_of
answer_text host (Queued number) = refl
answer_text host Full = refl

answer_plain : (given : Answer) → HasNoCrlf (answer_line given)
unfolding is_no_lf
answer_plain (Queued number) = no_crlf (both (literal_free (codes "250 queued as ") refl) (decimal_free number))
answer_plain Full = no_crlf (literal_free (codes "452 spool full") refl)

-- octets begin with the text of one answer
answer_is_one : (host : List ℕ) (given other : Answer) (after more : List ℕ)
    → reply_text (reply_of host (row_of_answer given)) ++ after ≡ reply_text (reply_of host (row_of_answer other)) ++ more
    → reply_text (reply_of host (row_of_answer given)) ≡ reply_text (reply_of host (row_of_answer other))
answer_is_one host given other after more e =
    let same = first_line_is_one (reply_text (reply_of host (row_of_answer given)) ++ after) (answer_line given) after
    (answer_line other) more (record {
      text = ap (λ l. l ++ after) (answer_text host given);
      first = answer_plain given;
    }) (record {
      text = e ∙ ap (λ l. l ++ more) (answer_text host other);
      first = answer_plain other;
    }) in
    answer_text host given ∙ ap (λ l. l ++ crlf) same.0 ∙ sym (answer_text host other)

-- turns of one course have one text, where octets begin with both, and one state after them
text_is_one : (host : List ℕ) (course : Course) (turn other : Turn) (new next : State) (after more : List ℕ)
    → Takes host course turn new → Takes host course other next
    → reply_text turn.reply ++ after ≡ reply_text other.reply ++ more
    → (reply_text turn.reply ≡ reply_text other.reply) × (new ≡ next)
text_is_one host (Replies row mid) turn other new next after more one two e =
    (ap reply_text (one.0 ∙ sym two.0), one.2 ∙ sym two.2)
text_is_one host (Offers client envelope content) turn other new next after more one two e =
    let same = answer_is_one host one.0 two.0 after more
    (ap (λ r. reply_text r ++ after) (sym one.1) ∙ e ∙ ap (λ r. reply_text r ++ more) two.1) in
    (ap reply_text one.1 ∙ same ∙ sym (ap reply_text two.1), one.3 ∙ sym two.3)

-- turns that read no more than others do, after which there is no unit, write no more than those, where both write a
-- beginning of the same octets
writes_no_more : (setup : Setup) (old new next : State) (turns others : List Turn) (rest unread after more : List ℕ)
    → Turns setup old turns new → Turns setup old others next → HasNoUnit next rest
    → read_by others ++ rest ≡ read_by turns ++ unread → written_by turns ++ after ≡ written_by others ++ more
    → Begins (written_by turns) (written_by others)
writes_no_more setup old new next [] others rest unread after more one two none e w = (written_by others, refl)
writes_no_more setup old new next (turn ∷ turns) [] rest unread after more one two none e w =
    absurd (subst (λ (s : State). HasNoUnit s rest) (sym two) none turn.asked (read_by turns ++ unread)
    (asked_is_a_unit setup old one.0 turn one.1) (e ∙ append_assoc turn.asked (read_by turns) unread))
writes_no_more setup old new next (turn ∷ turns) (other ∷ others) rest unread after more one two none e w =
    let read = turn_is_of_its_unit setup old one.0 other.asked (read_by turns ++ unread) (read_by others ++ rest)
    two.1.course turn two.1.comes one.1
    (sym (append_assoc turn.asked (read_by turns) unread) ∙ sym e ∙ append_assoc other.asked (read_by others) rest) in
    let line = sym (append_assoc (reply_text turn.reply) (written_by turns) after) ∙ w
    ∙ append_assoc (reply_text other.reply) (written_by others) more in
    let same = text_is_one setup.host two.1.course turn other one.0 two.0 (written_by turns ++ after)
    (written_by others ++ more) read.takes two.1.takes line in
    let written = append_cancel_left (reply_text other.reply) (written_by turns ++ after) (written_by others ++ more)
    (ap (λ l. l ++ (written_by turns ++ after)) (sym same.0) ∙ line) in
    let later = writes_no_more setup one.0 new next turns others rest unread after more one.2
    (subst (λ (s : State). Turns setup s others next) (sym same.1) two.2) none (sym read.after) written in (
      later.0,
      ap (λ l. l ++ written_by others) (sym same.0) ∙ ap (λ l. reply_text turn.reply ++ l) later.1
          ∙ sym (append_assoc (reply_text turn.reply) (written_by turns) later.0),
    )

-- a dialogue that begins another, and perhaps the reply after it with which its server closed, begins the other
pub begins_dialogue : (setup : Setup) (said whole : Said) (closing : Option Reply) → IsDialogue setup said
    → IsDialogue setup whole → MayClose whole closing → Begins said.input whole.input
    → Begins said.output (output_with whole.output closing) → Begins said.output whole.output
begins_dialogue setup said whole None one two closes input output = output
begins_dialogue setup said whole (Some reply) one two closes input output =
    let greeting : List ℕ = reply_text (reply_of setup.host Greeting) in
    let read : read_by two.turns ++ two.rest ≡ read_by one.turns ++ (one.rest ++ input.0) =
    sym two.input ∙ input.1 ∙ ap (λ l. l ++ input.0) one.input ∙ append_assoc (read_by one.turns) one.rest input.0 in
    let line : greeting ++ (written_by one.turns ++ output.0) ≡ greeting ++ (written_by two.turns ++ reply_text reply) =
    sym (append_assoc greeting (written_by one.turns) output.0) ∙ ap (λ l. l ++ output.0) (sym one.output) ∙ sym output.1
    ∙ ap (λ l. l ++ reply_text reply) two.output ∙ append_assoc greeting (written_by two.turns) (reply_text reply) in
    let written = append_cancel_left greeting (written_by one.turns ++ output.0) (written_by two.turns ++ reply_text reply)
    line in
    let begins = writes_no_more setup start one.state two.state one.turns two.turns two.rest (one.rest ++ input.0) output.0
    (reply_text reply) one.runs two.runs (no_unit_left setup whole two closes.2 two.left) read written in (
      begins.0,
      two.output ∙ ap (λ l. greeting ++ l) begins.1 ∙ sym (append_assoc greeting (written_by one.turns) begins.0)
          ∙ ap (λ l. l ++ begins.0) (sym one.output),
    )
