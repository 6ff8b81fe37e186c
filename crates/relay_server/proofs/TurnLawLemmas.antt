-- What state and unit fix of a turn: each law over the unit that the turn begins with.
use Rattle.std.proofs.Common.{◌≡◌, ◌≤◌, ℕ, nat_le, List, [], ◌++◌, length, inl, inr, ◌⊎◌, ◌<◌, Result, Ok, Err, refl, sym, ap, ◌∙◌, subst, append-nil}
use Rattle.std.proofs.lemmas.Bool.{cases_lt, cond-true, le-leb}
use Rattle.relay_octets.specs.Line.{crlf, HasNoCrlf}
use Rattle.relay_lines.specs.Command.{reading_of}
use Rattle.relay_envelope.proofs.Theorems.{mail_is_some, rcpt_is_some}
use Rattle.relay_lines.specs.Command as line
use Rattle.relay_lines.specs.declared.command.LineFault.{LineFault}
use Rattle.relay_trace.specs.declared.received.Protocol.TheVariants.{Smtp, Esmtp}
use Rattle.relay_server.specs.Dialogue.{Comes, Takes}
use Rattle.relay_server.specs.ReplyTable.{Course, course_of, course_of_text, unless_refused}
use Rattle.relay_server.specs.Setup.{Setup}
use Rattle.relay_server.specs.State.{Closed, Command, CommandState, Receiving, client_of}
use Rattle.relay_server.specs.TurnLaws.{AskedIsAUnit, ChunkIsAnswered, CourseIsFixed, CourseIsOfAUnit, LineIsAnswered, NoUnitLacksACourse, TextIsAnswered, TurnIsOfItsUnit}
use Rattle.relay_server.specs.Unit.{Asked, Faulty, Hello, Mail, Rcpt, Data, Bdat, Rset, Noop, Vrfy, Help, Quit, Asks, AsksBy, IsCommandUnit, announced_by, announced_of, asked_of_long}
use Rattle.relay_server.proofs.TurnLemmas.{asked_is_unit, course_is_one, course_of_unit}
use Rattle.relay_server.proofs.UnitLemmas.{no_unit_begins_another}

-- state and unit fix the course
pub course_is_fixed : CourseIsFixed
course_is_fixed setup state unit course other one two = course_is_one setup state unit unit course other one two refl

-- what has a course is a unit of its state
pub course_is_of_a_unit : CourseIsOfAUnit
course_is_of_a_unit setup state unit course comes = course_of_unit setup state unit course comes

-- what a turn reads is a unit of its state
pub asked_is_a_unit : AskedIsAUnit
asked_is_a_unit setup old new turn is = asked_is_unit setup old turn new is

-- a turn that begins where a unit begins is of just this unit
pub turn_is_of_its_unit : TurnIsOfItsUnit
turn_is_of_its_unit setup old new unit rest more course turn comes is begins =
    let same = no_unit_begins_another old turn.asked unit rest more (asked_is_unit setup old turn new is) (course_of_unit setup old unit course comes) begins in
    let one = course_is_one setup old turn.asked unit is.course course is.comes comes same.0 in
    record {
      asked = same.0;
      takes = subst (λ (c : Course). Takes setup.host c turn new) one is.takes;
      after = same.1;
    }

-- a line that isn't too long announces what its reading does
short_announces : (text : List ℕ) → length text ≤ 2046 → announced_of text ≡ announced_by (reading_of text)
short_announces text short =
    cond-true (nat_le (length text) 2046) (announced_by (reading_of text)) 0 (le-leb (length text) 2046 short)

-- the course of a line, with the octets that it announces
line_comes : (setup : Setup) (old : CommandState) (text octets : List ℕ) (what : Asked) → HasNoCrlf text → length text ≤ 2046 → length octets ≡ announced_by (reading_of text) → AsksBy (reading_of text) octets what → Comes setup (Command old) (text ++ crlf ++ octets) (course_of setup what old)
line_comes setup old text octets what free short counted asks = record {
  text = text;
  octets = octets;
  what = what;
  is_unit = record { unit_is = refl; line = free; counted = counted ∙ sym (short_announces text short) };
  asks = inr (short, asks);
  course_is = refl;
}

-- a turn that begins with this line is of just that
pub line_is_answered : LineIsAnswered
line_is_answered setup old new text rest more what turn free short none asks is begins =
    let comes = line_comes setup old text [] what free short (sym none) asks in
    let here = subst (λ (unit : List ℕ). Comes setup (Command old) unit (course_of setup what old)) (append-nil (text ++ crlf)) comes in
    turn_is_of_its_unit setup (Command old) new (text ++ crlf) rest more (course_of setup what old) turn here is begins

-- a turn that begins with this line of BDAT is of the line with its chunk
pub chunk_is_answered : ChunkIsAnswered
chunk_is_answered setup old new text octets rest more argument turn free short reads counted is begins =
    let what = Bdat octets argument.last in
    let asks : AsksBy (reading_of text) octets what = subst (λ (r : Result line.Command LineFault). AsksBy r octets what) (sym reads) refl in
    let comes = line_comes setup old text octets what free short (counted ∙ sym (ap announced_by reads)) asks in
    turn_is_of_its_unit setup (Command old) new (text ++ crlf ++ octets) rest more (course_of setup what old) turn comes is begins

-- a turn that begins with this dot text is of just that
pub text_is_answered : TextIsAnswered
text_is_answered setup client envelope new text content rest more turn reads is begins =
    turn_is_of_its_unit setup (Receiving client envelope) new text rest more
    (unless_refused setup.bare_newlines (course_of_text setup.max_content client envelope content)) turn
    (record { content = content; reads = reads; course_is = refl }) is begins

-- no reading asks nothing
some_asked : (reading : Result line.Command LineFault) (octets : List ℕ) → ((what : Asked) → AsksBy reading octets what → ⊥) → ⊥
some_asked (Err fault) octets none = none (Faulty fault) refl
some_asked (Ok (line.Helo word)) octets none = none (Hello (client_of word Smtp)) refl
some_asked (Ok (line.Ehlo word)) octets none = none (Hello (client_of word Esmtp)) refl
some_asked (Ok (line.Mail text)) octets none = mail_is_some text (λ read reads. none (Mail read) (read, reads, refl))
some_asked (Ok (line.Rcpt text)) octets none = rcpt_is_some text (λ read reads. none (Rcpt read) (read, reads, refl))
some_asked (Ok line.Data) octets none = none Data refl
some_asked (Ok (line.Bdat argument)) octets none = none (Bdat octets argument.last) refl
some_asked (Ok line.Rset) octets none = none Rset refl
some_asked (Ok line.Noop) octets none = none Noop refl
some_asked (Ok line.Vrfy) octets none = none Vrfy refl
some_asked (Ok line.Help) octets none = none Help refl
some_asked (Ok line.Quit) octets none = none Quit refl

some_line : (setup : Setup) (state : CommandState) (unit text octets : List ℕ) → IsCommandUnit unit text octets → ((what : Asked) → Asks text octets what → ⊥) → ⊥
some_line setup state unit text octets is none =
    by_length (cases_lt 2046 (length text))
  where
    by_length : (2046 < length text) ⊎ (length text ≤ 2046) → ⊥
    by_length (inl long) = none (asked_of_long text) (inl (long, refl))
    by_length (inr short) = some_asked (reading_of text) octets (λ what asks. none what (inr (short, asks)))

-- no unit of a state is without a course
pub no_unit_lacks_a_course : NoUnitLacksACourse
no_unit_lacks_a_course setup (Command state) unit is none =
    some_line setup state unit is.0 is.1 is.2
    (λ what asks. none (course_of setup what state) (record { text = is.0; octets = is.1; what = what; is_unit = is.2; asks = asks; course_is = refl }))
no_unit_lacks_a_course setup (Receiving client envelope) unit is none =
    none (unless_refused setup.bare_newlines (course_of_text setup.max_content client envelope is.0)) (record { content = is.0; reads = is.1; course_is = refl })
no_unit_lacks_a_course setup Closed unit is none = is
