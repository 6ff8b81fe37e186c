-- What state and unit fix of a turn, whatever session holds it.
use Rattle.std.specs.Prelude.{◌≡◌, ◌≤◌, ℕ, List, [], ◌++◌, length, Ok}
use Rattle.relay_octets.specs.Line.{crlf, HasNoCrlf}
use Rattle.relay_body.specs.DotText.{ReadsDotText}
use Rattle.relay_envelope.specs.declared.envelope.Envelope.{Envelope}
use Rattle.relay_lines.specs.declared.chunk_argument.BdatArgument.{BdatArgument}
use Rattle.relay_lines.specs.Command as line
use Rattle.relay_lines.specs.Command.{reading_of}
use Rattle.relay_server.specs.declared.client.Client.{Client}
use Rattle.relay_server.specs.Dialogue.{Answers, Comes, Takes, Turn}
use Rattle.relay_server.specs.ReplyTable.{Course, course_of, course_of_bdat, course_of_text, unless_refused}
use Rattle.relay_server.specs.Setup.{Setup}
use Rattle.relay_server.specs.State.{CommandState, State, Command, Receiving}
use Rattle.relay_server.specs.Unit.{Asked, AsksBy, IsUnit, announced_by}

-- no unit of a state is without a course
abbrev pub NoUnitLacksACourse : Type 0
NoUnitLacksACourse =
    (setup : Setup) (state : State) (unit : List ℕ) → IsUnit state unit
    → ¬ ((course : Course) → ¬ Comes setup state unit course)

-- state and unit fix the course
abbrev pub CourseIsFixed : Type 0
CourseIsFixed =
    (setup : Setup) (state : State) (unit : List ℕ) (course other : Course) → Comes setup state unit course
    → Comes setup state unit other → course ≡ other

-- what has a course is a unit of its state
abbrev pub CourseIsOfAUnit : Type 0
CourseIsOfAUnit =
    (setup : Setup) (state : State) (unit : List ℕ) (course : Course)
    → Comes setup state unit course → IsUnit state unit

-- what a turn reads is a unit of its state
abbrev pub AskedIsAUnit : Type 0
AskedIsAUnit =
    (setup : Setup) (old new : State) (turn : Turn) → Answers setup old turn new → IsUnit old turn.asked

-- the turn reads just this unit, and has the reply, the offer and the next state of this course;
-- after both the same octets follow
pub record IsTurnOf (host unit : List ℕ) (course : Course) (turn : Turn) (new : State)
    (rest more : List ℕ) : Type 0 where
  pub asked : turn.asked ≡ unit
  pub takes : Takes host course turn new
  pub after : rest ≡ more

-- a turn that begins where a unit of this course begins is of just this unit
abbrev pub TurnIsOfItsUnit : Type 0
TurnIsOfItsUnit =
    (setup : Setup) (old new : State) (unit rest more : List ℕ) (course : Course) (turn : Turn)
    → Comes setup old unit course → Answers setup old turn new → turn.asked ++ rest ≡ unit ++ more
    → IsTurnOf setup.host unit course turn new rest more

-- a turn that begins where this line begins is of just this line, and has the reply and the next
-- state of its row
abbrev pub LineIsAnswered : Type 0
LineIsAnswered =
    (setup : Setup) (old : CommandState) (new : State) (text rest more : List ℕ) (what : Asked) (turn : Turn)
    → HasNoCrlf text → length text ≤ 2046 → announced_by (reading_of text) ≡ 0
    → AsksBy (reading_of text) [] what
    → Answers setup (Command old) turn new → turn.asked ++ rest ≡ (text ++ crlf) ++ more
    → IsTurnOf setup.host (text ++ crlf) (course_of setup what old) turn new rest more

-- a turn that begins where this line of BDAT begins is of the line with its chunk
abbrev pub ChunkIsAnswered : Type 0
ChunkIsAnswered =
    (setup : Setup) (old : CommandState) (new : State) (text octets rest more : List ℕ)
    (argument : BdatArgument)
    (turn : Turn) → HasNoCrlf text → length text ≤ 2046 → reading_of text ≡ Ok (line.Bdat argument)
    → length octets ≡ argument.size → Answers setup (Command old) turn new
    → turn.asked ++ rest ≡ (text ++ crlf ++ octets) ++ more
    → IsTurnOf setup.host (text ++ crlf ++ octets)
    (unless_refused setup.bare_newlines (course_of_bdat setup.max_content octets argument.last old))
    turn new rest more

-- a turn that begins where this dot text begins is of just that
abbrev pub TextIsAnswered : Type 0
TextIsAnswered =
    (setup : Setup) (client : Client) (envelope : Envelope) (new : State)
    (text content rest more : List ℕ) (turn : Turn)
    → ReadsDotText text content → Answers setup (Receiving client envelope) turn new
    → turn.asked ++ rest ≡ text ++ more
    → IsTurnOf setup.host text
    (unless_refused setup.bare_newlines (course_of_text setup.max_content client envelope content))
    turn new rest more
