-- The machine under a session: what each of its stages keeps of the octets that came, and what one
-- move of it does.
use Rattle.std.specs.Prelude.{◌≡◌, ◌⊎◌, ◌<◌, ◌≤◌, ◌+◌, ℕ, Bool, true, false, List, [], ◌∷◌, ◌++◌, length, take, None}
use Rattle.std.specs.Prelude.{Ok}
use Rattle.relay_octets.specs.Line.{crlf, HasNoCrlf}
use Rattle.relay_body.specs.DotReading.{IsReading}
use Rattle.relay_body.specs.ChunkText.{Chunk, IsInChunk, content_of_chunks}
use Rattle.relay_body.specs.declared.chunk_reader.ChunkReader.{ChunkReader}
use Rattle.relay_lines.specs.declared.chunk_argument.BdatArgument.{BdatArgument}
use Rattle.relay_lines.specs.Command.{Bdat, reading_of}
use Rattle.relay_lines.specs.HeldLine.{HeldLine, Holds}
use Rattle.relay_lines.specs.Reply.{reply_text}
use Rattle.relay_routes.specs.Routes.{RouteTable}
use Rattle.relay_server.specs.declared.reply_table.Row.{Row}
use Rattle.relay_server.specs.declared.session.Session.{Session}
use Rattle.relay_server.specs.declared.stage.Stage.{Stage}
use Rattle.relay_server.specs.declared.stage.Stage.TheVariants as stage
use Rattle.relay_server.specs.declared.state.CommandState.{CommandState as Held}
use Rattle.relay_server.specs.declared.state.Transaction.{Transaction}
use Rattle.relay_server.specs.Dialogue.{Offered, Turn, Answers, Comes, offered_of}
use Rattle.relay_server.specs.Reply.{reply_of}
use Rattle.relay_server.specs.ReplyTable.{Course, Replies, Offers, course_of_bdat, course_of_chunks}
use Rattle.relay_server.specs.Setup.{Setup, setup_of}
use Rattle.relay_server.specs.State.{CommandState, State, Command, Receiving, Closed}
use Rattle.relay_server.specs.Values.{command_state_of}

-- what a stage shows to the caller: octets are read, or an offer is open, or nothing more is to come
pub data Shown : Type 0 where
  Reading : Shown
  Offering : Offered → Shown
  Over : Shown

abbrev pub shown_at : Stage → Shown
shown_at (stage.Command state) = Reading
shown_at (stage.Receiving mail) = Reading
shown_at (stage.Chunk chunk) = Reading
shown_at (stage.Skipping skipped) = Reading
shown_at (stage.Offering transaction content) =
    Offering (offered_of transaction.client transaction.envelope content)
shown_at stage.Closed = Over
shown_at stage.Failed = Over

-- the offer that is open, if there is one
abbrev pub offers_shown : Shown → List Offered
offers_shown Reading = []
offers_shown (Offering offer) = offer ∷ []
offers_shown Over = []

abbrev pub offers_at : Stage → List Offered
offers_at now = offers_shown (shown_at now)

-- octets are read: those of a command line, of mail data, or of a chunk
abbrev pub reads : Shown → Bool
reads Reading = true
reads (Offering offer) = false
reads Over = false

abbrev pub is_reading : Stage → Bool
is_reading now = reads (shown_at now)

-- the octets are a line of BDAT with this argument, and these of its chunk
pub record AnnouncesChunk (octets : List ℕ) (argument : BdatArgument) (part : List ℕ) : Type 0 where
  pub text : List ℕ
  pub octets_are : octets ≡ text ++ crlf ++ part
  pub line : HasNoCrlf text
  pub short : length text ≤ 2046
  pub reads : reading_of text ≡ Ok (Bdat argument)

-- in this state a chunk has come so far, and its octets join those before
pub record GathersChunk (limit : ℕ) (transaction : Transaction) (reader : ChunkReader)
    (is_last : Bool) (state : State) (octets : List ℕ) : Type 0 where
  pub old : CommandState
  pub state_is : state ≡ Command old
  pub argument : BdatArgument
  pub part : List ℕ
  pub begins : AnnouncesChunk octets argument part
  pub last_is : is_last ≡ argument.last
  pub chunks : List Chunk
  pub chunk_is : IsInChunk reader limit chunks (record { size = argument.size; octets = part })
  pub course_is : (rest : List ℕ) → course_of_bdat limit rest argument.last old
      ≡ course_of_chunks limit transaction.client transaction.envelope
      (content_of_chunks chunks ++ rest) argument.last

-- in this state a chunk has come so far but for as many octets as are missing, and is refused by this row
pub record RefusesChunk (limit : ℕ) (row : Row) (afterwards : Held) (missing : ℕ) (state : State)
    (octets : List ℕ) : Type 0 where
  pub old : CommandState
  pub state_is : state ≡ Command old
  pub argument : BdatArgument
  pub part : List ℕ
  pub begins : AnnouncesChunk octets argument part
  pub size_is : argument.size ≡ length part + missing
  pub course_is : (rest : List ℕ) → course_of_bdat limit rest argument.last old
      ≡ Replies row (Command (command_state_of afterwards))

-- the stage is in this state, and has used these octets since the last unit, but those of a command line, which stand
-- elsewhere
abbrev pub KeepsText : Setup → Stage → State → List ℕ → Type 0
KeepsText setup (stage.Command now) state octets =
    (state ≡ Command (command_state_of now)) × (octets ≡ [])
KeepsText setup (stage.Receiving mail) state octets =
    (state ≡ Receiving mail.transaction.client mail.transaction.envelope)
    × IsReading mail.reader setup.max_content octets
KeepsText setup (stage.Chunk chunk) state octets =
    GathersChunk setup.max_content chunk.transaction chunk.reader chunk.is_last state octets
KeepsText setup (stage.Skipping skipped) state octets =
    RefusesChunk setup.max_content skipped.row skipped.state skipped.missing state octets
KeepsText setup (stage.Offering transaction content) state octets =
    Comes setup state octets (Offers transaction.client transaction.envelope content)
KeepsText setup stage.Closed state octets = (state ≡ Closed) × (octets ≡ [])
KeepsText setup stage.Failed state octets = ⊥

-- the session is in this state, and has used these octets since the last unit
abbrev pub Keeps : Setup → HeldLine → Stage → State → List ℕ → Type 0
Keeps setup line (stage.Command now) state octets =
    (state ≡ Command (command_state_of now)) × Holds line octets
Keeps setup line now state octets = Holds line [] × KeepsText setup now state octets

-- the text is all of a line that isn't too long, or the beginning of one that is
abbrev pub IsGiven : List ℕ → List ℕ → Bool → Type 0
IsGiven line text true = (2046 < length line) × (text ≡ take 2048 line)
IsGiven line text false = (length line ≤ 2046) × (text ≡ line)

-- from the old state one unit, with its reply, leads to this stage, which has used nothing after it
pub record TakesTurn (setup : Setup) (old : State) (new : Stage) (asked before after : List ℕ) : Type 0 where
  pub turn : Turn
  pub next : State
  pub answers : Answers setup old turn next
  pub asked_is : turn.asked ≡ asked
  pub written : after ≡ before ++ reply_text turn.reply
  pub no_offer : turn.offer ≡ None
  pub nothing_kept : KeepsText setup new next []
  pub none_unanswered : offers_at new ≡ []

-- after the reply of a row the session enters this state, and has used nothing after it
pub record EntersBy (setup : Setup) (row : Row) (next : State) (new : Stage)
    (before after : List ℕ) : Type 0 where
  pub written : after ≡ before ++ reply_text (reply_of setup.host row)
  pub nothing_kept : KeepsText setup new next []
  pub none_unanswered : offers_at new ≡ []

-- further octets belong to the unit that was begun, and nothing is answered yet
pub record GoesOn (setup : Setup) (old : State) (new : Stage) (octets before after : List ℕ) : Type 0 where
  pub kept : KeepsText setup new old octets
  pub nothing_written : after ≡ before

-- the course of a unit that has come whole: its reply, or the offer, of which nothing is answered yet
abbrev pub EndsBy : Setup → Course → Stage → List ℕ → List ℕ → Type 0
EndsBy setup (Replies row next) new before after = EntersBy setup row next new before after
EndsBy setup (Offers client envelope content) new before after =
    (transaction : Transaction) × (new ≡ stage.Offering transaction content) × (transaction.client ≡ client)
    × (transaction.envelope ≡ envelope) × (after ≡ before)

-- a session goes on in a unit, or ends it
abbrev pub Moves : Setup → State → Stage → List ℕ → List ℕ → List ℕ → Type 0
Moves setup old new octets before after =
    GoesOn setup old new octets before after ⊎ TakesTurn setup old new octets before after

-- from the old state the session goes on in a unit of which it has used these octets, or ends it
-- with its reply
abbrev pub Steps : Setup → State → Session → List ℕ → List ℕ → List ℕ → Type 0
Steps setup old new octets before after =
    (Keeps setup new.line new.stage old octets × (after ≡ before))
    ⊎ (TakesTurn setup old new.stage octets before after × Holds new.line [])

-- a call on a session has used these octets and written what is new: whatever was used of a unit,
-- it goes on or ends
pub record Advances (old new : Session) (routes : RouteTable) (used before after : List ℕ) : Type 0 where
  pub server : new.server ≡ old.server
  pub moves : (state : State) (octets : List ℕ)
      → Keeps (setup_of old.server routes) old.line old.stage state octets
      → Steps (setup_of old.server routes) state new (octets ++ used) before after
