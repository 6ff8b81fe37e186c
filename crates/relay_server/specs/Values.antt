-- The plain values of what the code holds: texts in place of memory, and no reader.
use Rattle.std.specs.Prelude.{◌≡◌, ◌⊎◌, ◌++◌, ℕ, List, [], Option, Some, None, Result, Ok}
use Rattle.relay_body.specs.ChunkText.{IsInChunk, Chunk, content_of_chunks, new_chunk}
use Rattle.relay_body.specs.declared.chunk_reader.ChunkReader.{ChunkReader}
use Rattle.relay_lines.specs.declared.chunk_argument.BdatArgument.{BdatArgument}
use Rattle.relay_lines.specs.declared.command.LineFault.{LineFault}
use Rattle.relay_lines.specs.Command as line
use Rattle.relay_server.specs.declared.judge.Judged.{Judged}
use Rattle.relay_server.specs.declared.judge.Judged.TheVariants as judged
use Rattle.relay_server.specs.Bounds.{IsHeld}
use Rattle.relay_server.specs.Setup.{Setup}
use Rattle.relay_server.specs.ReplyTable.{Course, Replies, course_of, course_of_bdat, course_of_chunks}
use Rattle.relay_server.specs.Unit.{Asked, AsksBy, announced_by}
use Rattle.relay_server.specs.declared.state.CommandState.{CommandState as Held}
use Rattle.relay_server.specs.declared.state.CommandState.TheVariants as held
use Rattle.relay_server.specs.declared.state.State.{State as Next}
use Rattle.relay_server.specs.declared.state.State.TheVariants as next
use Rattle.relay_server.specs.State.{CommandState, Fresh, Greeted, Open, Gathering, Spent, State, Command, Receiving}
use Rattle.relay_server.specs.State.{Closed}

-- the content that is kept
abbrev pub kept_content : Option (List ℕ) → List ℕ
kept_content None = []
kept_content (Some content) = content

abbrev pub content_in : ChunkReader → List ℕ
content_in reader = kept_content reader.gathering.kept

-- the state in which a command is awaited
abbrev pub command_state_of : Held → CommandState
command_state_of held.Fresh = Fresh
command_state_of (held.Greeted client) = Greeted client
command_state_of (held.Open transaction) = Open transaction.client transaction.envelope
command_state_of (held.Gathering gathering) =
    Gathering gathering.transaction.client gathering.transaction.envelope (content_in gathering.reader)
command_state_of (held.Spent client) = Spent client

-- the state that a command leads to
abbrev pub state_of : Next → State
state_of (next.Command state) = Command (command_state_of state)
state_of (next.Receiving transaction) = Receiving transaction.client transaction.envelope
state_of next.Closed = Closed

-- what a command leads to gathers chunks up to this limit
abbrev pub IsNextHeld : ℕ → Next → Type 0
IsNextHeld limit (next.Command state) = IsHeld limit state
IsNextHeld limit (next.Receiving transaction) = Unit {0}
IsNextHeld limit next.Closed = Unit {0}

-- the course is this reply, and the state after it
abbrev pub IsReplied : Course → Judged → Type 0
IsReplied course (judged.Replied row next) = course ≡ Replies row (state_of next)
IsReplied course (judged.Gathers transaction reader is_last) = ⊥
IsReplied course (judged.Refuses row state size) = ⊥

-- the state after a reply gathers chunks up to this limit
abbrev pub IsReplyHeld : ℕ → Judged → Type 0
IsReplyHeld limit (judged.Replied row next) = IsNextHeld limit next
IsReplyHeld limit (judged.Gathers transaction reader is_last) = Unit {0}
IsReplyHeld limit (judged.Refuses row state size) = Unit {0}

-- a chunk of this size has begun, and its octets join those before
pub record HasBegunChunk (limit : ℕ) (reader : ChunkReader) (size : ℕ) (before : List ℕ) : Type 0 where
  pub chunks : List Chunk
  pub chunk_is : IsInChunk reader limit chunks (new_chunk size)
  pub before_is : content_of_chunks chunks ≡ before

-- what BDAT leads to, whatever octets follow it: they are gathered, or refused
abbrev pub IsChunked : ℕ → BdatArgument → CommandState → Judged → Type 0
IsChunked limit argument old (judged.Replied row next) = ⊥
IsChunked limit argument old (judged.Gathers transaction reader is_last) =
    (before : List ℕ) × HasBegunChunk limit reader argument.size before × (is_last ≡ argument.last)
    × ((octets : List ℕ) → course_of_bdat limit octets argument.last old
    ≡ course_of_chunks limit transaction.client transaction.envelope (before ++ octets) argument.last)
IsChunked limit argument old (judged.Refuses row state size) =
    (size ≡ argument.size) × IsHeld limit state
    × ((octets : List ℕ) → course_of_bdat limit octets argument.last old
    ≡ Replies row (Command (command_state_of state)))

-- what a line leads to is what the table says of what it asks, which announces no octets
pub record IsAnswered (setup : Setup) (reading : Result line.Command LineFault)
    (old : CommandState) (judged : Judged) : Type 0 where
  pub asked : Asked
  pub asks : AsksBy reading [] asked
  pub no_octets : announced_by reading ≡ 0
  pub replied : IsReplied (course_of setup asked old) judged
  pub held : IsReplyHeld setup.max_content judged

-- what a line leads to: a reply, or a chunk
abbrev pub IsJudged : Setup → Result line.Command LineFault → CommandState → Judged → Type 0
IsJudged setup reading old judged =
    IsAnswered setup reading old judged
    ⊎ ((argument : BdatArgument) × (reading ≡ Ok (line.Bdat argument))
    × IsChunked setup.max_content argument old judged)
