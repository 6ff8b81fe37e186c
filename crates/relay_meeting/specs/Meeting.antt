-- Two that meet (RFC 5321, section 2.1): a client that writes a script of commands by the replies it reads, and a
-- server whose table says the outcome of each.
use Rattle.std.specs.Prelude.{◌≡◌, ◌⊎◌, ◌≤◌, ℕ, List, [], ◌∷◌, ◌++◌, length, map}
use Rattle.relay_octets.specs.Beginning.{Begins}
use Rattle.relay_lines.specs.Reply.{Reply}
use Rattle.relay_server.specs.declared.offer.Answer.{Answer}
use Rattle.relay_server.specs.Dialogue.{Comes, Takes, Turn, Turns, read_by, row_of_answer}
use Rattle.relay_server.specs.Reply.{reply_of}
use Rattle.relay_server.specs.ReplyTable.{Course, Replies, Offers}
use Rattle.relay_server.specs.Setup.{Setup}
use Rattle.relay_server.specs.State.{Greeted, State, Command, Closed, start}
use Rattle.relay_course.specs.Course.{joined}

-- a command, and its outcome by the server's table
pub record Step : Type 0 where
  pub command : List ℕ
  pub course : Course

abbrev pub step_of : List ℕ → Course → Step
step_of command course = record { command = command; course = course }

-- the state after a course
abbrev pub state_after : Course → State
state_after (Replies row next) = next
state_after (Offers client envelope content) = Command (Greeted client)

-- from this state each command is a unit of which this comes, in the state after the one before, and the last one
-- closes
abbrev pub IsScript : Setup → State → List Step → Type 0
IsScript setup old [] = old ≡ Closed
IsScript setup old (step ∷ script) =
    Comes setup old step.command step.course × IsScript setup (state_after step.course) script

-- the commands of a script
abbrev pub commands_in : List Step → List (List ℕ)
commands_in script = map (λ step. step.command) script

-- a reply that this course may have: that of its row, or to an offer that of an answer
abbrev pub IsExpected : List ℕ → Course → Reply → Type 0
IsExpected host (Replies row next) reply = reply ≡ reply_of host row
IsExpected host (Offers client envelope content) reply =
    (given : Answer) × (reply ≡ reply_of host (row_of_answer given))

-- replies to the first commands of a script, each as it may be
abbrev pub AreExpected : List ℕ → List Step → List Reply → Type 0
AreExpected host script [] = Unit {0}
AreExpected host [] (reply ∷ replies) = ⊥
AreExpected host (step ∷ script) (reply ∷ replies) =
    IsExpected host step.course reply × AreExpected host script replies

-- the turns are of the script's first commands, one after another
abbrev pub Plays : List ℕ → List Step → List Turn → Type 0
Plays host script [] = Unit {0}
Plays host [] (turn ∷ turns) = ⊥
Plays host (step ∷ script) (turn ∷ turns) =
    (turn.asked ≡ step.command) × Takes host step.course turn (state_after step.course) × Plays host script turns

-- the script after some turns
abbrev pub after_turns : List Step → List Turn → List Step
after_turns script [] = script
after_turns [] (turn ∷ turns) = []
after_turns (step ∷ script) (turn ∷ turns) = after_turns script turns

-- the replies of turns
abbrev pub replies_by : List Turn → List Reply
replies_by turns = map (λ turn. turn.reply) turns

-- A client that writes by the replies it has read: what was written stays written; after this many replies as many
-- commands are written, or nothing more is; and on a greeting and replies as they may be it writes commands of the
-- script.
pub record Writes (host : List ℕ) (greeting : Reply) (commands : List Reply → List (List ℕ)) (script : List Step)
    : Type 0 where
  pub stays : (replies more : List Reply) → Begins (commands replies) (commands (replies ++ more))
  pub keeps_up : (replies more : List Reply)
      → (length replies ≤ length (commands replies)) ⊎ (commands (replies ++ more) ≡ commands replies)
  pub expected : (replies : List Reply) → AreExpected host script replies
      → Begins (commands (greeting ∷ replies)) (commands_in script)

-- the turns of a server are the first ones of a script, and the rest is still one
pub record Meets (setup : Setup) (script : List Step) (turns : List Turn) (new : State) : Type 0 where
  pub plays : Plays setup.host script turns
  pub goes_on : IsScript setup new (after_turns script turns)

-- Of a client that writes a script and a server that has read a prefix of what the client wrote after a prefix of the
-- server's replies, and of any that come after those, the turns are of the script.
abbrev pub Meeting : Type 0
Meeting =
    (setup : Setup) (greeting : Reply) (commands : List Reply → List (List ℕ)) (script : List Step) (new : State)
    (turns : List Turn) (after heard more : List Reply) (unread : List ℕ)
    → Writes setup.host greeting commands script → IsScript setup start script → Turns setup start turns new
    → joined (commands heard) ≡ read_by turns ++ unread → greeting ∷ (replies_by turns ++ after) ≡ heard ++ more
    → Meets setup script turns new
