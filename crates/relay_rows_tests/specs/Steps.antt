-- What is true while octets come in pieces.
use Rattle.std.specs.Prelude.{◌≡◌, ◌⊎◌, ℕ, List, ◌++◌, length}
use Rattle.relay_lines.specs.HeldLine.{HeldLine, Holds}
use Rattle.relay_lines.specs.Reply.{Reply, written_replies}
use Rattle.relay_lines.specs.ReplySteps.{HasFailed, HasRead}
use Rattle.relay_lines.specs.ReplyReading.{HasFault}
use Rattle.relay_lines.specs.declared.reply_reader.ReplyFault.{ReplyFault}
use Rattle.relay_lines.specs.declared.reply_reader.ReplyFault.TheVariants.{NoMemory}
use Rattle.relay_lines.specs.declared.reply_reader.ReplyReader.{ReplyReader}

-- this many octets have come, which the buffer holds, and these are left
pub record HoldsSoFar (octets rest : List ℕ) (come : ℕ) (held : HeldLine) : Type 0 where
  pub used : List ℕ
  pub octets_are : octets ≡ used ++ rest
  pub come_is : come ≡ length used
  pub holds : Holds held used

-- the reader has read all but these octets, and the replies so far are written
pub record ReadsSoFar (octets rest out : List ℕ) (reader : ReplyReader) : Type 0 where
  pub used : List ℕ
  pub replies : List Reply
  pub part : List ℕ
  pub octets_are : octets ≡ used ++ rest
  pub reads : HasRead reader used replies part
  pub out_is : out ≡ written_replies replies

-- of these octets the reader reads further replies, which are written after the others
abbrev pub ReadsSome : ReplyReader → ReplyReader → List ℕ → List ℕ → List ℕ → Type 0
ReadsSome old new before after octets =
    (used : List ℕ) (replies : List Reply) (part : List ℕ) → HasRead old used replies part
    → (more : List Reply) × (rest : List ℕ) × HasRead new (used ++ octets) (replies ++ more) rest
    × (after ≡ before ++ written_replies more)

-- the piece has this fault after what was read, and the reader reads no further; or memory ran out
abbrev pub FindsFault : ReplyReader → ReplyReader → List ℕ → ReplyFault → Type 0
FindsFault old new piece fault =
    (fault ≡ NoMemory)
    ⊎ (HasFailed new × ((used : List ℕ) (replies : List Reply) (part : List ℕ)
    → HasRead old used replies part → (fault ≡ NoMemory) ⊎ HasFault (part ++ piece) fault))
