-- The outline of a first body that is read block by block. The text of a snapshot's message isn't kept: octets of it
-- that are still to come are passed over, whatever they are.
use Rattle.std.specs.Prelude.{◌≡◌, ℕ, zero, suc, ◌+◌, ◌≤◌, ◌<◌, true, List, [], ◌++◌, length, Option, None}
use Rattle.std.specs.Prelude.{Some}
use Rattle.relay_book.specs.declared.book.first_outline.SnapshotHead.{SnapshotHead}
use Rattle.relay_book.specs.declared.book.first_outline.FirstOutline.{FirstOutline}
use Rattle.relay_book.specs.declared.message.Message.{Message}
use Rattle.relay_book.specs.declared.version.SnapshotVersion.{SnapshotVersion}
use Rattle.relay_pieces.specs.Pieces.{text_of}
use Rattle.relay_book.specs.Fields.{HasNone}
use Rattle.relay_book.specs.Outline.{outline_message, outline_of}
use Rattle.relay_book.specs.Queue.{Queue, empty_queue, last_number}
use Rattle.relay_book.specs.Record.{octets_8}
use Rattle.relay_book.specs.Snapshot.{entry_octets}
use Rattle.relay_book.specs.SnapshotFields.{IsQueuedIn, ReadsEntries, SpellsSnapshot, is_of_snapshot}
use Rattle.relay_book.specs.SnapshotFields.{numbered}

-- what stands in for a text of this length
abbrev pub outline_of_length : ℕ → List ℕ
outline_of_length zero = []
outline_of_length (suc count) = octets_8 (suc count)

-- a message of this outline begins the text, up to the rest
pub record HasOutlined (version : SnapshotVersion) (least next : ℕ) (text : List ℕ) (outline : Message)
    (rest : List ℕ) : Type 0 where
  pub message : Message
  pub is_queued : IsQueuedIn version least next (numbered message)
  pub text_is : text ≡ entry_octets version (numbered message) ++ rest
  pub outline_is : outline ≡ outline_message message

-- all of a message but its stored text begins the text. Whatever this many octets of the stored text are, the message
-- has this outline
pub record OutlinesHead (version : SnapshotVersion) (least next : ℕ) (text : List ℕ) (outline : Message) (count : ℕ)
    (rest : List ℕ) : Type 0 where
  pub head : List ℕ
  pub text_is : text ≡ head ++ rest
  pub has : (stored after more : List ℕ) → length stored ≡ count → rest ++ more ≡ stored ++ after
      → HasOutlined version least next (text ++ more) outline after

-- octets of the old text were let go, this many less those that are missing
pub record PassesOver (old new : List ℕ) (missing count : ℕ) : Type 0 where
  pub passed : List ℕ
  pub text_is : old ≡ passed ++ new
  pub counted : length passed + missing ≡ count

-- messages of a snapshot of this version and next number were read, this many are left, and the rest follows. Those
-- that were read are a queue of this outline
pub record ReadsSoFar (version : SnapshotVersion) (next left : ℕ) (octets : List ℕ) (outline : Queue) (rest : List ℕ)
    : Type 0 where
  pub count : ℕ
  pub done : ℕ
  pub entries : List ℕ
  pub queue : Queue
  pub counted : done + left ≡ count
  pub few : next ≤ last_number + 1
  pub spelled : SpellsSnapshot version octets next count entries
  pub reads : ReadsEntries version done next entries queue rest
  pub outline_is : outline ≡ outline_of queue

-- the same after octets of a last stored text that are still to come, whatever they are. If there are none, no message
-- begins what follows
pub record IsReading (head : SnapshotHead) (octets : List ℕ) (outline : Queue) (rest : List ℕ) : Type 0 where
  pub reads : (more : List ℕ) → length more ≡ head.skip
      → ReadsSoFar head.version head.next head.left (octets ++ more) outline rest
  pub none : head.skip ≡ 0 → 0 < head.left
      → HasNone (IsQueuedIn head.version outline.next head.next) (entry_octets head.version) rest
  pub ended : 0 < head.skip → rest ≡ []
  pub first : is_of_snapshot octets ≡ true

-- the head of a snapshot was read from these octets, or nothing was yet
abbrev pub IsReadFrom : Option SnapshotHead → List ℕ → Queue → List ℕ → Type 0
IsReadFrom None octets outline rest = rest ≡ octets
IsReadFrom (Some head) octets outline rest = IsReading head octets outline rest

-- these octets are the first of the body, and all that was read
abbrev pub HasReadOctets : FirstOutline → List ℕ → Type 0
HasReadOctets first octets = IsReadFrom first.head octets first.book.queue (text_of first.text)

-- the head of a snapshot begins the text, and was let go; or the text stays
abbrev pub BeginsSnapshot : List ℕ → List ℕ → Option SnapshotHead → Type 0
BeginsSnapshot old new None = new ≡ old
BeginsSnapshot old new (Some head) =
    SpellsSnapshot head.version old head.next head.left new × (1 ≤ head.next) × (head.next ≤ last_number + 1)
    × (head.skip ≡ 0)
