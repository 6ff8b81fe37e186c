-- Snapshots: the encoding of a queue, which may stand for the whole list of changes that left it. Numbers are big
-- endian. A snapshot of the first version doesn't say which places were reported as delayed: it stands for a queue in
-- which none was. A node writes the second version alone.
use Rattle.std.specs.Prelude.{◌≡◌, ℕ, ◌+◌, ◌≤◌, ◌<◌, ◌^◌, Bool, true, false, List, [], ◌∷◌, ◌++◌, length}
use Rattle.std.specs.List.{AllByRecursion, flat_map, list_any, zip}
use Rattle.relay_envelope.specs.declared.envelope.Recipient.{Recipient}
use Rattle.relay_book.specs.declared.version.SnapshotVersion.{SnapshotVersion}
use Rattle.relay_book.specs.declared.version.SnapshotVersion.TheVariants.{WithoutDelay, WithDelay}
use Rattle.relay_book.specs.declared.message.Place.{Place}
use Rattle.relay_book.specs.declared.message.Message.{Message}
use Rattle.relay_book.specs.Book.{Rise}
use Rattle.relay_book.specs.Queue.{Queue, is_held, last_number}
use Rattle.relay_book.specs.Record.{IsAccept, counted, octets_4, octets_8, recipient_octets, ret_number, sized_2}
use Rattle.relay_book.specs.Record.{sized_4, worth, written}

-- whether a place was reported as delayed, in one octet; the first version says nothing
abbrev pub delay_octets : SnapshotVersion → ℕ → List ℕ
delay_octets WithoutDelay delayed = []
delay_octets WithDelay delayed = delayed ∷ []

-- a place: whether it is held, its Later verdicts, whether it was reported as delayed, and when it is due
abbrev pub place_octets : SnapshotVersion → Place → List ℕ
place_octets version place =
    worth place.held 1 ∷ place.laters ∷ (delay_octets version (worth place.delayed 1) ++ octets_8 place.due)

-- a recipient, followed by its place
abbrev pub placed_octets : SnapshotVersion → Recipient × Place → List ℕ
placed_octets version placed = recipient_octets placed.0 ++ place_octets version placed.1

-- a message: its number, and the fields of its accept, each recipient followed by its place
unfoldable pub entry_octets : SnapshotVersion → ℕ × Message → List ℕ
entry_octets version entry =
    octets_8 entry.0
    ++ (octets_8 entry.1.accept.at
    ++ (sized_2 entry.1.accept.envelope.reverse_path
    ++ (ret_number entry.1.accept.envelope.ret
    ∷ (sized_2 (written entry.1.accept.envelope.envid)
    ++ (counted (placed_octets version) (zip entry.1.accept.envelope.recipients entry.1.places)
    ++ sized_4 entry.1.accept.stored_text)))))

-- the first octet of a snapshot, by its version
abbrev pub snapshot_kind : SnapshotVersion → ℕ
snapshot_kind WithoutDelay = 3
snapshot_kind WithDelay = 5

-- the encoding of a queue by a version: the next number, and the messages after their count
unfoldable pub snapshot_by : SnapshotVersion → Queue → List ℕ
snapshot_by version queue =
    snapshot_kind version
    ∷ (octets_8 queue.next ++ (octets_4 (length queue.messages) ++ flat_map (entry_octets version) queue.messages))

-- the one that a node writes
abbrev pub snapshot : Queue → List ℕ
snapshot queue = snapshot_by WithDelay queue

-- a place that may be stored: one that left has had no Later verdict, wasn't reported as delayed and isn't due
pub record IsPlace (place : Place) : Type 0 where
  pub laters : place.laters ≤ 4
  pub due : place.due < 2 ^ 64
  pub left : place.held ≡ false → (place.laters ≡ 0) × (place.delayed ≡ false) × (place.due ≡ 0)

-- a version says this of a place: the first doesn't know that one was reported as delayed
abbrev pub MaySay : SnapshotVersion → Bool → Type 0
MaySay WithoutDelay delayed = delayed ≡ false
MaySay WithDelay delayed = Unit {0}

-- a place that may be stored by a version
pub record IsPlaceBy (version : SnapshotVersion) (place : Place) : Type 0 where
  pub is : IsPlace place
  pub may : MaySay version place.delayed

-- a message that may be stored: it has a place for each recipient, and one of them is held
pub record IsQueued (entry : ℕ × Message) : Type 0 where
  pub number_is : entry.1.number ≡ entry.0
  pub number_fits : entry.0 < 2 ^ 64
  pub accept : IsAccept entry.1.accept
  pub as_many : length entry.1.places ≡ length entry.1.accept.envelope.recipients
  pub places : AllByRecursion IsPlace entry.1.places
  pub some : list_any is_held entry.1.places ≡ true

-- a message that may be stored by a version
pub record IsQueuedBy (version : SnapshotVersion) (entry : ℕ × Message) : Type 0 where
  pub is : IsQueued entry
  pub places : AllByRecursion (IsPlaceBy version) entry.1.places

-- a queue that may be stored: numbers begin at 1, and rise to below the next
pub record IsQueue (queue : Queue) : Type 0 where
  pub next : queue.next ≤ last_number + 1
  pub rise : Rise 1 queue.next queue.messages
  pub messages : AllByRecursion IsQueued queue.messages

-- the octets are the snapshot of a queue by a version, of which the count of messages fits four octets
pub record IsSnapshotBy (version : SnapshotVersion) (octets : List ℕ) (queue : Queue) : Type 0 where
  pub valid : IsQueue queue
  pub messages : AllByRecursion (IsQueuedBy version) queue.messages
  pub few : length queue.messages < 2 ^ 32
  pub octets_are : octets ≡ snapshot_by version queue

-- the octets are the snapshot of a queue
abbrev pub IsSnapshotOf : List ℕ → Queue → Type 0
IsSnapshotOf octets queue = (version : SnapshotVersion) × IsSnapshotBy version octets queue

-- they are the snapshot of no queue
pub record IsNoSnapshot (octets : List ℕ) : Type 0 where
  pub none : (queue : Queue) → IsSnapshotOf octets queue → ⊥

-- Octets are the snapshot of one queue.
abbrev pub SnapshotIsOne : Type 0
SnapshotIsOne =
    (octets : List ℕ) (queue other : Queue) → IsSnapshotOf octets queue → IsSnapshotOf octets other
    → queue ≡ other
