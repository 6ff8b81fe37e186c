-- The fields of snapshots, one after another, and what no valid value begins. (Readers cut them; others judge them.)
use Rattle.std.specs.Prelude.{◌≡◌, ◌≢◌, ◌==◌, ◌||◌, Bool, false, ℕ, suc, ◌+◌, ◌≤◌, ◌<◌, ◌^◌, List, [], ◌∷◌, ◌++◌}
use Rattle.std.specs.Prelude.{length}
use Rattle.std.specs.List.{flat_map, zip}
use Rattle.relay_envelope.specs.declared.envelope.Recipient.{Recipient}
use Rattle.relay_envelope.specs.Envelope.{IsRecipient}
use Rattle.relay_pieces.specs.Pieces.{InPieces}
use Rattle.relay_book.specs.declared.version.SnapshotVersion.{SnapshotVersion}
use Rattle.relay_book.specs.declared.version.SnapshotVersion.TheVariants.{WithoutDelay, WithDelay}
use Rattle.relay_book.specs.declared.message.Place.{Place}
use Rattle.relay_book.specs.declared.message.Message.{Message}
use Rattle.relay_book.specs.Book.{Rise}
use Rattle.relay_book.specs.Fields.{AreSome, HaveCount}
use Rattle.relay_book.specs.Queue.{Queue}
use Rattle.relay_book.specs.Record.{counted, octets_4, octets_8, sized_2, sized_4, worth, written}
use Rattle.relay_book.specs.Snapshot.{IsPlace, IsPlaceBy, IsQueuedBy, delay_octets, entry_octets, placed_octets}
use Rattle.relay_book.specs.Snapshot.{snapshot_kind}

-- no text after a length of four octets begins these octets
pub record HasNoLong (text : List ℕ) : Type 0 where
  pub none : (field rest : List ℕ) → length field < 2 ^ 32 → text ≢ sized_4 field ++ rest

-- where the first version says nothing, the octet counts as 0
abbrev pub CountsAs : SnapshotVersion → ℕ → Type 0
CountsAs WithoutDelay delayed = delayed ≡ 0
CountsAs WithDelay delayed = Unit {0}

-- whether a place was reported as delayed begins the text
pub record SpellsDelay (version : SnapshotVersion) (text : List ℕ) (delayed : ℕ) (rest : List ℕ) : Type 0 where
  pub text_is : text ≡ delay_octets version delayed ++ rest
  pub counts : CountsAs version delayed

-- it doesn't
pub record HasNoDelay (version : SnapshotVersion) (text : List ℕ) : Type 0 where
  pub none : (delayed : ℕ) (rest : List ℕ) → SpellsDelay version text delayed rest → ⊥

-- the fields of a place begin the text
pub record SpellsPlace (version : SnapshotVersion) (text : List ℕ) (held laters delayed due : ℕ) (rest : List ℕ)
    : Type 0 where
  pub text_is : text ≡ held ∷ (laters ∷ (delay_octets version delayed ++ (octets_8 due ++ rest)))
  pub counts : CountsAs version delayed
  pub due_fits : due < 2 ^ 64

-- none do
pub record HasNoPlaceFields (version : SnapshotVersion) (text : List ℕ) : Type 0 where
  pub none : (held laters delayed due : ℕ) (rest : List ℕ) → SpellsPlace version text held laters delayed due rest
      → ⊥

pub record HasPlaceFields (place : Place) (held laters delayed due : ℕ) : Type 0 where
  pub held_is : held ≡ worth place.held 1
  pub laters_are : laters ≡ place.laters
  pub delayed_is : delayed ≡ worth place.delayed 1
  pub due_is : due ≡ place.due

-- no place has these fields
pub record IsNoPlace (held laters delayed due : ℕ) : Type 0 where
  pub none : (place : Place) → IsPlace place → HasPlaceFields place held laters delayed due → ⊥

-- a recipient and a place that may be stored by a version
pub record IsPlacedBy (version : SnapshotVersion) (placed : Recipient × Place) : Type 0 where
  pub recipient : IsRecipient placed.0
  pub place : IsPlaceBy version placed.1

-- this many recipients and their places are read from the text, up to the rest
pub record ReadsRow (version : SnapshotVersion) (count : ℕ) (text : List ℕ) (recipients : List Recipient)
    (places : List Place) (rest : List ℕ) : Type 0 where
  pub as_many : length places ≡ length recipients
  pub are : HaveCount (IsPlacedBy version) count (zip recipients places)
  pub text_is : text ≡ flat_map (placed_octets version) (zip recipients places) ++ rest

-- 1 to 100 recipients and their places are read from the text after their count, up to the rest
pub record ReadsPlaced (version : SnapshotVersion) (text : List ℕ) (recipients : List Recipient) (places : List Place)
    (rest : List ℕ)
    : Type 0 where
  pub as_many : length places ≡ length recipients
  pub are : AreSome (IsPlacedBy version) (zip recipients places)
  pub text_is : text ≡ counted (placed_octets version) (zip recipients places) ++ rest

-- the fields of a message begin the text
pub record SpellsEntry (version : SnapshotVersion) (text : List ℕ) (number at : ℕ) (path : List ℕ) (ret : ℕ)
    (envid : List ℕ) (recipients : List Recipient) (places : List Place) (stored rest : List ℕ) : Type 0 where
  pub text_is : text
      ≡ octets_8 number
      ++ (octets_8 at
      ++ (sized_2 path
      ++ (ret
      ∷ (sized_2 envid ++ (counted (placed_octets version) (zip recipients places) ++ (sized_4 stored ++ rest))))))
  pub number_fits : number < 2 ^ 64
  pub at_fits : at < 2 ^ 64
  pub path_fits : length path < 2 ^ 16
  pub envid_fits : length envid < 2 ^ 16
  pub as_many : length places ≡ length recipients
  pub are_placed : AreSome (IsPlacedBy version) (zip recipients places)
  pub stored_fits : length stored < 2 ^ 32

-- the fields of a message up to its places begin the text; its stored text follows
pub record SpellsEntryHead (version : SnapshotVersion) (text : List ℕ) (number at : ℕ) (path : List ℕ) (ret : ℕ)
    (envid : List ℕ) (recipients : List Recipient) (places : List Place) (rest : List ℕ) : Type 0 where
  pub text_is : text
      ≡ octets_8 number
      ++ (octets_8 at
      ++ (sized_2 path
      ++ (ret
      ∷ (sized_2 envid ++ (counted (placed_octets version) (zip recipients places) ++ rest)))))
  pub number_fits : number < 2 ^ 64
  pub at_fits : at < 2 ^ 64
  pub path_fits : length path < 2 ^ 16
  pub envid_fits : length envid < 2 ^ 16
  pub as_many : length places ≡ length recipients
  pub are_placed : AreSome (IsPlacedBy version) (zip recipients places)

-- a message beside its number
abbrev pub numbered : Message → ℕ × Message
numbered message = (message.number, message)

-- a message that may be stored by a version, of a number from a least one to below the next
pub record IsQueuedIn (version : SnapshotVersion) (least next : ℕ) (entry : ℕ × Message) : Type 0 where
  pub queued : IsQueuedBy version entry
  pub low : least ≤ entry.0
  pub high : entry.0 < next

-- the least number that may follow these messages
abbrev pub next_after : ℕ → List (ℕ × Message) → ℕ
next_after least [] = least
next_after least (entry ∷ entries) = next_after (suc entry.0) entries

-- this many messages are read from the text into a queue, up to the rest
pub record ReadsEntries (version : SnapshotVersion) (count next : ℕ) (text : List ℕ) (queue : Queue) (rest : List ℕ)
    : Type 0 where
  pub are : HaveCount (IsQueuedBy version) count queue.messages
  pub rise : Rise 1 queue.next queue.messages
  pub after : queue.next ≡ next_after 1 queue.messages
  pub below : queue.next ≤ next
  pub text_is : text ≡ flat_map (entry_octets version) queue.messages ++ rest

-- the text is this many messages of a queue with this next number
pub record AreEntries (version : SnapshotVersion) (count next : ℕ) (text : List ℕ) (messages : List (ℕ × Message))
    : Type 0 where
  pub are : HaveCount (IsQueuedBy version) count messages
  pub rise : Rise 1 next messages
  pub text_is : text ≡ flat_map (entry_octets version) messages

-- it is no such messages
pub record HasNoEntries (version : SnapshotVersion) (count next : ℕ) (text : List ℕ) : Type 0 where
  pub none : (messages : List (ℕ × Message)) → AreEntries version count next text messages → ⊥

-- the first octet is that of a snapshot, of either version
abbrev pub is_of_snapshot : List ℕ → Bool
is_of_snapshot [] = false
is_of_snapshot (octet ∷ octets) = octet == 3 || octet == 5

-- the next number and the count of messages begin the text
pub record SpellsCounts (text : List ℕ) (next count : ℕ) (rest : List ℕ) : Type 0 where
  pub text_is : text ≡ octets_8 next ++ (octets_4 count ++ rest)
  pub next_fits : next < 2 ^ 64
  pub count_fits : count < 2 ^ 32

-- they don't
pub record SpellsNoCounts (text : List ℕ) : Type 0 where
  pub none : (next count : ℕ) (rest : List ℕ) → SpellsCounts text next count rest → ⊥

-- the octet of a snapshot of a version, the next number, and the count of messages begin the octets
pub record SpellsSnapshot (version : SnapshotVersion) (octets : List ℕ) (next count : ℕ) (rest : List ℕ) : Type 0 where
  pub octets_are : octets ≡ snapshot_kind version ∷ (octets_8 next ++ (octets_4 count ++ rest))
  pub next_fits : next < 2 ^ 64
  pub count_fits : count < 2 ^ 32

-- they don't
pub record SpellsNoSnapshot (octets : List ℕ) : Type 0 where
  pub none : (version : SnapshotVersion) (next count : ℕ) (rest : List ℕ)
      → SpellsSnapshot version octets next count rest
      → ⊥

-- what is before the messages can be read at once, if the text has so much, and else the whole text
abbrev pub HoldsHead : InPieces → Type 0
HoldsHead octets = length octets.front < 13 → octets.left ≡ 0

-- the octets that are read before any memory is wanted begin as those of a snapshot
pub record MayBeSnapshot (octets : List ℕ) : Type 0 where
  pub version : SnapshotVersion
  pub next : ℕ
  pub count : ℕ
  pub rest : List ℕ
  pub begins : SpellsSnapshot version octets next count rest

-- how many octets recipients with their places take in a snapshot that a node writes, a message, and messages
abbrev pub row_length : List Recipient → ℕ
row_length [] = 0
row_length (recipient ∷ recipients) =
    16 + length recipient.path + length (written recipient.orcpt) + row_length recipients

abbrev pub entry_length : Message → ℕ
entry_length message =
    26 + length message.accept.envelope.reverse_path + length (written message.accept.envelope.envid)
    + row_length message.accept.envelope.recipients + length message.accept.stored_text

abbrev pub entries_length : List (ℕ × Message) → ℕ
entries_length [] = 0
entries_length (entry ∷ entries) = entry_length entry.1 + entries_length entries
