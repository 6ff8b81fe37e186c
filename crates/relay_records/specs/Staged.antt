-- Changes that the queue has, and whose records come into the spool together: all of them or none, whenever a stop
-- comes.
use Rattle.std.specs.Prelude.{◌≡◌, ◌⊎◌, ℕ, ◌+◌, ◌^◌, ◌≤◌, true, false, List, [], ◌∷◌, ◌++◌, length, map}
use Rattle.relay_disk.specs.Device.{DiskWords}
use Rattle.relay_disk.specs.Disks.{FailsNot}
use Rattle.relay_spool.specs.Image.{room_of}
use Rattle.relay_spool.specs.Spool.{EveryImageHas, Passes, calls_to_add}
use Rattle.relay_book.specs.declared.change.Change.{Change}
use Rattle.relay_book.specs.Record.{encode}
use Rattle.relay_book.specs.Queue.{Queue, FitsFrom, Fitting, queue_of, step}
use Rattle.relay_book.specs.StandsFor.{StandsFor}
use Rattle.relay_records.specs.declared.noted.Noted.{Noted}
use Rattle.relay_records.specs.declared.fault.NodeFault.{NodeFault}
use Rattle.relay_records.specs.declared.fault.NodeFault.TheVariants.{NoMemory, Stopped, Full}
use Rattle.relay_records.specs.Note.{NotesNext}
use Rattle.relay_records.specs.Records.{IsStopped, Keeps, Kept}

-- what a caller sees of staged changes: the bodies that record them, and the note of each
pub record Row : Type 0 where
  pub bodies : List (List ℕ)
  pub notes : List Noted

-- of no change
abbrev pub no_row : Row
no_row = record { bodies = []; notes = [] }

-- a note of each change, the first of which comes next in this queue, and each other after those before it
abbrev pub AreNotes : Queue → List Change → List Noted → Type 0
AreNotes queue [] notes = notes ≡ []
AreNotes queue (change ∷ changes) notes =
    (note : Noted) × (rest : List Noted) × (notes ≡ note ∷ rest)
    × NotesNext queue change (encode change) note.used note × AreNotes (step queue change) changes rest

-- What a stop may leave: the bodies stand for the changes, or for these with all that were pending.
abbrev pub StandsForOrWithAll : List Change → List Change → List (List ℕ) → Type 0
StandsForOrWithAll changes pending bodies = StandsFor bodies changes ⊎ StandsFor bodies (changes ++ pending)

module _ {D : Type 0} (honest : Type 0) (words : DiskWords D) where
  -- the records are live, and keep these changes in their spool, as every image does that a stop may leave. Their queue
  -- has those that are pending besides, which the row records
  pub record Awaits (records : Kept D) (changes pending : List Change) (row : Row) : Type 0 where
    pub live : records.spool.live ≡ true
    pub fitting : Fitting changes
    pub fits : FitsFrom (queue_of changes) pending
    pub queue : records.queue ≡ queue_of (changes ++ pending)
    pub bodies : honest → StandsFor records.spool.bodies changes
    pub images : honest → EveryImageHas words records.spool.disk (λ bodies. StandsFor bodies changes)
    pub row_is : row.bodies ≡ map encode pending
    pub notes : AreNotes (queue_of changes) pending row.notes

  -- the records are stopped: a stop leaves these changes, or these with all that were pending
  pub record HaltedAll (records : Kept D) (changes pending : List Change) : Type 0 where
    pub stopped : records.spool.live ≡ false
    pub fitting : Fitting changes
    pub fits : FitsFrom (queue_of changes) pending
    pub next : records.queue.next ≡ length changes + length pending + 1
    pub images : honest → EveryImageHas words records.spool.disk (StandsForOrWithAll changes pending)

  -- the records keep the changes and all that were pending, which were noted so
  pub record Settles (new : Kept D) (changes pending : List Change) (notes : List Noted) : Type 0 where
    pub keeps : Keeps honest words new (changes ++ pending)
    pub notes_are : AreNotes (queue_of changes) pending notes

  -- a stop came while those were added, which were noted so
  pub record CutsAll (new : Kept D) (changes pending : List Change) (notes : List Noted) : Type 0 where
    pub halted : HaltedAll new changes pending
    pub notes_are : AreNotes (queue_of changes) pending notes

-- one change more is staged: the queue has it, the row its record and its note, and the spool stays
pub record Stages {D : Type 0} (old new : Kept D) (row left : Row) (change : Change) (used number : ℕ) : Type 0 where
  pub number_is : number ≡ old.queue.next
  pub queue : new.queue ≡ step old.queue change
  pub spool : new.spool ≡ old.spool
  pub noted : new.noted ≡ old.noted
  pub bodies : left.bodies ≡ row.bodies ++ encode change ∷ []
  pub note : Noted
  pub notes_next : NotesNext old.queue change (encode change) used note
  pub notes : left.notes ≡ row.notes ++ note ∷ []
  pub room : new.spool.size + room_of left.bodies ≤ 2 ^ 40

-- what a call leaves that stages no change
abbrev pub RefusesToStage : {D : Type 0} → Kept D → Kept D → Row → Row → NodeFault → Type 0
RefusesToStage old new row left NoMemory = (new ≡ old) × (left ≡ row)
RefusesToStage old new row left Full = (new ≡ old) × (left ≡ row)
RefusesToStage old new row left other = ⊥

-- what a row that came into the spool did to the records, whatever they keep
pub record GrowsAll {D : Type 0} (words : DiskWords D) (old : Kept D) (row : Row) (new : Kept D) : Type 0 where
  pub queue : new.queue ≡ old.queue
  pub noted : new.noted ≡ old.noted
  pub size : new.spool.size ≡ old.spool.size + room_of row.bodies
  pub live : new.spool.live ≡ true
  pub failures : FailsNot words old.spool.disk new.spool.disk
  pub calls : Passes words (calls_to_add row.bodies) old.spool.disk new.spool.disk

-- what a call leaves that adds no row
abbrev pub RefusesToSettle : {D : Type 0} → DiskWords D → Kept D → Kept D → NodeFault → Type 0
RefusesToSettle words old new Stopped = IsStopped words 4 old new
RefusesToSettle words old new Full = new ≡ old
RefusesToSettle words old new other = ⊥
