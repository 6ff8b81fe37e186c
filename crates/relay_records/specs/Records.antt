-- The records of a node in its list of changes: what they keep, and what a stop leaves of them.
use Rattle.std.specs.Prelude.{◌≡◌, ◌⊎◌, ℕ, ◌+◌, true, false, List, [], ◌∷◌, ◌++◌, length, Option, Some}
use Rattle.relay_disk.specs.Device.{DiskWords}
use Rattle.relay_disk.specs.Disks.{Fails, FailsNot}
use Rattle.relay_spool.specs.Head.{renewal_calls}
use Rattle.relay_spool.specs.Pair.{renewed_taken}
use Rattle.relay_spool.specs.Spool.{CallsUpTo, EveryImageHas, Passes, Stored}
use Rattle.relay_book.specs.declared.change.Change.{Change}
use Rattle.relay_book.specs.Record.{encode}
use Rattle.relay_book.specs.Queue.{Queue, FitsQueue, Fitting, queue_of, step}
use Rattle.relay_book.specs.Snapshot.{snapshot}
use Rattle.relay_book.specs.StandsFor.{StandsFor}
use Rattle.relay_records.specs.declared.noted.Noted.{Noted}
use Rattle.relay_records.specs.declared.fault.NodeFault.{NodeFault}
use Rattle.relay_records.specs.declared.fault.NodeFault.TheVariants.{NoMemory, Stopped, Full, NoSecond}
use Rattle.relay_records.specs.Note.{IsNoted}

-- what a caller sees of records: the spool, the queue that its bodies leave, and the note of the last append
-- that was begun
pub record Kept (D : Type 0) : Type 0 where
  pub spool : Stored D
  pub queue : Queue
  pub noted : Option Noted

-- What a stop may leave: the bodies stand for the changes, or for these with one more, which was being added.
abbrev pub StandsForOrWith : List Change → Option Change → List (List ℕ) → Type 0
StandsForOrWith changes pending bodies =
    StandsFor bodies changes
    ⊎ ((change : Change) × (pending ≡ Some change) × FitsQueue (queue_of changes) change
    × StandsFor bodies (changes ++ change ∷ []))

module _ {D : Type 0} (honest : Type 0) (words : DiskWords D) where
  -- the records are live, and keep these changes, as every image does that a stop may leave
  pub record Keeps (records : Kept D) (changes : List Change) : Type 0 where
    pub live : records.spool.live ≡ true
    pub fitting : Fitting changes
    pub queue : records.queue ≡ queue_of changes
    pub bodies : honest → StandsFor records.spool.bodies changes
    pub images : honest → EveryImageHas words records.spool.disk (λ bodies. StandsFor bodies changes)

  -- the records are stopped: a stop leaves these changes, or these with the one that was being added
  pub record Halted (records : Kept D) (changes : List Change) (pending : Option Change) : Type 0 where
    pub stopped : records.spool.live ≡ false
    pub fitting : Fitting changes
    pub next : records.queue.next ≡ length changes + 1
    pub images : honest → EveryImageHas words records.spool.disk (StandsForOrWith changes pending)

  -- the records keep the same changes, and the note stays
  pub record Stays (old new : Kept D) (changes : List Change) : Type 0 where
    pub keeps : Keeps new changes
    pub noted : new.noted ≡ old.noted

  -- the records keep the changes and one more, which is noted
  pub record Adds (new : Kept D) (changes : List Change) (change : Change) (used : ℕ) : Type 0 where
    pub keeps : Keeps new (changes ++ change ∷ [])
    pub noted : IsNoted new.noted changes change used

  -- a stop came while the change was added, which is noted
  pub record Cuts (new : Kept D) (changes : List Change) (change : Change) (used : ℕ) : Type 0 where
    pub halted : Halted new changes (Some change)
    pub fits : FitsQueue (queue_of changes) change
    pub noted : IsNoted new.noted changes change used

-- what a change that was added did to the records, whatever list they keep: it took four calls of the device, which a
-- fuse lets pass, and has less left by as many
pub record Grows {D : Type 0} (words : DiskWords D) (old : Kept D) (change : Change) (number : ℕ)
    (new : Kept D) : Type 0 where
  pub number_is : number ≡ old.queue.next
  pub queue : new.queue ≡ step old.queue change
  pub size : new.spool.size ≡ old.spool.size + 5 + length (encode change)
  pub live : new.spool.live ≡ true
  pub failures : FailsNot words old.spool.disk new.spool.disk
  pub calls : Passes words 4 old.spool.disk new.spool.disk

-- the device failed in one of this many calls at most, and nothing was committed; a fuse has as many calls less left as
-- were made, and is neither set nor taken away
pub record IsStopped {D : Type 0} (words : DiskWords D) (most : ℕ) (old new : Kept D) : Type 0 where
  pub live : new.spool.live ≡ false
  pub queue : new.queue ≡ old.queue
  pub failures : Fails words old.spool.disk new.spool.disk
  pub calls : CallsUpTo words most old.spool.disk new.spool.disk

-- what a call leaves that adds no change
abbrev pub RefusesToAdd : {D : Type 0} → DiskWords D → Kept D → Kept D → NodeFault → Type 0
RefusesToAdd words old new NoMemory = new ≡ old
RefusesToAdd words old new Stopped = IsStopped words 4 old new
RefusesToAdd words old new Full = new ≡ old
RefusesToAdd words old new other = ⊥

-- what a compaction did to the records, whatever list they keep: the spool has one body, the snapshot of the queue, on
-- the disk that wasn't taken and is now; it took the calls of the device that rewrite a disk, which a fuse lets pass
pub record Compacts {D : Type 0} (honest : Type 0) (words : DiskWords D) (old new : Kept D) : Type 0 where
  pub bodies_are : honest → new.spool.bodies ≡ snapshot old.queue ∷ []
  pub size : new.spool.size ≡ 23 + length (snapshot old.queue)
  pub live : new.spool.live ≡ true
  pub taken : new.spool.taken ≡ renewed_taken old.spool.taken
  pub failures : FailsNot words old.spool.disk new.spool.disk
  pub calls : Passes words (renewal_calls old.spool.taken.other) old.spool.disk new.spool.disk

-- what a compaction leaves that wasn't made
abbrev pub RefusesToCompact : {D : Type 0} → DiskWords D → Kept D → Kept D → NodeFault → Type 0
RefusesToCompact words old new NoMemory = new ≡ old
RefusesToCompact words old new Stopped = IsStopped words (renewal_calls old.spool.taken.other) old new
RefusesToCompact words old new Full = new ≡ old
RefusesToCompact words old new NoSecond = new ≡ old
RefusesToCompact words old new other = ⊥
