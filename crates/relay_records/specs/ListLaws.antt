-- The lists of changes that records keep leave one queue, and a stop takes no change of them away.
use Rattle.std.specs.Prelude.{◌≡◌, ◌⊎◌, ◌+◌, List, [], ◌∷◌, ◌++◌, length, Option, Some}
use Rattle.relay_disk.specs.declared.disks.Disks.{Disks}
use Rattle.relay_disk.specs.Device.{DiskWords}
use Rattle.relay_disk.specs.Disks.{ImagesWithin, seen_of}
use Rattle.relay_spool.specs.declared.fault.SpoolFault.TheVariants.{Device, NoMemory, Full}
use Rattle.relay_book.specs.declared.change.Change.{Change}
use Rattle.relay_book.specs.Queue.{FitsQueue, queue_of}
use Rattle.relay_records.specs.declared.fault.Cause.{Cause}
use Rattle.relay_records.specs.declared.fault.Cause.TheVariants.{Spool}
use Rattle.relay_records.specs.Open.{Opens, RefusesImage}
use Rattle.relay_records.specs.Records.{Halted, Keeps, Kept}
use Rattle.relay_records.specs.Staged.{Awaits, HaltedAll, Row, no_row}

-- The next number of a list is that of one change more.
abbrev pub NextIsOneMore : Type 0
NextIsOneMore = (changes : List Change) → (queue_of changes).next ≡ length changes + 1

-- the device failed, memory ran out, or the spool is too large
abbrev pub IsNoFaultOfImage : Cause → Type 0
IsNoFaultOfImage cause = (cause ≡ Spool Device) ⊎ (cause ≡ Spool NoMemory) ⊎ (cause ≡ Spool Full)

-- Of the other disks a stop leaves nothing that it doesn't leave of the records' own: so it is with those
-- themselves, after a stop, and where `open` has refused them.
module _ {D : Type 0} (honest : Type 0) (words : DiskWords D) where
  -- The lists that records keep leave one queue.
  abbrev pub OneListIsKept : Type 0
  OneListIsKept =
      (records : Kept D) (changes others : List Change) → Keeps honest words records changes
      → Keeps honest words records others → queue_of changes ≡ queue_of others

  -- What live records kept is opened as it was.
  abbrev pub KeptIsOpened : Type 0
  KeptIsOpened =
      (records opened : Kept D) (changes : List Change) (disk : Disks D) → Keeps honest words records changes
      → ImagesWithin words records.spool.disk disk → Opens honest words disk opened
      → Keeps honest words opened changes

  -- What stopped records kept is opened as it was, or with the change that was being added.
  abbrev pub HaltedIsOpened : Type 0
  HaltedIsOpened =
      (records opened : Kept D) (changes : List Change) (pending : Option Change) (disk : Disks D)
      → Halted honest words records changes pending → ImagesWithin words records.spool.disk disk
      → Opens honest words disk opened
      → Keeps honest words opened changes
      ⊎ ((change : Change) × (pending ≡ Some change) × FitsQueue (queue_of changes) change
      × Keeps honest words opened (changes ++ change ∷ []))

  -- Records that keep changes await none.
  abbrev pub NoneIsAwaited : Type 0
  NoneIsAwaited =
      (records : Kept D) (changes : List Change) → Keeps honest words records changes
      → Awaits honest words records changes [] no_row

  -- The next number of records that await changes comes after these.
  abbrev pub AwaitedAreNumbered : Type 0
  AwaitedAreNumbered =
      (records : Kept D) (changes pending : List Change) (row : Row) → Awaits honest words records changes pending row
      → records.queue.next ≡ length changes + length pending + 1

  -- What stopped records kept is opened as it was, or with all changes of the row that was being added.
  abbrev pub HaltedAllIsOpened : Type 0
  HaltedAllIsOpened =
      (records opened : Kept D) (changes pending : List Change) (disk : Disks D)
      → HaltedAll honest words records changes pending → ImagesWithin words records.spool.disk disk
      → Opens honest words disk opened
      → Keeps honest words opened changes ⊎ Keeps honest words opened (changes ++ pending)

  -- What live records kept isn't refused for its octets.
  abbrev pub KeptIsNotRefused : Type 0
  KeptIsNotRefused =
      (records : Kept D) (changes : List Change) (disk : Disks D) (cause : Cause)
      → Keeps honest words records changes → ImagesWithin words records.spool.disk disk
      → RefusesImage honest (seen_of words disk) cause → IsNoFaultOfImage cause

  -- Nor is what stopped records kept.
  abbrev pub HaltedIsNotRefused : Type 0
  HaltedIsNotRefused =
      (records : Kept D) (changes : List Change) (pending : Option Change) (disk : Disks D) (cause : Cause)
      → Halted honest words records changes pending → ImagesWithin words records.spool.disk disk
      → RefusesImage honest (seen_of words disk) cause → IsNoFaultOfImage cause

  -- Nor is it where a row was being added.
  abbrev pub HaltedAllIsNotRefused : Type 0
  HaltedAllIsNotRefused =
      (records : Kept D) (changes pending : List Change) (disk : Disks D) (cause : Cause)
      → HaltedAll honest words records changes pending → ImagesWithin words records.spool.disk disk
      → RefusesImage honest (seen_of words disk) cause → IsNoFaultOfImage cause
