-- What disks are opened to, and why they aren't.
use Rattle.std.specs.Prelude.{◌≡◌, ℕ, ◌+◌, true, List, [], ◌∷◌, ◌++◌, length, None}
use Rattle.relay_disk.specs.declared.disks.Disks.{Disks}
use Rattle.relay_disk.specs.Device.{DiskWords}
use Rattle.relay_disk.specs.Disks.{FailsNot, Images}
use Rattle.relay_spool.specs.Image.{size_of}
use Rattle.relay_spool.specs.Pair.{HasBodies}
use Rattle.relay_spool.specs.Spool.{EveryImageHas, FailsBy, PassesSome, ReadsAs, RefusesToCreate, RefusesToOpen}
use Rattle.relay_spool.specs.declared.fault.SpoolFault.TheVariants.{NoMemory}
use Rattle.relay_book.specs.Queue.{Queue}
use Rattle.relay_book.specs.StandsFor.{ReadsAll}
use Rattle.relay_records.specs.declared.fault.Cause.{Cause}
use Rattle.relay_records.specs.declared.fault.Cause.TheVariants.{Spool, BadRecord}
use Rattle.relay_records.specs.Records.{Kept}

-- the body of this number, from 1, is the first with which the bodies leave no queue
pub record IsBadRecord (number : ℕ) (bodies : List (List ℕ)) : Type 0 where
  pub front : List (List ℕ)
  pub body : List ℕ
  pub rest : List (List ℕ)
  pub bodies_are : bodies ≡ front ++ body ∷ rest
  pub number_is : number ≡ length front + 1
  pub queue : Queue
  pub reads : ReadsAll front queue
  pub none : (left : Queue) → ReadsAll (front ++ body ∷ []) left → ⊥

-- why bodies leave no queue
abbrev pub RefusesBodies : List (List ℕ) → Cause → Type 0
RefusesBodies bodies (Spool fault) = fault ≡ NoMemory
RefusesBodies bodies (BadRecord number) = IsBadRecord number bodies

-- why images aren't opened
abbrev pub RefusesImage : Type 0 → Images → Cause → Type 0
RefusesImage honest images (Spool fault) = RefusesToOpen honest images fault
RefusesImage honest images (BadRecord number) = honest → HasBodies (IsBadRecord number) images

-- why nothing is made on disks
abbrev pub RefusesDisk : {D : Type 0} → Type 0 → DiskWords D → Disks D → Disks D → Cause → Type 0
RefusesDisk honest words old new (Spool fault) = RefusesToCreate honest words old new fault
RefusesDisk honest words old new (BadRecord number) = ⊥

-- only a fault of the device comes of a failure that a disk has counted
abbrev pub FailsFor : {D : Type 0} → DiskWords D → Disks D → Disks D → Cause → Type 0
FailsFor words old new (Spool fault) = FailsBy words old new fault
FailsFor words old new (BadRecord number) = FailsNot words old new

module _ {D : Type 0} (honest : Type 0) (words : DiskWords D) where
  -- the records have the queue that the disks held, as all images have that a stop may leave, in a spool of the size of
  -- the bodies there, and no note. So they keep each list of changes that the disks stood for. The fuse let all calls
  -- of the opening pass, one at least, and has as many less left; if the disks had none, none is set.
  pub record Opens (disk : Disks D) (records : Kept D) : Type 0 where
    pub live : records.spool.live ≡ true
    pub reads : honest → ReadsAs words disk (λ bodies. ReadsAll bodies records.queue)
    pub sized : honest → ReadsAs words disk (λ bodies. records.spool.size ≡ size_of bodies)
    pub bodies : honest → ReadsAll records.spool.bodies records.queue
    pub images : honest → EveryImageHas words records.spool.disk (λ bodies. ReadsAll bodies records.queue)
    pub noted : records.noted ≡ None
    pub calls : PassesSome words disk records.spool.disk
