-- Two disks that are stopped together: an image of them is a pair, one of each, and one fuse counts the calls of both.
use Rattle.std.specs.Prelude.{◌≡◌, ◌⊎◌, ℕ, List, [], Option, None, Result, OnOk, OnErr}
use Rattle.relay_disk.specs.declared.disk.DiskFault.{DiskFault}
use Rattle.relay_disk.specs.declared.disks.Disks.{Disks}
use Rattle.relay_disk.specs.declared.disks.Side.{Side}
use Rattle.relay_disk.specs.declared.disks.Side.TheVariants.{First, Second}
use Rattle.relay_disk.specs.Device.{DiskWords, Elapses, Only, OnlyFuseChanges, Fails as DiskFails}
use Rattle.relay_disk.specs.Device.{FailsNot as DiskFailsNot, IsSettled as DiskIsSettled}

-- the other side
abbrev pub turned : Side → Side
turned First = Second
turned Second = First

-- what belongs to this side, and what belongs to the other
abbrev pub mine : {X : Type 0} → Side → Disks X → X
mine First pair = pair.first
mine Second pair = pair.second

abbrev pub other : {X : Type 0} → Side → Disks X → X
other First pair = pair.second
other Second pair = pair.first

-- an image of two disks, or the octets that reads of them give
abbrev pub Images : Type 0
Images = Disks (List ℕ)

-- that of two disks of size 0
abbrev pub no_octets : Images
no_octets = record { first = []; second = [] }

-- The words below take those of the disks' type, and then the disks, or the disks before and after. They have the names
-- that specs of one disk have.
module _ {D : Type 0} (words : DiskWords D) where
  -- the octets that reads give
  abbrev pub seen_of : Disks D → Images
  seen_of disks = record { first = words.seen disks.first; second = words.seen disks.second }

  -- the images that a stop at this time may leave
  abbrev pub may_leave_of : Disks D → Images → Type 0
  may_leave_of disks images = words.may_leave disks.first images.first × words.may_leave disks.second images.second

  -- how many calls of both pass before each one fails: the fuse of the first counts them all
  abbrev pub calls_left_of : Disks D → Option ℕ
  calls_left_of disks = words.calls_left disks.first

  -- the fuse is gone, or it's as before: no stop sets one
  abbrev pub LosesFuseOrNot : Disks D → Disks D → Type 0
  LosesFuseOrNot old new = (calls_left_of new ≡ None) ⊎ (calls_left_of new ≡ calls_left_of old)

  -- a stop leaves just what reads give
  abbrev pub IsSettled : Disks D → Type 0
  IsSettled disks = DiskIsSettled words disks.first × DiskIsSettled words disks.second

  -- a stop leaves no octets of either
  abbrev pub LeavesNothing : Disks D → Type 0
  LeavesNothing disks = Only [] (words.may_leave disks.first) × Only [] (words.may_leave disks.second)

  -- what a stop may leave of the new disks, it may leave of the old ones
  abbrev pub ImagesWithin : Disks D → Disks D → Type 0
  ImagesWithin old new = (images : Images) → may_leave_of new images → may_leave_of old images

  -- all images that a stop may leave of the disks have P
  abbrev pub EachImage : Disks D → (Images → Type 0) → Type 0
  EachImage disks P = (images : Images) → may_leave_of disks images → P images

  -- All images that a stop at a time since the old disks might have left have P. The times of the two disks are not
  -- told apart: each image of the first since then is taken with each of the second.
  abbrev pub EachImageSince : Disks D → Disks D → (Images → Type 0) → Type 0
  EachImageSince old new P =
      (images : Images) → words.left_since new.first (words.moment old.first) images.first
      → words.left_since new.second (words.moment old.second) images.second → P images

  -- calls that add no image
  pub record AddsNoImage (old new : Disks D) : Type 0 where
    pub images : ImagesWithin old new
    pub first_time : Elapses words old.first new.first
    pub second_time : Elapses words old.second new.second

  -- no call of either has failed
  abbrev pub FailsNot : Disks D → Disks D → Type 0
  FailsNot old new = DiskFailsNot words old.first new.first × DiskFailsNot words old.second new.second

  -- calls of one of them have failed, and were counted
  abbrev pub Fails : Disks D → Disks D → Type 0
  Fails old new =
      (DiskFails words old.first new.first × DiskFailsNot words old.second new.second)
      ⊎ (DiskFailsNot words old.first new.first × DiskFails words old.second new.second)

  -- calls that are answered by a fault have failed, and no others
  pub record CountsFailure {T : Type 0} (old new : Disks D) (result : Result T DiskFault) : Type 0 where
    pub ok : OnOk result (FailsNot old new)
    pub fault : OnErr result (Fails old new)

-- the disk of this side was brought to the front, or back from there; the fuse has stayed in front
pub record IsTurned {D : Type 0} (honest : Type 0) (words : DiskWords D) (side : Side) (old new : Disks D)
    : Type 0 where
  pub fuse : calls_left_of words new ≡ calls_left_of words old
  pub mine_there : OnlyFuseChanges honest words (mine side old) new.first
  pub other_there : OnlyFuseChanges honest words (other side old) new.second
  pub mine_back : OnlyFuseChanges honest words old.first (mine side new)
  pub other_back : OnlyFuseChanges honest words old.second (other side new)
