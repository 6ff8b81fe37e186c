-- Calls of one disk of a spool: what a stop leaves of it at each time, and what they keep.
use Rattle.std.specs.Prelude.{◌≡◌, ℕ, ◌+◌, ◌-◌, ◌≤◌, List, length, Result, OnOk, Some}
use Rattle.std.specs.Option.{option_map}
use Rattle.relay_disk.specs.declared.disks.Disks.{Disks}
use Rattle.relay_disk.specs.Device.{DiskWords, EachImage, EachImageSince, Fails, FailsNot, IsSettled}
use Rattle.relay_spool.specs.declared.fault.SpoolFault.{SpoolFault}
use Rattle.relay_spool.specs.declared.fault.SpoolFault.TheVariants.{Device, NoMemory, Damaged, Full}
use Rattle.relay_spool.specs.declared.fault.ReadFault.{ReadFault}
use Rattle.relay_spool.specs.declared.fault.ReadFault.TheVariants.{Device as ReadDevice, NoMemory as ReadNoMemory}
use Rattle.relay_spool.specs.declared.fault.ReadFault.TheVariants.{Damaged as ReadDamaged}
use Rattle.relay_spool.specs.Image.{IsDamagedAt, IsImageOf, IsTooLarge}

-- what a reader's fault is answered as
abbrev pub fault_of : ReadFault → SpoolFault
fault_of ReadDevice = Device
fault_of ReadNoMemory = NoMemory
fault_of (ReadDamaged gate) = Damaged gate

-- an image with no more octets than an empty spool has
abbrev pub IsShort : List ℕ → Type 0
IsShort image = length image ≤ 18

-- The words below take those of a disk's type, and then the disk, or the disk before and after.
module _ {D : Type 0} (words : DiskWords D) where
  -- at each time from the old disk on, and now, a stop leaves an image with P
  pub record AtEachMoment (old new : D) (P : List ℕ → Type 0) : Type 0 where
    pub since : EachImageSince words old new P
    pub now : EachImage words new P

  -- the disk is only read: a read gives the same, and at each time a stop leaves an image of before
  pub record OnlyReads (old new : D) : Type 0 where
    pub reads : words.seen new ≡ words.seen old
    pub stop : AtEachMoment old new (words.may_leave old)

  -- both of two disks are only read
  abbrev pub EachOnlyReads : Disks D → Disks D → Type 0
  EachOnlyReads old new = OnlyReads old.first new.first × OnlyReads old.second new.second

  -- at each time a stop leaves short images of both
  abbrev pub EachStaysShort : Disks D → Disks D → Type 0
  EachStaysShort old new = AtEachMoment old.first new.first IsShort × AtEachMoment old.second new.second IsShort

  -- this many calls went to the device
  abbrev pub Calls : ℕ → D → D → Type 0
  Calls count old new = words.calls_left new ≡ option_map (λ calls. calls - count) (words.calls_left old)

  -- this many at most
  abbrev pub CallsUpTo : ℕ → D → D → Type 0
  CallsUpTo most old new = (count : ℕ) × (count ≤ most) × Calls count old new

  -- this many went there, and the fuse let all of them pass: it had as many left
  pub record Passes (count : ℕ) (old new : D) : Type 0 where
    pub calls : Calls count old new
    pub had : (left : ℕ) → words.calls_left old ≡ Some left → count ≤ left

  -- any number went there, or none, and the fuse let all of them pass
  abbrev pub PassesAny : D → D → Type 0
  PassesAny old new = (count : ℕ) × Passes count old new

  -- one at least did
  abbrev pub PassesSome : D → D → Type 0
  PassesSome old new = (count : ℕ) × Passes (count + 1) old new

  -- any number passed, and one at least where the answer isn't a fault
  pub record MakesSome {T E : Type 0} (old new : D) (result : Result T E) : Type 0 where
    pub any : PassesAny old new
    pub ok : OnOk result (PassesSome old new)

  -- this many, which all passed, and fewer where the answer is a fault
  pub record Makes {T E : Type 0} (count : ℕ) (old new : D) (result : Result T E) : Type 0 where
    pub at_most : CallsUpTo count old new
    pub ok : OnOk result (Passes count old new)

  -- only the answer `Device` comes of a failure that the disk has counted
  abbrev pub FailsBy : D → D → SpoolFault → Type 0
  FailsBy old new Device = Fails words old new
  FailsBy old new _ = FailsNot words old new

  -- the disk reads as these bodies, and a stop leaves what a read gives
  pub record Rests (disk : D) (bodies : List (List ℕ)) : Type 0 where
    pub image : IsImageOf (words.seen disk) bodies
    pub only : IsSettled words disk

-- what is true of an image with an open head that isn't read to its end
abbrev pub RefusesToRead : Type 0 → List ℕ → SpoolFault → Type 0
RefusesToRead honest image Device = Unit {0}
RefusesToRead honest image NoMemory = Unit {0}
RefusesToRead honest image (Damaged place) = honest → IsDamagedAt image place
RefusesToRead honest image Full = honest → IsTooLarge image
RefusesToRead honest image _ = ⊥
