-- A memory disk: what it holds, what it has stored, and what a stop may leave of it.
use Rattle.std.specs.Prelude.{◌≡◌, ◌⊎◌, ℕ, ◌<◌, ◌≤◌, List, [], ◌∷◌, reverse, length, Option, None, Some}
use Rattle.std.specs.Vec.{vec_len, vec_capacity}
use Rattle.relay_disk.specs.declared.call.Call.{Call}
use Rattle.relay_disk.specs.declared.memory.MemoryDisk.{MemoryDisk}
use Rattle.relay_disk.specs.Device.{DiskWords}
use Rattle.relay_disk.specs.MayLeave.{MayLeave, LeftSince, synced_after}
use Rattle.relay_disk.specs.Pick.{IsPicked}

-- what a read gives
abbrev pub image_of : MemoryDisk → List ℕ
image_of disk = disk.image.items

-- what it held at its start
abbrev pub start_of : MemoryDisk → List ℕ
start_of disk = disk.start.items

-- the calls that it has stored, the newest first
abbrev pub calls_of : MemoryDisk → List Call
calls_of disk = reverse disk.calls.items

-- what it held at the last good sync, or else at its start
abbrev pub synced_of : MemoryDisk → List ℕ
synced_of disk = synced_after (start_of disk) (calls_of disk)

-- the images that a stop may leave
abbrev pub images_of : MemoryDisk → List ℕ → Type 0
images_of disk = MayLeave (start_of disk) (calls_of disk)

-- how many calls it has stored
abbrev pub moment_of : MemoryDisk → ℕ
moment_of disk = length (calls_of disk)

-- the images that a stop from that time on might have left
abbrev pub images_since : MemoryDisk → ℕ → List ℕ → Type 0
images_since disk = LeftSince (start_of disk) (calls_of disk)

-- how many of its calls have failed
abbrev pub failures_of : MemoryDisk → ℕ
failures_of disk = disk.failures

-- how many calls its fuse lets pass
abbrev pub fuse_of : MemoryDisk → Option ℕ
fuse_of disk = disk.fuse

-- what contracts say of it
abbrev pub memory_words : DiskWords MemoryDisk
memory_words = record {
  seen = image_of;
  may_leave = images_of;
  moment = moment_of;
  left_since = images_since;
  failed = failures_of;
  calls_left = fuse_of;
}

-- its fuse lets no call pass
abbrev pub IsBlown : MemoryDisk → Type 0
IsBlown disk = fuse_of disk ≡ Some 0

-- it must take memory before it can store one more call
abbrev pub IsFull : MemoryDisk → Type 0
IsFull disk = vec_capacity disk.calls ≤ vec_len disk.calls

-- it must take memory to store a write of these octets: it keeps a copy of them
abbrev pub TakesMemory : MemoryDisk → List ℕ → Type 0
TakesMemory disk octets = (0 < length octets) ⊎ IsFull disk

-- it holds these octets, all of them synced, has stored no call, and has no fuse
pub record IsFresh (octets : List ℕ) (disk : MemoryDisk) : Type 0 where
  pub image : image_of disk ≡ octets
  pub start : start_of disk ≡ octets
  pub calls : calls_of disk ≡ []
  pub fuse : fuse_of disk ≡ None

-- the disk has stored this call
pub record Stores (call : Call) (old new : MemoryDisk) : Type 0 where
  pub start : start_of new ≡ start_of old
  pub calls : calls_of new ≡ call ∷ calls_of old

-- a call of which the disk keeps nothing
pub record KeepsAll (old new : MemoryDisk) : Type 0 where
  pub start : start_of new ≡ start_of old
  pub calls : calls_of new ≡ calls_of old
  pub image : image_of new ≡ image_of old

-- a stop by this pick leaves the image
abbrev pub LeavesByPick : MemoryDisk → ℕ → List ℕ → Type 0
LeavesByPick disk pick image = IsPicked pick (synced_of disk) (image_of disk) (calls_of disk) image
