-- Disks: what a call does to the octets of a disk, and what a stop at any time may make of it.
use Rattle.std.specs.Prelude.{◌≡◌, ◌⊎◌, ◌↔◌, ℕ, ◌+◌, ◌-◌, ◌^◌, ◌<◌, ◌≤◌, min, max, List, ◌++◌, length, take, drop}
use Rattle.std.specs.Prelude.{slice_index, Option, Some, Result, OnOk, OnErr, IsErr}
use Rattle.std.specs.Option.{option_map}
use Rattle.relay_disk.specs.declared.disk.DiskFault.{DiskFault}

-- What contracts say of the disks of a type.
pub record DiskWords (D : Type 0) : Type 1 where
  -- the octets that a read gives
  pub seen : D → List ℕ
  -- the images that a stop at this time may leave
  pub may_leave : D → List ℕ → Type 0
  -- the time, as a number that doesn't fall
  pub moment : D → ℕ
  -- the images that a stop at that time or at one since might have left, during a call or between two
  pub left_since : D → ℕ → List ℕ → Type 0
  -- how many calls have failed
  pub failed : D → ℕ
  -- how many calls pass before each one fails; none if no fuse is set
  pub calls_left : D → Option ℕ

-- the octets of a disk with these written at this place
abbrev pub written : List ℕ → ℕ → List ℕ → List ℕ
written old place octets = take place old ++ octets ++ drop (place + length octets) old

-- what a stop may make of a write: its range and what lies past the old end hold any octets, the others stay
pub record Writes (place count : ℕ) (old new : List ℕ) : Type 0 where
  pub stays : (at : ℕ) → at < length old → (at < place) ⊎ (place + count ≤ at) → slice_index new at ≡ slice_index old at
  pub no_shorter : length old ≤ length new
  pub no_longer : length new ≤ max (length old) (place + count)

-- what a stop may make of a cut to this size: it has happened, or not, or in part
pub record Cuts (size : ℕ) (old new : List ℕ) : Type 0 where
  pub stays : (at : ℕ) → at < length new → slice_index new at ≡ slice_index old at
  pub no_shorter : min size (length old) ≤ length new
  pub no_longer : length new ≤ length old

-- a write that a stop interrupts leaves what is before its range and after it
abbrev pub WritesLeaveTheRest : Type 0
WritesLeaveTheRest =
    (place count : ℕ) (old new : List ℕ) → Writes place count old new
    → (take (min place (length old)) new ≡ take place old) × (drop (place + count) new ≡ drop (place + count) old)

-- a cut that a stop interrupts leaves a beginning
abbrev pub CutsLeaveAFront : Type 0
CutsLeaveAFront = (size : ℕ) (old new : List ℕ) → Cuts size old new → new ≡ take (length new) old

-- a stop leaves this image and no other
abbrev pub Only : List ℕ → (List ℕ → Type 0) → Type 0
Only image images = (other : List ℕ) → images other → other ≡ image

-- a count of failures rises; one of 64 bits stays at its greatest value
pub record Rises (before now : ℕ) : Type 0 where
  pub no_less : before ≤ now
  pub more : before < 2 ^ 64 - 1 → before < now

-- The words below take those of a disk's type, and then the disk, or the disk before and after.
module _ {D : Type 0} (words : DiskWords D) where
  -- a stop leaves just what a read gives
  abbrev pub IsSettled : D → Type 0
  IsSettled disk = Only (words.seen disk) (words.may_leave disk)

  -- what a stop may leave of the new disk, it may leave of the old one
  abbrev pub ImagesWithin : D → D → Type 0
  ImagesWithin old new = (image : List ℕ) → words.may_leave new image → words.may_leave old image

  -- each image that a stop may leave of the disk has P
  abbrev pub EachImage : D → (List ℕ → Type 0) → Type 0
  EachImage disk P = (image : List ℕ) → words.may_leave disk image → P image

  -- Time goes on: what a stop since some time might have left, it might have left before, or it may leave now.
  pub record Elapses (old new : D) : Type 0 where
    pub later : words.moment old ≤ words.moment new
    pub nothing_else : (moment : ℕ) (image : List ℕ) → moment ≤ words.moment old → words.left_since new moment image
        → words.left_since old moment image ⊎ words.may_leave new image
    pub keeps : (moment : ℕ) (image : List ℕ) → moment ≤ words.moment old → words.left_since old moment image
        → words.left_since new moment image

  -- a call that changes the octets by this step, as far as a stop lets it
  pub record Steps (step : List ℕ → List ℕ → Type 0) (old new : D) : Type 0 where
    pub images : (image : List ℕ) → words.may_leave new image
        → (before : List ℕ) × words.may_leave old before × step before image
    pub time : Elapses old new

  -- a call that adds no image
  pub record AddsNoImage (old new : D) : Type 0 where
    pub images : ImagesWithin old new
    pub time : Elapses old new

  -- each image that a stop at a time since the old disk might have left has P
  pub record EachImageSince (old new : D) (P : List ℕ → Type 0) : Type 0 where
    pub later : words.moment old ≤ words.moment new
    pub each : (image : List ℕ) → words.left_since new (words.moment old) image → P image
    -- for a run that began earlier
    pub earlier : (since : ℕ) (image : List ℕ) → since ≤ words.moment old → words.left_since new since image
        → words.left_since old since image ⊎ P image

  -- no call has failed
  abbrev pub FailsNot : D → D → Type 0
  FailsNot old new = words.failed new ≡ words.failed old

  -- a call has failed, and was counted
  abbrev pub Fails : D → D → Type 0
  Fails old new = Rises (words.failed old) (words.failed new)

  -- a call that is answered by a fault has failed, and no other
  pub record CountsFailure {T : Type 0} (old new : D) (result : Result T DiskFault) : Type 0 where
    pub ok : OnOk result (FailsNot old new)
    pub fault : OnErr result (Fails old new)

  -- a fuse passes one call less, and one that passes no call fails this one
  pub record Burns {T : Type 0} (old new : D) (result : Result T DiskFault) : Type 0 where
    pub burnt : words.calls_left new ≡ option_map (λ calls. calls - 1) (words.calls_left old)
    pub blown : words.calls_left old ≡ Some 0 → IsErr result

-- a fuse was set, or taken away, and nothing else: no call has failed, and no time has gone by
pub record OnlyFuseChanges {D : Type 0} (honest : Type 0) (words : DiskWords D) (old new : D) : Type 0 where
  pub failures : FailsNot words old new
  pub seen : honest → words.seen new ≡ words.seen old
  pub moment : honest → words.moment new ≡ words.moment old
  pub images : honest → (image : List ℕ) → words.may_leave new image ↔ words.may_leave old image
  pub since : honest → (moment : ℕ) (image : List ℕ)
      → words.left_since new moment image ↔ words.left_since old moment image
