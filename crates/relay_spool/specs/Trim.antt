-- The disk that isn't taken is made shorter, a turn at a time. Its octets count for nothing, and all but its head gate
-- are dropped before it is rewritten.
use Rattle.std.specs.Prelude.{◌≡◌, ◌↔◌, ℕ, ◌-◌, ◌<◌, max, Bool, true, false, List, [], ◌∷◌, length, take, Option, None}
use Rattle.std.specs.Prelude.{Some, IsTrue}
use Rattle.relay_disk.specs.Device.{DiskWords, written}
use Rattle.relay_disk.specs.Disks.{Fails, FailsNot, mine, other}
use Rattle.relay_spool.specs.declared.taken.HeadGate.{HeadGate}
use Rattle.relay_spool.specs.declared.taken.HeadGate.TheVariants.{Closed, Open}
use Rattle.relay_spool.specs.declared.taken.Taken.{Taken}
use Rattle.relay_spool.specs.Spool.{EveryImageHas, Stored}

-- the image that a turn leaves of that disk: an open head gate is closed; after a closed one this many octets at most
-- are dropped from the end, and the first 9 stay
abbrev pub trimmed : ℕ → HeadGate → List ℕ → List ℕ
trimmed most Open image = written image 8 (0 ∷ [])
trimmed most Closed image = take (max 9 (length image - most)) image

-- whether there may be more to drop: it is so once the head is closed, and then while more than the first 9 octets
-- are left
abbrev pub LeavesMore : HeadGate → List ℕ → Bool → Type 0
LeavesMore Open image more = more ≡ true
LeavesMore Closed image more = IsTrue more ↔ (9 < length image)

-- what a turn makes of a disk with this head gate, and whether it leaves more to drop
pub record Trims (most : ℕ) (gate : HeadGate) (old new : List ℕ) (more : Bool) : Type 0 where
  pub image : new ≡ trimmed most gate old
  pub leaves : LeavesMore gate new more

-- the same of one that may have no head gate: that one stays
abbrev pub TrimsIfGate : ℕ → Option HeadGate → List ℕ → List ℕ → Bool → Type 0
TrimsIfGate most None old new more = (new ≡ old) × (more ≡ false)
TrimsIfGate most (Some gate) old new more = Trims most gate old new more

-- the head gate after a turn
abbrev pub trimmed_gate : Option HeadGate → Option HeadGate
trimmed_gate None = None
trimmed_gate (Some gate) = Some Closed

-- what is known of both disks then
abbrev pub trimmed_taken : Taken → Taken
trimmed_taken taken =
    record { side = taken.side; generation = taken.generation; other = trimmed_gate taken.other }

-- how many calls of the device a turn takes: two close an open head, and three find out the size and cut
abbrev pub trim_calls : Option HeadGate → ℕ
trim_calls None = 0
trim_calls (Some Closed) = 3
trim_calls (Some Open) = 2

-- a spool has the same bodies on the same disk, of which no octet has changed, and the other was made shorter; it is
-- live, and no call of its disks has failed
pub record IsTrimmed {D : Type 0} (honest : Type 0) (words : DiskWords D) (most : ℕ) (old new : Stored D) (more : Bool)
    : Type 0 where
  pub size : new.size ≡ old.size
  pub live : new.live ≡ true
  pub taken : new.taken ≡ trimmed_taken old.taken
  pub failures : FailsNot words old.disk new.disk
  pub mine_stays : honest → words.seen (mine old.taken.side new.disk) ≡ words.seen (mine old.taken.side old.disk)
  pub other_is : honest
      → TrimsIfGate most old.taken.other (words.seen (other old.taken.side old.disk))
      (words.seen (other old.taken.side new.disk)) more
  pub bodies_are : honest → new.bodies ≡ old.bodies
  pub images : honest → EveryImageHas words new.disk (λ bodies. bodies ≡ old.bodies)

-- the device failed, and the spool is spent
pub record FailsToTrim {D : Type 0} (words : DiskWords D) (old new : Stored D) : Type 0 where
  pub live : new.live ≡ false
  pub size : new.size ≡ old.size
  pub taken : new.taken ≡ old.taken
  pub failures : Fails words old.disk new.disk
