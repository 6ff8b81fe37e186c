-- What only grows: the records of each node, the ledger, and what was written and read on each link. And what only
-- moves on: the ends of links, and the states of attempts.
use Rattle.std.specs.Prelude.{◌≡◌, ◌⊎◌, ◌≤◌, ℕ, true, List, Option, None, Some, slice_get}
use Rattle.relay_octets.specs.Beginning.{Begins}
use Rattle.relay_disk.specs.Device.{DiskWords}
use Rattle.relay_book.specs.declared.change.Change.{Change}
use Rattle.relay_world.specs.declared.attempt.Attempt.{Attempt}
use Rattle.relay_world.specs.declared.attempt.Fate.{Fate}
use Rattle.relay_world.specs.declared.attempt.Fate.TheVariants.{Running, Replied, Lost, Dropped}
use Rattle.relay_world.specs.declared.link.Link.{Link}
use Rattle.relay_world.specs.declared.link.ServerEnd.{ServerEnd}
use Rattle.relay_world.specs.Bound.{IsBound}
use Rattle.relay_world.specs.Once.{Happen}
use Rattle.relay_world.specs.World.{Host, World, link_at}

-- The server end of a link stays at its node, or outside, with the same client address. Its session goes on, or is gone
-- for good.
abbrev pub EndStays : Option ServerEnd → Option ServerEnd → Type 0
EndStays None its = its ≡ None
EndStays (Some was) its = (its ≡ Some was) ⊎ (its ≡ Some (record was { session = None }))

-- a broken link stays broken, and nothing more is written on it
pub record StaysBroken (was its : Link) : Type 0 where
  pub broken : its.broken ≡ true
  pub up : its.up ≡ was.up
  pub down : its.down ≡ was.down

-- each end of the link has written and read what it had, or more, and belongs to whom it did
pub record LinkGrows (was its : Link) : Type 0 where
  pub client : (place : ℕ) → was.client ≡ Some place → its.client ≡ Some place
  pub server : EndStays was.server its.server
  pub up : Begins was.up its.up
  pub down : Begins was.down its.down
  pub up_read : was.up_read ≤ its.up_read
  pub down_read : was.down_read ≤ its.down_read
  pub broken : was.broken ≡ true → StaysBroken was its

-- The new world has all that the old one has recorded, written and read.
pub record HasGrown {D : Type 0} (old new : World D) : Type 0 where
  pub records : (node : ℕ) (host : Host D) → slice_get old.hosts node ≡ Some host
      → (its : Host D) × (slice_get new.hosts node ≡ Some its) × Begins host.records its.records
  pub ledger : Begins old.ledger new.ledger
  pub octets : (number : ℕ) (link : Link) → link_at old.links number ≡ Some link
      → (its : Link) × (link_at new.links number ≡ Some its) × LinkGrows link its

-- an attempt in this state has ended
abbrev pub HasCeased : Fate → Type 0
HasCeased (Running slot) = ⊥
HasCeased (Replied number) = Unit {0}
HasCeased (Lost number) = Unit {0}
HasCeased Dropped = Unit {0}

-- How the state of an attempt may change: a running attempt goes on or ends. A dropped one never runs again, but its
-- outcome may be found when its node is opened. An outcome stays.
abbrev pub FateGrows : Fate → Fate → Type 0
FateGrows (Running slot) its = (its ≡ Running slot) ⊎ HasCeased its
FateGrows (Replied number) its = its ≡ Replied number
FateGrows (Lost number) its = its ≡ Lost number
FateGrows Dropped its = HasCeased its

-- the attempt is the same, except that its state has moved on
pub record AttemptGrows (was its : Attempt) : Type 0 where
  pub same : its ≡ record was { fate = its.fate }
  pub fate : FateGrows was.fate its.fate

-- each attempt has moved on so
abbrev pub AttemptsGrow : {D : Type 0} → World D → World D → Type 0
AttemptsGrow old new =
    (at : ℕ) (attempt : Attempt) → slice_get old.attempts at ≡ Some attempt
    → (its : Attempt) × (slice_get new.attempts at ≡ Some its) × AttemptGrows attempt its

-- each list begins with the earlier one
abbrev pub ListsGrow : List (List Change) → List (List Change) → Type 0
ListsGrow lists later =
    (node : ℕ) (before after : List Change) → slice_get lists node ≡ Some before → slice_get later node ≡ Some after
    → Begins before after

-- Any number of events let a world grow so.
abbrev pub RunsGrow : {D : Type 0} → Type 0 → DiskWords D → Type 0
RunsGrow {D} honest words = (count : ℕ) (old new : World D) → Happen honest words count old new → HasGrown old new

-- If a world has grown so, the lists of changes of its nodes have grown too.
abbrev pub GrownListsBegin : {D : Type 0} → Type 0 → DiskWords D → Type 0
GrownListsBegin {D} honest words =
    (old new : World D) (lists later : List (List Change)) → IsBound honest words old lists
    → IsBound honest words new later
    → HasGrown old new → ListsGrow lists later

-- Over any number of events on honest disks, from a world with the invariant, attempts only move on.
abbrev pub RunsKeepAttempts : {D : Type 0} → Type 0 → DiskWords D → Type 0
RunsKeepAttempts {D} honest words =
    honest → (count : ℕ) (old new : World D) (lists : List (List Change)) → IsBound honest words old lists
    → Happen honest words count old new → AttemptsGrow old new
