-- The effect of a node's crash in a call, and of its opening.
use Rattle.std.specs.Prelude.{◌≡◌, ◌≤◌, ◌++◌, ℕ, ◌+◌, false, List, length, Option, Some, slice_get, slice_set}
use Rattle.relay_disk.specs.Device.{DiskWords}
use Rattle.relay_disk.specs.declared.disks.Disks.{Disks}
use Rattle.relay_node.specs.Node.{NodeState}
use Rattle.relay_records.specs.declared.noted.Noted.{Noted}
use Rattle.relay_world.specs.declared.attempt.Attempt.{Attempt}
use Rattle.relay_world.specs.declared.line.Line.{Line}
use Rattle.relay_world.specs.declared.link.Link.{Link}
use Rattle.relay_world.specs.Crashes.{GoesDown}
use Rattle.relay_world.specs.Ledger.{lines_by}
use Rattle.relay_world.specs.Stops.{Finds, IsLeftBy}
use Rattle.relay_world.specs.World as world
use Rattle.relay_world.specs.World.{Down, Host, Up, World, link_at}
use Rattle.relay_hosts.specs.declared.host.Origin.{Origin}
use Rattle.relay_hosts.specs.declared.host.Origin.TheVariants.{FromClient, FromReplies, FromLoss, FromGivingUp}
use Rattle.relay_hosts.specs.declared.host.Undecided.{Undecided}
use Rattle.relay_hosts.specs.Crash.{IsCutShort, OpensOrNot}
use Rattle.relay_hosts.specs.Host.{holds_up, origin_in}
use Rattle.relay_hosts.specs.Links.{is_running}
use Rattle.relay_events.specs.Relays.{AreBound}
use Rattle.relay_hosts.specs.Room.{HasRoom, lines_to_come}
use Rattle.relay_events.specs.Told.{IsOpened, ends_of}

module _ {D : Type 0} (world : World D) (node : ℕ) where
  -- the node at this index is down
  pub record IsDownAt : Type 0 where
    pub host : Host D
    pub host_at : slice_get world.hosts node ≡ Some host
    pub down : holds_up host.state ≡ false

  -- the node at this index has stopped in a call
  pub record IsCutShortAt : Type 0 where
    pub host : Host D
    pub host_at : slice_get world.hosts node ≡ Some host
    pub cut : IsCutShort host.state

module _ {D : Type 0} (honest : Type 0) (words : DiskWords D) (old new : World D) (node : ℕ) where
  -- A node that had stopped in a call has gone down, with the change that it was adding, and has let go of its ends of
  -- links.
  pub record CrashesAt (origin : Origin) : Type 0 where
    pub host : Host D
    pub host_at : slice_get old.hosts node ≡ Some host
    pub before : NodeState D
    pub up : host.state ≡ Up before
    pub noted : Noted
    pub note_is : before.records.noted ≡ Some noted
    pub disk : Disks D
    pub left : IsLeftBy honest words before.records disk
    pub down : GoesDown old new node host disk (Some (record { note = noted; origin = origin_in origin }))
    pub hosts_are : new.hosts
        ≡ slice_set old.hosts node
        (record host { state = Down disk (Some (record { note = noted; origin = origin_in origin })) })

  -- A node that was down was opened or not, and the undecided change was found or not. Nothing else has changed yet.
  pub record OpensAt (found : Option Undecided) : Type 0 where
    pub was : Host D
    pub was_at : slice_get old.hosts node ≡ Some was
    pub now : Host D
    pub opens : OpensOrNot honest words was now found
    pub new_is : new ≡ record old { hosts = slice_set old.hosts node now }

-- A node that had stopped in a call has gone down, and was opened or not.
pub record Restarts {D : Type 0} (honest : Type 0) (words : DiskWords D) (old new : World D) (node : ℕ)
    (origin : Origin) : Type 0
  where
    pub down : World D
    pub crashes : CrashesAt honest words old down node origin
    pub opened : IsOpened honest words down new node
    pub fewer : ends_of new ≤ ends_of down

-- In whatever way the node goes down with the change that it was adding, the invariant still holds, and there is room
-- for what may come.
abbrev pub IsReadyToCrash : {D : Type 0} → Type 0 → DiskWords D → World D → ℕ → Origin → ℕ → Type 0
IsReadyToCrash {D} honest words world node origin free =
    (down : World D) → CrashesAt honest words world down node origin → AreBound honest words down × HasRoom down free

-- at least this many octets are unread at the server end of a link
pub record HasMoreUp (links : List Link) (number used : ℕ) : Type 0 where
  pub link : Link
  pub link_is : link_at links number ≡ Some link
  pub within : link.up_read + used ≤ length link.up

-- at least this many octets are unread at its client end, whose attempt has ended
pub record HasMoreDown (links : List Link) (attempts : List Attempt) (number place used : ℕ) : Type 0 where
  pub link : Link
  pub link_is : link_at links number ≡ Some link
  pub within : link.down_read + used ≤ length link.down
  pub attempt : Attempt
  pub attempt_at : slice_get attempts place ≡ Some attempt
  pub over : is_running attempt.fate ≡ false

-- a change with this cause may be found: what its call had read is unread on the link
abbrev pub MayBeFound : List Link → List Attempt → ℕ → Origin → Type 0
MayBeFound links attempts used (FromClient number) = HasMoreUp links number used
MayBeFound links attempts used (FromReplies number place message) = HasMoreDown links attempts number place used
MayBeFound links attempts used (FromLoss number place message) = HasMoreDown links attempts number place used
MayBeFound links attempts used (FromGivingUp message) = Unit {0}

-- Lines were added to the ledger, and links and attempts have changed so. No more is running, or may come, than before.
pub record FindsBy {D : Type 0} (old new : World D) (lines : List Line) (found : Type 0) : Type 0 where
  pub hosts : new.hosts ≡ old.hosts
  pub clock : new.clock ≡ old.clock
  pub ledger : new.ledger ≡ old.ledger ++ lines
  pub finds : found
  pub lines_fewer : lines_to_come new.attempts ≤ lines_to_come old.attempts
  pub ends_fewer : ends_of new ≤ ends_of old

-- a node's undecided change was found, with its note and its cause
abbrev pub FindsChange : {D : Type 0} → World D → World D → ℕ → Noted → world.Origin → Type 0
FindsChange old new node note origin = FindsBy old new (lines_by node note origin) (Finds old new note origin)
