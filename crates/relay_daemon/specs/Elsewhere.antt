-- What happens elsewhere in a world while a relay isn't called: the other nodes, their clients and hops, and outside do
-- what they like, and the relay's node has done nothing.
use Rattle.std.specs.Prelude.{◌≡◌, ◌≢◌, ℕ, false, List, Some, slice_get}
use Rattle.relay_disk.specs.Device.{DiskWords}
use Rattle.relay_book.specs.declared.change.Change.{Change}
use Rattle.relay_world.specs.declared.attempt.Attempt.{Attempt}
use Rattle.relay_world.specs.declared.link.Link.{Link}
use Rattle.relay_world.specs.Bound.{HasSession, HasSlot, IsBound}
use Rattle.relay_world.specs.GivingUp.{Withdrawing}
use Rattle.relay_world.specs.Once.{BreaksOff, Closes, Drops, Ends, GivesUp, GoesOn, HappenAsking, Happens, Hears}
use Rattle.relay_world.specs.Once.{HearsAll, IsNotOpened, LetsGo, Loses, Opens, Reads, Reopens, ReopensAfterGroup}
use Rattle.relay_world.specs.Once.{Starts, Stops, StopsInGivingUp, StopsInHearing, StopsInLosing, StopsInReading}
use Rattle.relay_world.specs.Once.{Ticks, Writes}
use Rattle.relay_world.specs.World.{World, link_at}
use Rattle.relay_loop.specs.Relay.{RelayState}
use Rattle.relay_daemon.specs.Runs.{RunsAt}

-- The link has the server end that it had. Unless it is broken, the server has written nothing more on it.
pub record ServerStays (was its : Link) : Type 0 where
  pub server : its.server ≡ was.server
  pub whole : its.broken ≡ false → (was.broken ≡ false) × (its.down ≡ was.down)

-- The link has the client end that it had. Unless it is broken, the client has written nothing more on it.
pub record ClientStays (was its : Link) : Type 0 where
  pub client : its.client ≡ was.client
  pub whole : its.broken ≡ false → (was.broken ≡ false) × (its.up ≡ was.up)

-- A node was left alone: it is as it was, its sessions and attempts go on, and on their links it has written nothing
-- more. These links may have broken, and their other ends may have written and read.
pub record LeavesAlone {D : Type 0} (old new : World D) (node : ℕ) : Type 0 where
  pub host : slice_get new.hosts node ≡ slice_get old.hosts node
  pub sessions : (number session : ℕ) (link : Link) → link_at old.links number ≡ Some link
      → HasSession link node session
      → (its : Link) × (link_at new.links number ≡ Some its) × ServerStays link its
  pub attempts : (place slot : ℕ) (attempt : Attempt) → slice_get old.attempts place ≡ Some attempt
      → HasSlot attempt node slot → slice_get new.attempts place ≡ Some attempt
  pub hops : (place slot : ℕ) (attempt : Attempt) (link : Link) → slice_get old.attempts place ≡ Some attempt
      → HasSlot attempt node slot → link_at old.links attempt.link ≡ Some link → link.client ≡ Some place
      → (its : Link) × (link_at new.links attempt.link ≡ Some its) × ClientStays link its

-- Any number of events have happened, in which the postmaster asked for this, and the node was left alone.
pub record Elsewhere {D : Type 0} (honest : Type 0) (words : DiskWords D) (node : ℕ) (asked : List Withdrawing)
    (old new : World D) : Type 0 where
  pub count : ℕ
  pub happened : HappenAsking honest words asked count old new
  pub alone : LeavesAlone old new node

-- A relay whose node was left alone runs on.
abbrev pub LeftAloneRunsOn : Type 0 → Type 0
LeftAloneRunsOn D =
    (old new : World D) (node : ℕ) (relay : RelayState D) → RunsAt old node relay → LeavesAlone old new node
    → RunsAt new node relay

-- A node that is left alone, and then again, is left alone in both.
abbrev pub LeavingAloneGoesOn : Type 0 → Type 0
LeavingAloneGoesOn D =
    (old mid new : World D) (node : ℕ) → LeavesAlone old mid node → LeavesAlone mid new node → LeavesAlone old new node

-- An event isn't of this node: it is of another one, of outside, of a link, or of the clock.
abbrev pub IsOfOther : {D : Type 0} (honest : Type 0) (words : DiskWords D) (node : ℕ) (old new : World D)
    → Happens honest words old new → Type 0
IsOfOther honest words node old new (Opens other peer is) = other ≢ node
IsOfOther honest words node old new (Writes number octets is) = Unit {0}
IsOfOther honest words node old new (Hears number count is) = is.of.end.node ≢ node
IsOfOther honest words node old new (HearsAll other pieces is) = other ≢ node
IsOfOther honest words node old new (Ends number is) = is.of.end.node ≢ node
IsOfOther honest words node old new (Closes number reply is) = is.ends.of.end.node ≢ node
IsOfOther honest words node old new (Reads number count is) = is.of.attempt.node ≢ node
IsOfOther honest words node old new (Loses number change is) = is.of.attempt.node ≢ node
IsOfOther honest words node old new (Drops number is) = is.of.attempt.node ≢ node
IsOfOther honest words node old new (BreaksOff number is) = Unit {0}
IsOfOther honest words node old new (Starts number message hop is) = is.attempt.node ≢ node
IsOfOther honest words node old new (GivesUp reason other message change is) = other ≢ node
IsOfOther honest words node old new (Stops other is) = other ≢ node
IsOfOther honest words node old new (StopsInHearing number count is) = is.of.end.node ≢ node
IsOfOther honest words node old new (StopsInReading number count is) = is.of.attempt.node ≢ node
IsOfOther honest words node old new (StopsInLosing number is) = is.of.attempt.node ≢ node
IsOfOther honest words node old new (StopsInGivingUp reason other message is) = other ≢ node
IsOfOther honest words node old new (IsNotOpened other is) = other ≢ node
IsOfOther honest words node old new (Reopens other is) = other ≢ node
IsOfOther honest words node old new (ReopensAfterGroup other pieces is) = other ≢ node
IsOfOther honest words node old new (Ticks now is) = Unit {0}
IsOfOther honest words node old new (LetsGo other is) = other ≢ node
IsOfOther honest words node old new (GoesOn other is) = other ≢ node

-- Each such event of a bound world leaves the node alone.
abbrev pub OthersLeaveAlone : {D : Type 0} → Type 0 → DiskWords D → Type 0
OthersLeaveAlone {D} honest words =
    (old new : World D) (lists : List (List Change)) (node : ℕ) → IsBound honest words old lists
    → (happens : Happens honest words old new) → IsOfOther honest words node old new happens
    → LeavesAlone old new node
