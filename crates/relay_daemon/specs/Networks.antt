-- Several relays of the daemon in one network, which take turns in any order. The promise for mail is kept after each
-- call.
use Rattle.std.specs.Prelude.{◌≡◌, ℕ, List, [], ◌∷◌, ◌++◌, Some, slice_get, slice_set}
use Rattle.relay_disk.specs.Device.{DiskWords}
use Rattle.relay_loop.specs.Called.{Call, Does}
use Rattle.relay_loop.specs.Relay.{RelayState}
use Rattle.relay_world.specs.GivingUp.{Withdrawing}
use Rattle.relay_world.specs.Once.{HappenAsking}
use Rattle.relay_world.specs.World.{World}
use Rattle.relay_daemon.specs.Elsewhere.{LeavesAlone}
use Rattle.relay_daemon.specs.Runs.{RunsAt}
use Rattle.relay_daemon.specs.Sequences.{IsEvent, IsKept, Meets}

-- a call of the relay of a node
pub record CallOf : Type 0 where
  pub node : ℕ
  pub call : Call

module _ {D : Type 0} (honest : Type 0) (words : DiskWords D) where
  -- These relays are the first nodes of a world, in order, and the promise for mail is kept there.
  pub record AllStand (world : World D) (asked : List Withdrawing) (relays : List (RelayState D)) : Type 0 where
    pub runs : (node : ℕ) (relay : RelayState D) → slice_get relays node ≡ Some relay → RunsAt world node relay
    pub kept : IsKept honest words world asked

  -- Any number of events have happened, in which the postmaster asked for this, and all these relays were left alone.
  pub record AllLeftAlone (asked : List Withdrawing) (old new : World D) (relays : List (RelayState D)) : Type 0 where
    pub count : ℕ
    pub happened : HappenAsking honest words asked count old new
    pub alone : (node : ℕ) (relay : RelayState D) → slice_get relays node ≡ Some relay → LeavesAlone old new node

  -- the relay of a node was called, and the others weren't
  pub record DoesOne (one : CallOf) (old new : List (RelayState D)) : Type 0 where
    pub before : RelayState D
    pub was : slice_get old one.node ≡ Some before
    pub after : RelayState D
    pub does : Does honest words one.call before after
    pub new_is : new ≡ slice_set old one.node after

  -- these calls were made, one after another, each of any of the relays
  abbrev pub DoAll : List CallOf → List (RelayState D) → List (RelayState D) → Type 0
  DoAll [] old new = new ≡ old
  DoAll (one ∷ calls) old new = (next : List (RelayState D)) × DoesOne one old next × DoAll calls next new

  -- After calls the relays are these. Whatever happens elsewhere before the first call, between two calls and after the
  -- last, all of them run in the world and the promise is kept; and if a call meets what it rests on, it is an event of
  -- the world or none, so that all of them run in the next world and the promise is kept there.
  abbrev pub AllKeepThrough
      : List CallOf → World D → List Withdrawing → List (RelayState D) → List (RelayState D) → Type 0
  AllKeepThrough [] world asked old new =
      (new ≡ old)
      × ((later : World D) (more : List Withdrawing) → AllLeftAlone more world later old
      → AllStand later (more ++ asked) old)
  AllKeepThrough (one ∷ calls) world asked old new =
      (after : List (RelayState D)) × (step : DoesOne one old after)
      × ((later : World D) (more : List Withdrawing) → AllLeftAlone more world later old
      → AllStand later (more ++ asked) old
      × (Meets later one.node step.before one.call
      → (next : World D) × (own : List Withdrawing) × IsEvent honest words one.node own later next
      × AllStand next (own ++ (more ++ asked)) after
      × AllKeepThrough calls next (own ++ (more ++ asked)) after new))

-- The calls of relays that run in a world with the promise keep the promise, on honest disks.
abbrev pub NetworksKeepThePromise : {D : Type 0} → Type 0 → DiskWords D → Type 0
NetworksKeepThePromise {D} honest words =
    honest → (calls : List CallOf) (world : World D) (asked : List Withdrawing) (old new : List (RelayState D))
    → AllStand honest words world asked old → DoAll honest words calls old new
    → AllKeepThrough honest words calls world asked old new
