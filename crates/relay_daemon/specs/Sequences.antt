-- Several calls of a relay, one after another, in a network whose other relays do what the world allows in between. The
-- promise for mail is kept after each of them.
use Rattle.std.specs.Prelude.{◌≡◌, ◌≢◌, ◌≤◌, ℕ, List, [], ◌∷◌, ◌++◌, length, Some, slice_get}
use Rattle.relay_disk.specs.Device.{DiskWords}
use Rattle.relay_slots.specs.Slots.{slot_at}
use Rattle.relay_book.specs.declared.change.Change.{Change}
use Rattle.relay_loop.specs.Called.{Call, Does, DoesEach, GivesUp, Hears, HearsOne, Loses, Reads, Starts, Withdraws}
use Rattle.relay_loop.specs.Relay.{RelayState}
use Rattle.relay_world.specs.declared.link.Link.{Link}
use Rattle.relay_world.specs.Bound.{IsBound}
use Rattle.relay_world.specs.GivingUp.{Withdrawing}
use Rattle.relay_world.specs.Once.{HappenAsking}
use Rattle.relay_world.specs.Promise.{KeepsPromise}
use Rattle.relay_world.specs.Steps.{IsBlank, IsPutAt}
use Rattle.relay_world.specs.World.{Host, World}
use Rattle.relay_daemon.specs.Elsewhere.{Elsewhere, LeavesAlone}
use Rattle.relay_daemon.specs.Events.{LeadsToHop}
use Rattle.relay_daemon.specs.Given.{ClientWrote, ClientsWrote, HaveOnePiece, HaveOneReply, HopWrote, HopsWrote}
use Rattle.relay_daemon.specs.Runs.{RunsAt}

module _ {D : Type 0} (world : World D) (node : ℕ) where
  -- a link on which no client has written leads to the hop of this name, and an attempt may have it
  pub record IsOpenTo (hop : List ℕ) : Type 0 where
    pub host : Host D
    pub host_at : slice_get world.hosts node ≡ Some host
    pub number : ℕ
    pub blank : Link
    pub is_blank : IsBlank world number blank
    pub leads : LeadsToHop world host hop blank
    pub links : List Link
    pub put : IsPutAt world.links links number (record blank { client = Some (length world.attempts) })

  -- What a call of the relay of this node rests on: its time is that of the clock, octets of a client or a hop are
  -- those that are unread on the link, on which nothing is unwritten, and an attempt begins over a link to its hop.
  abbrev pub Meets : RelayState D → Call → Type 0
  Meets relay (HearsOne session octets now heard) = (now ≡ world.clock) × ClientWrote world node session octets
  Meets relay (Hears pieces replies now group) =
      (now ≡ world.clock) × HaveOnePiece pieces × HaveOneReply replies × ClientsWrote world node relay pieces
      × HopsWrote world node relay replies
  Meets relay (Starts message hop now started) = (now ≡ world.clock) × IsOpenTo hop
  Meets relay (Reads slot octets now answered) =
      (now ≡ world.clock) × (slot_at relay.hops slot ≡ Some []) × HopWrote world node slot octets
  Meets relay (Loses slot now change) = now ≡ world.clock
  Meets relay (GivesUp message now change) = now ≡ world.clock
  Meets relay (Withdraws message places withdrawal now change) = now ≡ world.clock
  Meets relay _ = Unit {0}

module _ {D : Type 0} (honest : Type 0) (words : DiskWords D) where
  -- The promise for mail is kept in a world, with what the postmaster has asked for, by the lists of changes that the
  -- nodes keep.
  pub record IsKept (world : World D) (asked : List Withdrawing) : Type 0 where
    pub lists : List (List Change)
    pub bound : IsBound honest words world lists
    pub promise : KeepsPromise honest words world lists asked

  -- The relay runs there, and the promise is kept.
  pub record Stands (world : World D) (node : ℕ) (asked : List Withdrawing) (relay : RelayState D) : Type 0 where
    pub runs : RunsAt world node relay
    pub kept : IsKept world asked

  -- A call of the relay of a node was an event of the world, or none, and left every other node alone. The postmaster
  -- asked for this by it, if it was he who called.
  pub record IsEvent (node : ℕ) (asked : List Withdrawing) (old new : World D) : Type 0 where
    pub count : ℕ
    pub few : count ≤ 1
    pub happened : HappenAsking honest words asked count old new
    pub others : (other : ℕ) → other ≢ node → LeavesAlone old new other

  module _ (node : ℕ) where
    -- After calls the relay is this one. Whatever happens elsewhere before the first call, between two calls and after
    -- the last, the relay runs in the world and the promise is kept; and if a call meets what it rests on, it is an
    -- event of the world or none, so that the relay runs in the next world and the promise is kept there.
    abbrev pub KeepsThrough : List Call → World D → List Withdrawing → RelayState D → RelayState D → Type 0
    KeepsThrough [] world asked old new =
        (new ≡ old)
        × ((later : World D) (more : List Withdrawing) → Elsewhere honest words node more world later
        → Stands later node (more ++ asked) old)
    KeepsThrough (call ∷ calls) world asked old new =
        (after : RelayState D) × Does honest words call old after
        × ((later : World D) (more : List Withdrawing) → Elsewhere honest words node more world later
        → Stands later node (more ++ asked) old
        × (Meets later node old call
        → (next : World D) × (own : List Withdrawing) × IsEvent node own later next
        × Stands next node (own ++ (more ++ asked)) after
        × KeepsThrough calls next (own ++ (more ++ asked)) after new))

-- The calls of a relay that runs in a world with the promise keep the promise, on honest disks.
abbrev pub CallsKeepThePromise : {D : Type 0} → Type 0 → DiskWords D → Type 0
CallsKeepThePromise {D} honest words =
    honest → (calls : List Call) (world : World D) (node : ℕ) (asked : List Withdrawing) (old new : RelayState D)
    → Stands honest words world node asked old → DoesEach honest words calls old new
    → KeepsThrough honest words node calls world asked old new
