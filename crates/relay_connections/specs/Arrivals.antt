-- Connections of balancers, each of which begins with a header of the PROXY protocol: how long its header is waited
-- for, and what becomes of it then.
use Rattle.std.specs.Prelude.{◌≡◌, ◌≢◌, ◌≤◌, ◌+◌, ◌-◌, ◌*◌, ◌^◌, ◌||◌, ℕ, min, Bool, true, false, List, [], Option, None, Some}
use Rattle.std.specs.Prelude.{Box, Result, Ok, Err}
use Rattle.std.specs.Global.{Global}
use Rattle.std.specs.Io.KnownBytes.{Consumes}
use Rattle.std.specs.declared.io.ErrorKind.{ErrorKind}
use Rattle.std.specs.declared.io.ErrorKind.TheVariants.{Interrupted, WouldBlock}
use Rattle.std.specs.declared.net.socket_addr.SocketAddrV4.{SocketAddrV4}
use Rattle.relay_log.specs.declared.client_line.HeaderFault.{HeaderFault}
use Rattle.relay_log.specs.declared.client_line.HeaderFault.TheVariants.{Missing, Late, OtherProtocol, NoRoom, NoMemory}
use Rattle.relay_proxy.specs.Header.{IsHeader}
use Rattle.relay_proxy.specs.declared.source.Source.{Source}
use Rattle.relay_proxy.specs.declared.source.Source.TheVariants.{Other}
use Rattle.relay_slots.specs.Slots.{IsFull, IsLeastFree, OthersStay, slot_at}
use Rattle.relay_connections.specs.HeaderFront.{Comes, IsLate, IsNoHeader, IsPeer, IsSomeHeader, IsWaiting}
use Rattle.relay_connections.specs.declared.arrival.Arrival.{Arrival}
use Rattle.relay_connections.specs.declared.arrival.Arrived.{Arrived}
use Rattle.relay_connections.specs.declared.arrival.Arrived.TheVariants.{Client, Refused}
use Rattle.relay_connections.specs.declared.arrival.Progress.{Progress}
use Rattle.relay_connections.specs.declared.arrival.Progress.TheVariants.{Waits, Whole, Fails}
use Rattle.relay_connections.specs.declared.arrivals.Arrivals.{Arrivals}

-- the connections whose headers aren't complete yet, by number
abbrev pub arrivals_of : {S : Type 0} → Arrivals S → List (Option (Box (Arrival S) Global))
arrivals_of arrivals = arrivals.arrivals

-- profile: a header may take five seconds
abbrev pub deadline_from : ℕ → ℕ
deadline_from tick = min (tick + 5 * 1000) (2 ^ 64 - 1)

-- Why a connection that begins with these octets has no client. They are no header, they are only the beginning of one
-- and there is no time left, or the client comes by another protocol than TCP over IPv4; or they are a header, and the
-- system refuses the connection. It was waited for, so that there was room for it.
abbrev pub IsFault : ℕ → ℕ → List ℕ → HeaderFault → Type 0
IsFault tick deadline octets Missing = IsNoHeader octets
IsFault tick deadline octets Late = IsLate tick deadline octets
IsFault tick deadline octets OtherProtocol = IsHeader octets Other
IsFault tick deadline octets NoRoom = ⊥
IsFault tick deadline octets NoMemory = IsSomeHeader octets

-- the state of a header
abbrev pub HasProgressed : ℕ → ℕ → List ℕ → Progress → Type 0
HasProgressed tick deadline octets Waits = IsWaiting tick deadline octets
HasProgressed tick deadline octets (Whole source) = IsHeader octets source
HasProgressed tick deadline octets (Fails fault) = IsFault tick deadline octets fault

-- the connection is the same, except for its readiness
pub record IsNotedArrival {S : Type 0} (reads : Bool) (old new : Arrival S) : Type 0 where
  pub stream : new.stream ≡ old.stream
  pub balancer : new.balancer ≡ old.balancer
  pub header : new.header ≡ old.header
  pub reads_is : new.reads ≡ old.reads || reads
  pub deadline : new.deadline ≡ old.deadline

-- The connection after a read of its header has failed in this way, and whether it stays open: a read that would
-- have to wait waits until the system reports that there is more, one that a signal interrupted can be repeated, and
-- after any other it is closed.
pub record FailsHeader {S : Type 0} (kind : ErrorKind) (old new : Arrival S) (stays : Bool) : Type 0 where
  pub waits : kind ≡ WouldBlock → (new ≡ record old { reads = false }) × (stays ≡ true)
  pub again : kind ≡ Interrupted → (new ≡ old) × (stays ≡ true)
  pub breaks : kind ≢ WouldBlock → kind ≢ Interrupted → (new ≡ old) × (stays ≡ false)

-- a slot is the same, except for its connection's readiness
abbrev pub IsNotedSlot
    : {S : Type 0} → Bool → Option (Box (Arrival S) Global) → Option (Box (Arrival S) Global) → Type 0
IsNotedSlot reads None new = new ≡ None
IsNotedSlot reads (Some arrival) None = ⊥
IsNotedSlot reads (Some arrival) (Some later) = IsNotedArrival reads arrival.value later.value

-- a connection in the slot isn't closed before this tick
abbrev pub Within : {S : Type 0} → ℕ → Option (Box (Arrival S) Global) → Type 0
Within tick None = Unit {0}
Within tick (Some arrival) = tick ≤ arrival.value.deadline

-- a connection is closed at this tick, unless its header is complete before
pub record IsDueAt {S : Type 0} (tick : ℕ) (arrivals : List (Option (Box (Arrival S) Global))) : Type 0 where
  pub number : ℕ
  pub arrival : Box (Arrival S) Global
  pub there : slot_at arrivals number ≡ Some arrival
  pub due : arrival.value.deadline ≡ tick

-- octets of the connection may be read at once
pub record IsReadable {S : Type 0} (arrivals : List (Option (Box (Arrival S) Global))) (number : ℕ) : Type 0 where
  pub arrival : Box (Arrival S) Global
  pub there : slot_at arrivals number ≡ Some arrival
  pub reads : arrival.value.reads ≡ true

-- octets of some connection may be read at once
pub record IsOneReadable {S : Type 0} (arrivals : List (Option (Box (Arrival S) Global))) : Type 0 where
  pub number : ℕ
  pub readable : IsReadable arrivals number

-- why a connection isn't waited for: each slot has one; or there is a free one, and no memory, or no place with the
-- system, for the connection
abbrev pub IsNotTaken : {S : Type 0} → List (Option (Box (Arrival S) Global)) → HeaderFault → Type 0
IsNotTaken arrivals Missing = ⊥
IsNotTaken arrivals Late = ⊥
IsNotTaken arrivals OtherProtocol = ⊥
IsNotTaken arrivals NoRoom = IsFull arrivals
IsNotTaken arrivals NoMemory = (number : ℕ) × IsLeastFree arrivals number

-- The words below are of what is known of the streams of connections.
module _ {S : Type 0} (remaining contents : S → Option (List ℕ)) where
  -- more octets of a header arrived on a connection, and nothing was written to it
  pub record ReadsOn (old new : Arrival S) : Type 0 where
    pub comes : Comes (remaining old.stream) (remaining new.stream) old.header new.header
    pub output : contents new.stream ≡ contents old.stream
    pub balancer : new.balancer ≡ old.balancer
    pub deadline : new.deadline ≡ old.deadline

  -- more octets may have arrived on the connection in a slot
  abbrev pub MayReadOn : Option (Box (Arrival S) Global) → Option (Box (Arrival S) Global) → Type 0
  MayReadOn None new = new ≡ None
  MayReadOn (Some arrival) None = ⊥
  MayReadOn (Some arrival) (Some later) = ReadsOn arrival.value later.value

  -- more octets may have arrived on it, and its header isn't complete yet
  abbrev pub WaitsOn : ℕ → Option (Box (Arrival S) Global) → Option (Box (Arrival S) Global) → Type 0
  WaitsOn tick None new = new ≡ None
  WaitsOn tick (Some arrival) None = ⊥
  WaitsOn tick (Some arrival) (Some later) =
      ReadsOn arrival.value later.value × IsWaiting tick later.value.deadline later.value.header

  -- The connection is a client's: its header was read to its end, and its stream yields next what follows. The client
  -- has the address in the header.
  pub record IsClientOf (arrival : Arrival S) (stream : S) (peer : SocketAddrV4) : Type 0 where
    pub header : List ℕ
    pub source : Source
    pub comes : Comes (remaining arrival.stream) (remaining stream) arrival.header header
    pub is_header : IsHeader header source
    pub peer_is : IsPeer source arrival.balancer peer
    pub output : contents stream ≡ contents arrival.stream

  -- the connection has no client, for this reason, which its first octets show
  pub record IsRefused (tick : ℕ) (arrival : Arrival S) (balancer : SocketAddrV4) (fault : HeaderFault) : Type 0 where
    pub octets : List ℕ
    pub left : Option (List ℕ)
    pub comes : Comes (remaining arrival.stream) left arrival.header octets
    pub fault_is : IsFault tick arrival.deadline octets fault
    pub balancer_is : balancer ≡ arrival.balancer

  -- what a connection has turned out to be
  abbrev pub HasArrived : ℕ → Arrival S → Arrived S → Type 0
  HasArrived tick arrival (Client stream peer) = IsClientOf arrival stream peer
  HasArrived tick arrival (Refused balancer fault) = IsRefused tick arrival balancer fault

  -- the connection of a number has left its slot, and has turned out to be this
  pub record HasLeft (tick number : ℕ) (old new : List (Option (Box (Arrival S) Global))) (arrived : Arrived S)
      : Type 0 where
    pub arrival : Box (Arrival S) Global
    pub there : slot_at old number ≡ Some arrival
    pub gone : slot_at new number ≡ None
    pub has : HasArrived tick arrival.value arrived

  -- the connection of a number stays, or has left its slot
  abbrev pub IsReadOne : ℕ → ℕ → List (Option (Box (Arrival S) Global)) → List (Option (Box (Arrival S) Global))
      → Option (Arrived S) → Type 0
  IsReadOne tick number old new None = WaitsOn tick (slot_at old number) (slot_at new number)
  IsReadOne tick number old new (Some arrived) = HasLeft tick number old new arrived

  -- one connection has left, and all others are where they were
  pub record OneLeaves (tick : ℕ) (old new : List (Option (Box (Arrival S) Global))) (arrived : Arrived S)
      : Type 0 where
    pub number : ℕ
    pub left : HasLeft tick number old new arrived
    pub others : (other : ℕ) → other ≢ number → MayReadOn (slot_at old other) (slot_at new other)

  -- the next connection has left; or all of them stay
  abbrev pub GivesNext : ℕ → List (Option (Box (Arrival S) Global)) → List (Option (Box (Arrival S) Global))
      → Option (Arrived S) → Type 0
  GivesNext tick old new None = (number : ℕ) → WaitsOn tick (slot_at old number) (slot_at new number)
  GivesNext tick old new (Some arrived) = OneLeaves tick old new arrived

  -- a connection of this balancer is new: nothing of its header was read
  pub record IsNew (stream : S) (balancer : SocketAddrV4) (tick : ℕ) (arrival : Arrival S) : Type 0 where
    pub header : arrival.header ≡ []
    pub input : remaining arrival.stream ≡ remaining stream
    pub output : contents arrival.stream ≡ contents stream
    pub balancer_is : arrival.balancer ≡ balancer
    pub reads : arrival.reads ≡ true
    pub deadline_is : arrival.deadline ≡ deadline_from tick

  -- it is in the slot that was the first free one
  pub record IsTaken (stream : S) (balancer : SocketAddrV4) (tick : ℕ)
      (old new : List (Option (Box (Arrival S) Global))) : Type 0 where
    pub number : ℕ
    pub arrival : Box (Arrival S) Global
    pub free : IsLeastFree old number
    pub there : slot_at new number ≡ Some arrival
    pub others : OthersStay old new number
    pub new_is : IsNew stream balancer tick arrival.value

  -- it is waited for, or nothing has changed, for this reason
  abbrev pub Takes : S → SocketAddrV4 → ℕ → List (Option (Box (Arrival S) Global))
      → List (Option (Box (Arrival S) Global)) → Result (Unit {0}) HeaderFault → Type 0
  Takes stream balancer tick old new (Ok _) = IsTaken stream balancer tick old new
  Takes stream balancer tick old new (Err fault) = IsNotTaken old fault × (new ≡ old)

  -- A client has come by a balancer's connection that began with this stream: a header was first in it, what follows
  -- the header comes next, and nothing was written. The client has the address in the header.
  pub record FollowsHeader (begun : S) (balancer : SocketAddrV4) (stream : S) (peer : SocketAddrV4) : Type 0 where
    pub header : List ℕ
    pub source : Source
    pub is_header : IsHeader header source
    pub input : Consumes (remaining begun) (remaining stream) header
    pub output : contents stream ≡ contents begun
    pub peer_is : IsPeer source balancer peer

  -- This holds for each client from the start of its connection on, however many reads there were.
  abbrev pub ClientsFollowHeaders : Type 0
  ClientsFollowHeaders =
      (begun stream : S) (balancer peer : SocketAddrV4) (tick : ℕ) (first last : Arrival S)
      → IsNew begun balancer tick first → ReadsOn first last → IsClientOf last stream peer
      → FollowsHeader begun balancer stream peer

  -- Two reads are as one, and noting readiness reads nothing.
  pub record ReadsAreOne : Type 0 where
    pub again : (one two three : Arrival S) → ReadsOn one two → ReadsOn two three → ReadsOn one three
    pub noted : (reads : Bool) (one two : Arrival S) → IsNotedArrival reads one two → ReadsOn one two
