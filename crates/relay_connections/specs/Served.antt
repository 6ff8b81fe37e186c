-- What the relay has for each client of the table: a session of the client's number, whose dialogue the client's
-- connection carries. Under a number without a client it has no session and no connection. And what leaves that so.
use Rattle.std.specs.Prelude.{◌≡◌, ◌≢◌, true, ℕ, ◌==◌, List, [], ◌∷◌, ◌++◌, Option, None, Some, Result, Ok, Err, Box}
use Rattle.std.specs.Prelude.{if◌then◌else◌}
use Rattle.std.specs.Global.{Global}
use Rattle.std.specs.Net.Addr.{ipv4_octets}
use Rattle.std.specs.Net.Socket.{v4_ip}
use Rattle.std.specs.declared.net.socket_addr.SocketAddrV4.{SocketAddrV4}
use Rattle.relay_disk.specs.Device.{DiskWords}
use Rattle.relay_slots.specs.Slots.{AreFree, OthersStay, slot_at}
use Rattle.relay_server.specs.Dialogue.{Said}
use Rattle.relay_server.specs.Setup.{Setup, setup_for}
use Rattle.relay_attempts.specs.Reply.{Told}
use Rattle.relay_book.specs.declared.change.Change.{Change}
use Rattle.relay_records.specs.Records.{Keeps}
use Rattle.relay_records.specs.declared.fault.NodeFault.{NodeFault}
use Rattle.relay_loop.specs.Clients.{TalksTo}
use Rattle.relay_loop.specs.declared.clients.Heard.{Heard}
use Rattle.relay_loop.specs.Hops.{HandsTo}
use Rattle.relay_loop.specs.Outboxes.{unwritten_at}
use Rattle.relay_loop.specs.Relay.{OnlyClient, RelayState}
use Rattle.relay_connections.specs.Carried.{Carries, CarriesLast, Setting, beginning_or, setup_at}
use Rattle.relay_connections.specs.Matched.{AreMatched, IsFreed}
use Rattle.relay_connections.specs.Readiness.{IsNoted}
use Rattle.relay_connections.specs.declared.channel.Channel.{Channel}
use Rattle.relay_connections.specs.declared.client.Client.{Client}
use Rattle.relay_connections.specs.declared.client.Next.{Next}
use Rattle.relay_connections.specs.declared.client.Next.TheVariants.{Stays, Leaves, Gone}

-- the address of a client
abbrev pub address_of : {S : Type 0} → Client S → List ℕ
address_of client = ipv4_octets (v4_ip client.peer)

-- a slot holds this client or none
abbrev pub HoldsAtMost : {S : Type 0} → Box (Client S) Global → Option (Box (Client S) Global) → Type 0
HoldsAtMost client None = Unit {0}
HoldsAtMost client (Some held) = held ≡ client

-- the session of this number, whose client is at this address, has had this exchange, of which some output is unwritten
pub record HasSaid {D : Type 0} (changes : List Change) (relay : RelayState D) (number : ℕ) (address : List ℕ)
    (said : Said) : Type 0 where
  pub written : List ℕ
  pub talks : TalksTo changes relay number address said written

-- the relay has no session and no connection of this number
pub record IsUnused {D : Type 0} (relay : RelayState D) (number : ℕ) : Type 0 where
  pub connection : slot_at relay.clients number ≡ None
  pub seat : slot_at relay.node.seats number ≡ None

-- sessions have these parameters, by client address
abbrev pub HaveSetups : {D : Type 0} → (List ℕ → Setup) → RelayState D → Type 0
HaveSetups setups relay = (address : List ℕ) → setup_for relay.node.config address ≡ setups address

-- the node is live, and its sessions have these parameters
pub record WorksWith {D : Type 0} (setups : List ℕ → Setup) (relay : RelayState D) : Type 0 where
  pub live : relay.node.records.spool.live ≡ true
  pub setups_are : HaveSetups setups relay

-- Below: given what is known of the streams of clients, and a relay whose node keeps these changes.
module _ {D S : Type 0} (remaining contents : S → Option (List ℕ)) (changes : List Change) (setting : Setting)
    (relay : RelayState D) (number : ℕ) where
  -- The relay has a session of the number, whose client is at the address that it had at the start, and this connection
  -- carries its dialogue. This many of the buffered octets were heard already.
  pub record HasSession (heard : ℕ) (address : List ℕ) (channel : Channel S) : Type 0 where
    pub address_is : (setting.beginnings number).address ≡ address
    pub said : Said
    pub has_said : HasSaid changes relay number address said
    pub carries : Carries remaining contents (setting.beginnings number) heard channel said
        (unwritten_at relay.clients number)

  -- the relay has no session of the number any more, and this connection carries the last octets of its dialogue
  pub record HasEnded (heard : ℕ) (channel : Channel S) (last : List ℕ) : Type 0 where
    pub unused : IsUnused relay number
    pub ends : CarriesLast remaining contents (setup_at setting number) (setting.beginnings number) heard channel last

  -- what the relay has under a number, for the client in its slot or for none
  abbrev pub Serves : Option (Box (Client S) Global) → Type 0
  Serves None = IsUnused relay number
  Serves (Some client) = HasSession 0 (address_of client.value) client.value.channel

  -- after a turn that leaves the connection so, the relay has the client's session still, or nothing of it any more
  abbrev pub HasNext : List ℕ → Channel S → Next → Type 0
  HasNext address channel Stays = HasSession 0 address channel
  HasNext address channel (Leaves last) = HasEnded 0 channel last
  HasNext address channel Gone = IsUnused relay number

  -- the same, given the last octets, if any, of a session that has heard this many octets
  abbrev pub HasHeard : Option (Box (Client S) Global) → ℕ → Option (List ℕ) → Type 0
  HasHeard None heard last = IsUnused relay number
  HasHeard (Some client) heard None = HasSession heard (address_of client.value) client.value.channel
  HasHeard (Some client) heard (Some last) = HasEnded heard client.value.channel last

  -- what the relay has of a client after this result of its octets
  abbrev pub HasAnswered : Option (Box (Client S) Global) → Result Heard NodeFault → Type 0
  HasAnswered slot (Ok heard) = HasHeard slot heard.used heard.last
  HasAnswered slot (Err fault) = IsUnused relay number

  -- the same if there is such a result; else the client is served
  abbrev pub HasAnsweredOr : Option (Box (Client S) Global) → Option (Result Heard NodeFault) → Type 0
  HasAnsweredOr slot None = Serves slot
  HasAnsweredOr slot (Some answer) = HasAnswered slot answer

-- no change was added, and all other sessions, attempts and connections and the configuration are the same
pub record LeavesRest {D : Type 0} (number : ℕ) (old new : RelayState D) : Type 0 where
  pub only : OnlyClient old new number
  pub records : new.node.records ≡ old.node.records

-- the same, and all other clients are as before
pub record ActsOn {S D : Type 0} (number : ℕ) (old new : List (Option (Box (Client S) Global)))
    (before after : RelayState D) : Type 0 where
  pub clients : OthersStay old new number
  pub rest : LeavesRest number before after

-- a session's exchange is the same, however much of its output was written in between
abbrev pub StaysSaid : {D : Type 0} → ℕ → RelayState D → RelayState D → Type 0
StaysSaid number old new = (changes : List Change) (address : List ℕ) (said : Said)
    → HasSaid changes old number address said → HasSaid changes new number address said

-- after a turn that leaves the connection so, its session's exchange is the same, or it has ended
abbrev pub StaysOrEnds : {D : Type 0} → ℕ → RelayState D → RelayState D → Option Next → Type 0
StaysOrEnds number old new None = StaysSaid number old new
StaysOrEnds number old new (Some Stays) = StaysSaid number old new
StaysOrEnds number old new (Some (Leaves last)) = IsFreed number old new
StaysOrEnds number old new (Some Gone) = IsFreed number old new

-- the result of the octets of a client, if it is among these
abbrev pub answer_to : ℕ → List (ℕ × Result Heard NodeFault) → Option (Result Heard NodeFault)
answer_to number [] = None
answer_to number (one ∷ answers) = if one.0 == number then Some one.1 else answer_to number answers

-- no two of these belong to one client
abbrev pub AreApart : List (ℕ × Result Heard NodeFault) → Type 0
AreApart [] = Unit {0}
AreApart (one ∷ answers) = (answer_to one.0 answers ≡ None) × AreApart answers

-- the setting after a connection of this peer was opened, on this stream
abbrev pub opened
    : {S : Type 0} → (S → Option (List ℕ)) → (S → Option (List ℕ)) → Setting → List (Option (Box (Client S) Global))
    → SocketAddrV4 → S → Setting
opened remaining contents setting clients peer stream = record {
  setups = setting.setups;
  beginnings = λ number.
      beginning_or remaining contents (slot_at clients number) (setting.beginnings number)
      (ipv4_octets (v4_ip peer)) stream;
}

-- The attempt of this number has a history on its connection, by these changes: what it has read, and what it has
-- written, of which some was written to the connection and the rest is unwritten.
pub record HasRelayed {D : Type 0} (changes : List Change) (relay : RelayState D) (attempt : ℕ) : Type 0 where
  pub told : Told
  pub written : List ℕ
  pub hands : HandsTo changes relay attempt told written

-- each attempt with a connection has
abbrev pub HaveRelayed : {D : Type 0} → List Change → RelayState D → Type 0
HaveRelayed changes relay = (attempt : ℕ) → slot_at relay.hops attempt ≢ None → HasRelayed changes relay attempt

-- Below: a relay on a disk with these words.
module _ {D : Type 0} (honest : Type 0) (words : DiskWords D) where
  -- the node keeps these changes and those that were added, by which each attempt with a connection has a history
  pub record KeepsAfter (changes : List Change) (relay : RelayState D) : Type 0 where
    pub added : List Change
    pub keeps : Keeps honest words relay.node.records (changes ++ added)
    pub relayed : HaveRelayed (changes ++ added) relay

  -- Clients are left alone: their connections, their sessions and the configuration are the same. The node keeps all
  -- changes that it kept, followed by those that were added.
  pub record LeavesClients (old new : RelayState D) : Type 0 where
    pub clients : new.clients ≡ old.clients
    pub seats : new.node.seats ≡ old.node.seats
    pub config : new.node.config ≡ old.node.config
    pub keeps : (changes : List Change) → Keeps honest words old.node.records changes → HaveRelayed changes old
        → KeepsAfter changes new

  -- Calls that leave clients alone leave them alone together.
  abbrev pub LeavesThen : Type 0
  LeavesThen =
      (one two three : RelayState D) → LeavesClients one two → LeavesClients two three → LeavesClients one three

-- Below: the clients of a relay, by number.
module _ {D S : Type 0} (honest : Type 0) (words : DiskWords D) (remaining contents : S → Option (List ℕ)) where
  -- each client is served, each attempt with a connection has a history, and the node keeps these changes
  pub record AreServed (changes : List Change) (setting : Setting) (clients : List (Option (Box (Client S) Global)))
      (relay : RelayState D) : Type 0 where
    pub keeps : Keeps honest words relay.node.records changes
    pub setups_are : HaveSetups setting.setups relay
    pub relayed : HaveRelayed changes relay
    pub each : (number : ℕ) → Serves remaining contents changes setting relay number (slot_at clients number)

  -- the same after more changes
  pub record AreServedAfter (changes : List Change) (setting : Setting)
      (clients : List (Option (Box (Client S) Global))) (relay : RelayState D) : Type 0 where
    pub added : List Change
    pub served : AreServed (changes ++ added) setting clients relay

  -- each client is served, except that some of these results are still to be taken
  pub record HaveAnswered (changes : List Change) (setting : Setting) (clients : List (Option (Box (Client S) Global)))
      (relay : RelayState D) (answers : List (ℕ × Result Heard NodeFault)) : Type 0 where
    pub keeps : Keeps honest words relay.node.records changes
    pub setups_are : HaveSetups setting.setups relay
    pub relayed : HaveRelayed changes relay
    pub apart : AreApart answers
    pub each : (number : ℕ) → HasAnsweredOr remaining contents changes setting relay number
        (slot_at clients number) (answer_to number answers)

  -- A served client has its session and its connection under its own number, and is the session's peer.
  abbrev pub ServedAreMatched : Type 0
  ServedAreMatched =
      (changes : List Change) (setting : Setting) (clients : List (Option (Box (Client S) Global)))
      (relay : RelayState D) → AreServed changes setting clients relay → AreMatched clients relay

  -- A new relay serves an empty table of clients; it has no attempts yet.
  abbrev pub FreeAreServed : Type 0
  FreeAreServed =
      (changes : List Change) (setting : Setting) (clients : List (Option (Box (Client S) Global)))
      (relay : RelayState D)
      → Keeps honest words relay.node.records changes → HaveSetups setting.setups relay
      → AreFree clients → AreFree relay.clients → AreFree relay.hops → AreFree relay.node.seats
      → AreServed changes setting clients relay

  -- Noting readiness doesn't change how clients are served.
  abbrev pub NotedAreServed : Type 0
  NotedAreServed =
      (changes : List Change) (setting : Setting) (old new : List (Option (Box (Client S) Global)))
      (relay : RelayState D) (number : ℕ)
      → IsNoted number old new → AreServed changes setting old relay → AreServed changes setting new relay

  -- What leaves clients alone leaves them served, after the changes that were added.
  abbrev pub LeftAreServed : Type 0
  LeftAreServed =
      (changes : List Change) (setting : Setting) (clients : List (Option (Box (Client S) Global)))
      (old new : RelayState D)
      → LeavesClients honest words old new → AreServed changes setting clients old
      → AreServedAfter changes setting clients new

  -- Clients that are served after some changes and more are served after the changes.
  abbrev pub ServedGoesOn : Type 0
  ServedGoesOn =
      (changes added : List Change) (setting : Setting) (clients : List (Option (Box (Client S) Global)))
      (relay : RelayState D)
      → AreServedAfter (changes ++ added) setting clients relay → AreServedAfter changes setting clients relay
