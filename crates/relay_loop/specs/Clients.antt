-- What a relay does on the connection of a client. The caller knows what was read from the connection, which is the
-- input of the exchange, and what was written to it, which is a list of octets.
use Rattle.std.specs.Prelude.{◌≡◌, ◌≢◌, ◌⊎◌, ℕ, ◌<◌, ◌≤◌, Bool, true, false, List, [], ◌++◌, take, Option, None, Some}
use Rattle.std.specs.Prelude.{Result, Err, IfErr}
use Rattle.relay_disk.specs.Device.{DiskWords}
use Rattle.relay_disk.specs.Disks.{FailsNot}
use Rattle.relay_slots.specs.Slots.{slot_at}
use Rattle.relay_server.specs.Dialogue.{Offered, Said}
use Rattle.relay_server.specs.Setup.{setup_for}
use Rattle.relay_book.specs.declared.change.Change.{Change}
use Rattle.relay_records.specs.Records.{Keeps}
use Rattle.relay_records.specs.declared.fault.NodeFault.{NodeFault}
use Rattle.relay_records.specs.declared.fault.NodeFault.TheVariants.{Stopped, Unknown}
use Rattle.relay_node.specs.declared.receive.Received.{Received}
use Rattle.relay_node.specs.Node.{HasClosed, HaveNoRoom, Makes, Receives, RefusesToReceive, SeatHasSaid}
use Rattle.relay_loop.specs.declared.clients.Heard.{Heard}
use Rattle.relay_loop.specs.Accepted.{AreAccepted, GrowsBy}
use Rattle.relay_loop.specs.Outboxes.{unwritten_at}
use Rattle.relay_loop.specs.Relay.{RelayState}

-- Below: the session of this number, whose client is at this address, of a relay whose node keeps these changes.
module _ {D : Type 0} (changes : List Change) (relay : RelayState D) (session : ℕ) (peer : List ℕ) (said : Said)
    (written : List ℕ) where
  -- The session's exchange with its client: this much of its output was written, the rest is unwritten. Each offer that
  -- was answered by a number is accepted by the change of that number.
  pub record TalksTo : Type 0 where
    pub seat : SeatHasSaid relay.node.config relay.node.seats session peer said
    pub waiting : List ℕ
    pub connection : slot_at relay.clients session ≡ Some waiting
    pub output : said.output ≡ written ++ waiting
    pub accepted : AreAccepted relay.node.config peer changes said

  -- The session has closed, and its connection is gone: this much of its output was written, and the rest are its last
  -- octets.
  pub record HasLeft (last : List ℕ) : Type 0 where
    pub closed : HasClosed (setup_for relay.node.config peer) said
    pub seat : slot_at relay.node.seats session ≡ None
    pub connection : slot_at relay.clients session ≡ None
    pub output : said.output ≡ written ++ last
    pub accepted : AreAccepted relay.node.config peer changes said

  -- the session goes on, or has closed with these last octets
  abbrev pub GoesOn : Option (List ℕ) → Type 0
  GoesOn None = TalksTo
  GoesOn (Some last) = HasLeft last

-- What a read does, after this exchange, if nothing was unwritten: the octets of the piece that it used follow the
-- input. Each offer but the last found no room. The list of changes is the same, or has grown by the accept of the last
-- offer, whose number is the answer.
module _ {D : Type 0} (honest : Type 0) (words : DiskWords D) (changes : List Change) (session : ℕ) (peer : List ℕ)
    (at : ℕ) (said : Said) (written : List ℕ) where
  pub record Reads (piece : List ℕ) (old new : RelayState D) (heard : Heard) : Type 0 where
    pub later : Said
    pub input : later.input ≡ said.input ++ take heard.used piece
    pub refused : List Offered
    pub no_room : HaveNoRoom honest words old.node.config changes peer at old.node.records refused
    pub makes : Makes honest words old.node.config changes peer at said later refused heard.used old.node.records
        new.node.records heard.change
    pub list : List Change
    pub grows : GrowsBy changes heard.change list
    pub keeps : Keeps honest words new.node.records list
    pub goes_on : GoesOn list new session peer later written heard.last

-- the result of a read is that of the node's call, without the octets for the client
pub record IsHeardFrom (received : Received) (heard : Heard) : Type 0 where
  pub used : heard.used ≡ received.used
  pub change : heard.change ≡ received.change

-- these octets are to be written to the session's connection, or, if it was closed, are its last ones
abbrev pub IsSetTo : Bool → ℕ → List ℕ → Option (List ℕ) → List (Option (List ℕ)) → Type 0
IsSetTo true session out last clients = (slot_at clients session ≡ None) × (last ≡ Some out)
IsSetTo false session out last clients = (slot_at clients session ≡ Some out) × (last ≡ None)

-- A client was heard, with nothing unwritten: the node's call returned this, whatever was said before and whichever
-- changes the node keeps. What the session writes is unwritten, or is the last of its connection if it has closed.
pub record HearsClient {D : Type 0} (honest : Type 0) (words : DiskWords D) (session at : ℕ) (piece : List ℕ)
    (old new : RelayState D) (heard : Heard) : Type 0 where
  pub received : Received
  pub receives : (changes : List Change) (peer : List ℕ) (said : Said) → Keeps honest words old.node.records changes
      → SeatHasSaid old.node.config old.node.seats session peer said
      → Receives honest words old.node.config changes peer at session said piece old.node new.node received
  pub heard_is : IsHeardFrom received heard
  pub set : IsSetTo received.close session received.out.items heard.last new.clients

-- How much of a piece of this length a read uses: at least one octet if a change was added; the whole piece if nothing
-- was unwritten, no change was added and the session didn't close. No call of the device has failed.
pub record UsesOctets {D : Type 0} (words : DiskWords D) (session len : ℕ) (old new : RelayState D) (heard : Heard)
    : Type 0 where
  pub within : heard.used ≤ len
  pub some : heard.change ≢ None → 0 < heard.used
  pub whole : unwritten_at old.clients session ≡ [] → heard.change ≡ None → heard.last ≡ None → heard.used ≡ len
  pub failures : FailsNot words old.node.records.spool.disk new.node.records.spool.disk

-- there is no connection of this number, or no session
abbrev pub IsUnknown : {D : Type 0} → RelayState D → ℕ → Type 0
IsUnknown relay session = (slot_at relay.clients session ≡ None) ⊎ (slot_at relay.node.seats session ≡ None)

-- A read is refused: the connection is gone. A stopped node is unchanged; a live one is as its own call leaves it, or,
-- if only the connection was unknown, as a call on an unknown session leaves it.
pub record RefusesToRead {D T : Type 0} (words : DiskWords D) (session : ℕ) (old new : RelayState D)
    (result : Result T NodeFault)
    : Type 0 where
  pub gone : IfErr result (λ _. slot_at new.clients session ≡ None)
  pub refused : old.node.records.spool.live ≡ true → IfErr result (RefusesToReceive words session old.node new.node)
  pub stopped : old.node.records.spool.live ≡ false → new.node ≡ old.node
  pub unknown : result ≡ Err Unknown → IsUnknown old session

-- The end of a session is refused: the node is unchanged, and is stopped or doesn't have the session.
abbrev pub RefusesToEnd : {D : Type 0} → ℕ → RelayState D → RelayState D → NodeFault → Type 0
RefusesToEnd session old new Stopped = (old.node.records.spool.live ≡ false) × (new.node ≡ old.node)
RefusesToEnd session old new Unknown = IsUnknown old session × (new.node ≡ old.node)
RefusesToEnd session old new other = ⊥
