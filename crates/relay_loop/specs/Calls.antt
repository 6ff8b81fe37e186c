-- What the contracts of a relay's calls say, if they succeed. Each record has the clauses of one call that its event
-- rests on, as they stand there.
use Rattle.std.specs.Prelude.{◌≡◌, ◌≢◌, ◌⊎◌, ℕ, ◌≤◌, ◌<◌, ◌^◌, false, List, [], None, Some, drop, length}
use Rattle.std.specs.Option.{option_map}
use Rattle.relay_disk.specs.Device.{DiskWords}
use Rattle.relay_slots.specs.Slots.{IsLeastFree, OthersStay, slot_at}
use Rattle.relay_book.specs.declared.change.Change.{Change}
use Rattle.relay_book.specs.declared.change.Withdrawal.{Withdrawal}
use Rattle.relay_records.specs.declared.fault.NodeFault.{NodeFault}
use Rattle.relay_records.specs.declared.fault.NodeFault.TheVariants.{Full, NoMemory}
use Rattle.relay_records.specs.Records.{Compacts, Keeps}
use Rattle.relay_report.specs.Report.{reporter_of}
use Rattle.relay_attempts.specs.declared.start.Started.{Started}
use Rattle.relay_attempts.specs.Outcomes.{AddsUnroutable}
use Rattle.relay_attempts.specs.Withdrawals.{AddsWithdrawal, EndsWithdrawal}
use Rattle.relay_node.specs.Attempts.{IsDropped, Tells}
use Rattle.relay_node.specs.Node.{greeted_by}
use Rattle.relay_loop.specs.Clients.{HearsClient, IsUnknown, TalksTo}
use Rattle.relay_attempts.specs.Reply.{IsLost, Told}
use Rattle.relay_loop.specs.declared.clients.Heard.{Heard}
use Rattle.relay_loop.specs.declared.hops.Answered.{Answered}
use Rattle.relay_loop.specs.Hops.{HandsTo, Replies, StartsTo, UsesReply}
use Rattle.relay_loop.specs.Outboxes.{unwritten_at}
use Rattle.relay_loop.specs.Relay.{OnlyClient, OnlyHop, RelayState}

-- a node lacks memory or room
abbrev pub IsShort : NodeFault → Type 0
IsShort fault = (fault ≡ NoMemory) ⊎ (fault ≡ Full)

module _ {D : Type 0} (old new : RelayState D) where
  -- the connections are the same
  abbrev pub SameConnections : Type 0
  SameConnections = (new.clients ≡ old.clients) × (new.hops ≡ old.hops)

  -- the configuration, the sessions and the attempts are the same
  abbrev pub SameRest : Type 0
  SameRest = (new.node.config ≡ old.node.config) × (new.node.seats ≡ old.node.seats)
      × (new.node.attempts ≡ old.node.attempts)

  -- `Relay::accept` of a client at this address, with this result; the greeting is the octets of a slice, as
  -- `Relay::to_client` returns them
  pub record AcceptSays (peer : List ℕ) (session : ℕ) : Type 0 where
    pub talks : (changes : List Change)
        → TalksTo changes new session peer (greeted_by (unwritten_at new.clients session)) []
    pub free : IsLeastFree old.node.seats session
    pub only : OnlyClient old new session
    pub records : new.node.records ≡ old.node.records
    pub short : length (unwritten_at new.clients session) < 2 ^ 63

  -- `Relay::end_client` of this session, which returns these unwritten octets
  pub record EndSays (session : ℕ) (last : List ℕ) : Type 0 where
    pub was : slot_at old.clients session ≡ Some last
    pub gone : slot_at new.clients session ≡ None
    pub seat : slot_at new.node.seats session ≡ None
    pub only : OnlyClient old new session
    pub records : new.node.records ≡ old.node.records

  -- `Relay::end_client` of this session, which was refused: there is none, or the node is stopped; the connection alone
  -- is gone
  pub record ForgetSays (session : ℕ) : Type 0 where
    pub why : IsUnknown old session ⊎ (old.node.records.spool.live ≡ false)
    pub gone : slot_at new.clients session ≡ None
    pub others : OthersStay old.clients new.clients session
    pub node : new.node ≡ old.node
    pub hops : new.hops ≡ old.hops

  -- `Relay::wrote_to_client` of this many octets, and `Relay::wrote_to_hop`
  pub record WroteSays (session count : ℕ) : Type 0 where
    pub left : slot_at new.clients session ≡ option_map (drop count) (slot_at old.clients session)
    pub others : OthersStay old.clients new.clients session
    pub node : new.node ≡ old.node
    pub hops : new.hops ≡ old.hops

  pub record WroteHopSays (slot count : ℕ) : Type 0 where
    pub left : slot_at new.hops slot ≡ option_map (drop count) (slot_at old.hops slot)
    pub others : OthersStay old.hops new.hops slot
    pub node : new.node ≡ old.node
    pub clients : new.clients ≡ old.clients

  -- `Relay::reply` or `Relay::lose` for an attempt, where a live node has refused it for lack of memory or of room
  pub record DropSays (slot : ℕ) : Type 0 where
    pub was : slot_at old.hops slot ≢ None
    pub gone : slot_at new.hops slot ≡ None
    pub dropped : IsDropped slot old.node new.node
    pub only : OnlyHop old new slot

module _ {D : Type 0} (honest : Type 0) (words : DiskWords D) (old new : RelayState D) where
  -- `Relay::compact`
  pub record CompactSays : Type 0 where
    pub kept : (changes : List Change) → Keeps honest words old.node.records changes
        → Keeps honest words new.node.records changes
    pub compacts : Compacts honest words old.node.records new.node.records
    pub rest : (new.node.config ≡ old.node.config) × (new.node.seats ≡ old.node.seats)
        × (new.node.attempts ≡ old.node.attempts)
        × (new.node.records.queue ≡ old.node.records.queue)
        × (new.node.records.noted ≡ old.node.records.noted)
    pub connections : SameConnections old new

  -- `Relay::trim`
  pub record TrimSays : Type 0 where
    pub kept : (changes : List Change) → Keeps honest words old.node.records changes
        → Keeps honest words new.node.records changes
    pub rest : (new.node.config ≡ old.node.config) × (new.node.seats ≡ old.node.seats)
        × (new.node.attempts ≡ old.node.attempts)
        × (new.node.records.queue ≡ old.node.records.queue)
        × (new.node.records.noted ≡ old.node.records.noted)
    pub connections : SameConnections old new

  -- `Relay::give_up_unroutable` of a message at a time, with this result
  pub record GiveUpSays (now message change : ℕ) : Type 0 where
    pub gives_up : (changes : List Change) → Keeps honest words old.node.records changes
        → AddsUnroutable honest words (reporter_of old.node.config) old.node.config.routes message now changes
        old.node.records new.node.records change
    pub rest : SameRest old new
    pub connections : SameConnections old new

  -- `Relay::withdraw` of these places of a message at a time, with this result
  pub record WithdrawSays (withdrawal : Withdrawal) (places : List ℕ) (now message change : ℕ) : Type 0 where
    pub withdraws : (changes : List Change) → Keeps honest words old.node.records changes
        → AddsWithdrawal honest words (reporter_of old.node.config) message now withdrawal places changes
        old.node.records new.node.records change
    pub ends : EndsWithdrawal words (reporter_of old.node.config) old.node.attempts message now withdrawal places
        old.node.records new.node.records change
    pub rest : SameRest old new
    pub connections : SameConnections old new

  -- `Relay::start` of an attempt for a message and a hop at a time, with this result
  pub record StartSays (message : ℕ) (hop : List ℕ) (now : ℕ) (started : Started) : Type 0 where
    pub starts : (changes : List Change) → Keeps honest words old.node.records changes
        → StartsTo changes message hop now old new started
    pub connection : slot_at new.hops started.attempt ≡ Some []
    pub only : OnlyHop old new started.attempt
    pub records : new.node.records ≡ old.node.records

  -- `Relay::read` of this piece of a client at a time, with this result, if nothing was unwritten
  pub record HearSays (now session : ℕ) (piece : List ℕ) (heard : Heard) : Type 0 where
    pub hears : HearsClient honest words session now piece old new heard
    pub within : heard.used ≤ length piece
    pub only : OnlyClient old new session

  -- `Relay::reply` of this piece for an attempt at a time, with this result; the octets that are unwritten then, or the
  -- last ones, are those of a slice
  pub record ReplySays (now slot : ℕ) (piece : List ℕ) (answered : Answered) : Type 0 where
    pub replies : (changes : List Change) (told : Told) (written : List ℕ)
        → Keeps honest words old.node.records changes → HandsTo changes old slot told written
        → unwritten_at old.hops slot ≡ []
        → Replies honest words changes slot now told written piece old new answered
    pub used : UsesReply words now slot (length piece) old new answered
    pub only : OnlyHop old new slot
    pub short : length (unwritten_at new.hops slot) < 2 ^ 63
    pub short_last : (last : List ℕ) → answered.last ≡ Some last → length last < 2 ^ 63

  -- `Relay::lose` of this attempt at a time, with this result
  pub record LoseSays (now slot change : ℕ) : Type 0 where
    pub was : slot_at old.hops slot ≢ None
    pub lost : (changes : List Change) (told : Told) → Keeps honest words old.node.records changes
        → Tells old.node.config.host changes old.node.attempts slot told
        → IsLost honest words (reporter_of old.node.config) now changes slot told old.node.records new.node.records
        new.node.attempts change
    pub gone : slot_at new.hops slot ≡ None
    pub ended : slot_at new.node.attempts slot ≡ None
    pub only : OnlyHop old new slot
