-- The effect of an event, and its result.
use Rattle.std.specs.Prelude.{◌≡◌, ◌⊎◌, ◌<◌, ℕ, zero, suc, Bool, true, false, List, [], ◌∷◌, length, None, Some, Result}
use Rattle.std.specs.Prelude.{Ok, Err, slice_get}
use Rattle.std.specs.Option.{is_some}
use Rattle.relay_disk.specs.Device.{DiskWords}
use Rattle.relay_disk.specs.Disks.{calls_left_of}
use Rattle.relay_slots.specs.Slots.{IsFull}
use Rattle.relay_world.specs.declared.attempt.Attempt.{Attempt}
use Rattle.relay_world.specs.declared.link.Link.{Link}
use Rattle.relay_world.specs.Crashes.{CrashesAtRest, CrashesCompacting, CrashesGivingUp, CrashesHearing, CrashesReading}
use Rattle.relay_world.specs.Crashes.{serves_for}
use Rattle.relay_world.specs.GivingUp.{NoHop, Postmaster}
use Rattle.relay_world.specs.Steps.{AttemptOf, waiting_down, waiting_up}
use Rattle.relay_world.specs.Steps.{Breaks, DropsAttempt, EndsSession, HasGivenUp, HasHeard, HasLost, HasOpened}
use Rattle.relay_world.specs.Steps.{HasRead, HasStarted, HasTicked, HasWritten}
use Rattle.relay_world.specs.Stops.{HasArmed, HasCompacted, StopsAgain}
use Rattle.relay_world.specs.World.{Host, World}
use Rattle.relay_events.specs.declared.event.Event.{Event}
use Rattle.relay_events.specs.declared.event.Event.TheVariants.{Connect, Send, Carry, Break, Tick, Give, Compact, Stop}
use Rattle.relay_events.specs.declared.event.Event.TheVariants.{Withdraw}
use Rattle.relay_book.specs.declared.change.Withdrawal.{Withdrawal}
use Rattle.relay_events.specs.declared.fault.PairFault.{PairFault}
use Rattle.relay_events.specs.declared.fault.PairFault.TheVariants as fault
use Rattle.relay_events.specs.declared.seen.Seen.{Seen}
use Rattle.relay_events.specs.declared.seen.Seen.TheVariants as seen
use Rattle.relay_records.specs.declared.fault.NodeFault.{NodeFault}
use Rattle.relay_records.specs.declared.fault.NodeFault.TheVariants as node_fault
use Rattle.relay_hosts.specs.Call.{IsWhyUnheard, IsWhyUnread, IsWhyUntold}
use Rattle.relay_hosts.specs.Compact.{IsWhyNotCompacted}
use Rattle.relay_events.specs.FirstFault.{first_fault}
use Rattle.relay_hosts.specs.Links.{waits_down, waits_up}
use Rattle.relay_events.specs.Give.{IsFirstWork, IsWhyNotBegun, IsWhyNotGivenUp, LeadsOn}
use Rattle.relay_events.specs.Told.{AreTold, CrashesTold, IsOpened}
use Rattle.relay_hosts.specs.Work.{RefusesGivingUp, RefusesSession, attempts_in}
use Rattle.relay_attempts.specs.declared.work.Work.TheVariants.{NoRoute, Try}

abbrev pub outside_address : List ℕ
outside_address = 192 ∷ 0 ∷ 2 ∷ 1 ∷ []

-- the direct effect of an event: it was done with a result, or a node refused its part, or a node has stopped
pub data Did : Type 0 where
  Shows : Seen → Did
  Refuses : PairFault → Did
  Stops : (node : ℕ) → Did

-- the result says that these nodes have stopped, in this order
abbrev pub HaveStopped : List ℕ → Result Seen PairFault → Type 0
HaveStopped nodes answer = answer ≡ Ok (seen.Stopped nodes)

-- The result of an event with this effect, after which these nodes have stopped. If any node has stopped, the result
-- lists all of them and nothing else.
abbrev pub IsSeen : Did → List ℕ → Result Seen PairFault → Type 0
IsSeen (Shows own) [] answer = answer ≡ Ok own
IsSeen (Shows own) (node ∷ nodes) answer = HaveStopped (node ∷ nodes) answer
IsSeen (Refuses why) [] answer = answer ≡ Err why
IsSeen (Refuses why) (node ∷ nodes) answer = HaveStopped (node ∷ nodes) answer
IsSeen (Stops node) nodes answer = HaveStopped (node ∷ nodes) answer

-- the fault of an event in which a node refused its part
abbrev pub fault_of : NodeFault → PairFault
fault_of node_fault.NoMemory = fault.NoMemory
fault_of node_fault.Stopped = fault.Node node_fault.Stopped
fault_of node_fault.Unknown = fault.Node node_fault.Unknown
fault_of node_fault.TooMany = fault.Node node_fault.TooMany
fault_of node_fault.NotDue = fault.Node node_fault.NotDue
fault_of node_fault.Busy = fault.Node node_fault.Busy
fault_of (node_fault.Open cause) = fault.Node (node_fault.Open cause)
fault_of node_fault.Full = fault.Node node_fault.Full
fault_of node_fault.NoSecond = fault.Node node_fault.NoSecond

-- the attempt at the client end of a link belongs to this node, which doesn't have the server end too, and octets are
-- unread there or not
pub record IsCarriedTo (link : Link) (attempt : Attempt) (node : ℕ) (waits : Bool) : Type 0 where
  pub its_node : attempt.node ≡ node
  pub unserved : serves_for node link.server ≡ false
  pub waiting : waits_down link ≡ waits

module _ {D : Type 0} (honest : Type 0) (words : DiskWords D) where
  -- A node stops between two calls, or again if it was down; then it is opened, or can't be opened.
  pub record StopsNow (old new : World D) (node : ℕ) : Type 0 where
    pub down : World D
    pub stops : CrashesAtRest honest words old down node ⊎ StopsAgain honest words old down node
    pub opened : IsOpened honest words down new node

  -- A device fault is set for a node that is up: after this many calls of its disks the next one fails.
  pub record SetsStop (old new : World D) (node calls : ℕ) : Type 0 where
    pub armed : HasArmed honest words old new node
    pub calls_left : calls_left_of words armed.stays.after.records.spool.disk ≡ Some calls

  -- why an attempt is dropped when octets, or the close of the other end, are carried to it
  abbrev pub IsWhyDropped : (old : World D) (number count : ℕ) → AttemptOf old number → Bool → NodeFault → Type 0
  IsWhyDropped old number count of true why =
      IsWhyUnread honest words old.clock of.host.state of.slot (waiting_down count of.link) why
  IsWhyDropped old number count of false why = IsWhyUntold honest words old.clock of.host.state of.slot why

  -- The unread octets of a link are carried to a node, or, if there are none, the close of the other end. Or memory for
  -- the node's answer runs out, and the link breaks after the octets were heard or read. Or the node has too little
  -- memory to hear or read them, or no number or room for the resulting change, and the link breaks. Or the node stops
  -- in that call.
  pub data Carries (old : World D) (number node count : ℕ) (new : World D) : Did → Type 0 where
    Hears : (heard : HasHeard honest words old new number count) → heard.of.end.node ≡ node
        → waits_up heard.of.link ≡ true
        → Carries old number node count new (Shows (seen.Carried heard.received.used (length heard.received.out.items)
        heard.received.change heard.received.close))
    HearsUnanswered : (broken : World D) → Breaks old broken number
        → (heard : HasHeard honest words broken new number count) → heard.of.end.node ≡ node
        → waits_up heard.of.link ≡ true → 0 < length heard.received.out.items
        → Carries old number node count new (Refuses fault.NoMemory)
    Ends : (ended : EndsSession old new number) → ended.of.end.node ≡ node
        → waits_up ended.of.link ≡ false
        → Carries old number node count new (Shows (seen.Carried 0 0 None true))
    Reads : (read : HasRead honest words old new number count) → IsCarriedTo read.of.link read.of.attempt node true
        → Carries old number node count new (Shows (seen.Carried read.replied.used (length read.replied.out.items)
        read.replied.change (is_some read.replied.change)))
    ReadsUnwritten : (broken : World D) → Breaks old broken number
        → (read : HasRead honest words broken new number count) → IsCarriedTo read.of.link read.of.attempt node true
        → 0 < length read.replied.out.items → Carries old number node count new (Refuses fault.NoMemory)
    Loses : (change : ℕ) → (lost : HasLost honest words old new number change)
        → IsCarriedTo lost.of.link lost.of.attempt node false
        → Carries old number node count new (Shows (seen.Carried 0 0 (Some change) true))
    RefusesToHear : (ended : World D) → (gone : EndsSession old ended number) → gone.of.end.node ≡ node
        → waits_up gone.of.link ≡ true → Breaks ended new number → (why : NodeFault)
        → IsWhyUnheard gone.of.host.state gone.of.session (waiting_up count gone.of.link) why
        → Carries old number node count new (Refuses (fault_of why))
    RefusesToRead : (dropped : World D) → (gone : DropsAttempt old dropped number) → (waits : Bool)
        → IsCarriedTo gone.of.link gone.of.attempt node waits
        → Breaks dropped new number → (why : NodeFault) → IsWhyDropped old number count gone.of waits why
        → Carries old number node count new (Refuses (fault_of why))
    CrashesInHearing : (down : World D) → (crash : CrashesHearing honest words old down number count)
        → crash.of.end.node ≡ node → waits_up crash.of.link ≡ true → IsOpened honest words down new node
        → Carries old number node count new (Stops node)
    CrashesInReading : (down : World D) → (crash : CrashesReading honest words old down number count)
        → IsCarriedTo crash.of.link crash.of.attempt node true → IsOpened honest words down new node
        → Carries old number node count new (Stops node)
    CrashesInLosing : (told : CrashesTold honest words old new number node)
        → IsCarriedTo told.crash.of.link told.crash.of.attempt node false
        → Carries old number node count new (Stops node)

  -- Outside opens a link to a node; or the node refuses it, for lack of memory or because 64 sessions are running.
  pub data OpensFromOutside (old : World D) (node : ℕ) (new : World D) : Did → Type 0 where
    OpensLink : (opened : HasOpened old new node outside_address)
        → OpensFromOutside old node new (Shows (seen.Linked (length new.links) (length opened.connected.out.items)))
    RefusesLink : (host : Host D) → slice_get old.hosts node ≡ Some host → (why : NodeFault)
        → RefusesSession host host why → new ≡ old → OpensFromOutside old node new (Refuses (fault_of why))

  -- A node does its first work. It begins an attempt, on a new link to outside or to the node that has the hop's name.
  -- Or it refuses the attempt, for lack of memory or because 64 attempts are running, and nothing changes. Or the other
  -- node refuses the session. Or there is no memory for the attempt after the link was opened, and that link breaks. Or
  -- it gives up the places of a message that have no hop, or refuses to, or stops in that call.
  pub data Gives (old : World D) (node : ℕ) (new : World D) : Did → Type 0 where
    StartsOutside : (message : ℕ) → (hop : List ℕ) → IsFirstWork old node (Try message hop)
        → (begun : HasStarted honest words old new (suc (length old.links)) message hop) → begun.attempt.node ≡ node
        → Gives old node new (Shows (seen.Started (length old.attempts)))
    StartsAtNode : (message : ℕ) → (hop : List ℕ) → IsFirstWork old node (Try message hop) → (to : ℕ) → (peer : List ℕ)
        → (opened : World D) → HasOpened old opened to peer
        → (begun : HasStarted honest words opened new (suc (length old.links)) message hop) → begun.attempt.node ≡ node
        → Gives old node new (Shows (seen.Started (length old.attempts)))
    RefusesToStart : (message : ℕ) → (hop : List ℕ) → (first : IsFirstWork old node (Try message hop))
        → (why : NodeFault) → IsWhyNotBegun first.host why → new ≡ old → Gives old node new (Refuses (fault_of why))
    RefusesToOpen : (message : ℕ) → (hop : List ℕ) → (first : IsFirstWork old node (Try message hop))
        → (IsFull (attempts_in first.host.state) → ⊥) → (to : ℕ) → (host : Host D) → slice_get old.hosts to ≡ Some host
        → host.config.host ≡ hop → (why : NodeFault) → RefusesSession host host why → new ≡ old
        → Gives old node new (Refuses (fault_of why))
    BreaksUnstarted : (message : ℕ) → (hop : List ℕ) → (first : IsFirstWork old node (Try message hop))
        → (IsFull (attempts_in first.host.state) → ⊥) → (to : ℕ) → (peer : List ℕ) → LeadsOn old node hop to peer
        → (opened : World D) → HasOpened old opened to peer → Breaks opened new (suc (length old.links))
        → Gives old node new (Refuses fault.NoMemory)
    GivesUpPlaces : (message change : ℕ) → IsFirstWork old node (NoRoute message)
        → HasGivenUp honest words old new NoHop node message change
        → Gives old node new (Shows (seen.NoRoute message change))
    RefusesToGiveUp : (message : ℕ) → (first : IsFirstWork old node (NoRoute message)) → (why : NodeFault)
        → IsWhyNotGivenUp honest words old.clock first.host message why → new ≡ old
        → Gives old node new (Refuses (fault_of why))
    CrashesInGivingUp : (message : ℕ) → IsFirstWork old node (NoRoute message) → (down : World D)
        → CrashesGivingUp honest words old down NoHop node message → IsOpened honest words down new node
        → Gives old node new (Stops node)

  -- The postmaster withdraws a place: the node ends it, in a change of its own; or it refuses to, for the first cause
  -- in the order of the faults, or stops in that call.
  pub data Withdraws (old : World D) (node message place : ℕ) (withdrawal : Withdrawal) (new : World D) : Did → Type 0
    where
      WithdrawsPlace : (change : ℕ)
          → HasGivenUp honest words old new (Postmaster withdrawal (place ∷ [])) node message change
          → Withdraws old node message place withdrawal new (Shows (seen.Withdrawn change))
      RefusesToWithdraw : (host : Host D) → slice_get old.hosts node ≡ Some host → (why : NodeFault)
          → RefusesGivingUp honest words (Postmaster withdrawal (place ∷ [])) old.clock host host message why
          → new ≡ old → Withdraws old node message place withdrawal new (Refuses (fault_of why))
      CrashesInWithdrawing : (down : World D)
          → CrashesGivingUp honest words old down (Postmaster withdrawal (place ∷ [])) node message
          → IsOpened honest words down new node → Withdraws old node message place withdrawal new (Stops node)

  -- A node compacts its spool, whose new size is the result; or the node refuses to, or stops in that call.
  pub data Rewrites (old : World D) (node : ℕ) (new : World D) : Did → Type 0 where
    CompactsSpool : (compacted : HasCompacted honest words old new node)
        → Rewrites old node new (Shows (seen.Compacted node compacted.stays.after.records.spool.size))
    RefusesToCompact : (host : Host D) → slice_get old.hosts node ≡ Some host → (why : NodeFault)
        → IsWhyNotCompacted host why → new ≡ old → Rewrites old node new (Refuses (fault_of why))
    CrashesInCompacting : (down : World D) → CrashesCompacting honest words old down node
        → IsOpened honest words down new node → Rewrites old node new (Stops node)

  -- the direct effect of an event, before nodes are notified of the links that it broke
  abbrev pub Acts : World D → Event → World D → Did → Type 0
  Acts old (Connect node) middle did = OpensFromOutside old node middle did
  Acts old (Send number octets) middle did = HasWritten old middle number octets × (did ≡ Shows seen.Sent)
  Acts old (Carry number node count) middle did = Carries old number node count middle did
  Acts old (Break number) middle did = Breaks old middle number × (did ≡ Shows (seen.Broken number))
  Acts old (Tick now) middle did = HasTicked old middle now × (did ≡ Shows (seen.Set now))
  Acts old (Give node) middle did = Gives old node middle did
  Acts old (Compact node) middle did = Rewrites old node middle did
  Acts old (Withdraw node message place withdrawal) middle did = Withdraws old node message place withdrawal middle did
  Acts old (Stop node zero pick) middle did = StopsNow old middle node × (did ≡ Stops node)
  Acts old (Stop node (suc calls) pick) middle did = SetsStop old middle node calls × (did ≡ Shows (seen.Armed node))

  -- events that allocate memory to find a node's work
  abbrev pub LooksForWork : Event → Type 0
  LooksForWork (Connect node) = ⊥
  LooksForWork (Send number octets) = ⊥
  LooksForWork (Carry number node count) = ⊥
  LooksForWork (Break number) = ⊥
  LooksForWork (Tick now) = ⊥
  LooksForWork (Give node) = Unit {0}
  LooksForWork (Compact node) = ⊥
  LooksForWork (Withdraw node message place withdrawal) = ⊥
  LooksForWork (Stop node calls pick) = ⊥

  -- events that may fail for lack of memory before a node is called: those that write on a link, add to the ledger, or
  -- look for work
  abbrev pub TakesMemory : Event → Type 0
  TakesMemory (Connect node) = Unit {0}
  TakesMemory (Send number octets) = Unit {0}
  TakesMemory (Carry number node count) = Unit {0}
  TakesMemory (Break number) = ⊥
  TakesMemory (Tick now) = ⊥
  TakesMemory (Give node) = Unit {0}
  TakesMemory (Compact node) = ⊥
  TakesMemory (Withdraw node message place withdrawal) = Unit {0}
  TakesMemory (Stop node calls pick) = ⊥

  -- If memory runs out before a node is called, nothing changes.
  abbrev pub RefusesLate : World D → Event → World D → PairFault → Type 0
  RefusesLate old event new why =
      TakesMemory event × ((first_fault old event ≡ None) ⊎ LooksForWork event) × (why ≡ fault.NoMemory) × (new ≡ old)

  -- An event without a fault has this effect, nodes are notified of the links that it broke, and this is the result.
  abbrev pub Does : World D → Event → World D → Result Seen PairFault → Type 0
  Does old event new answer =
      (first_fault old event ≡ None)
      × ((middle : World D) × ((did : Did) × Acts old event middle did
      × ((told : AreTold honest words middle new) × IsSeen did told.stopped answer)))

  -- An event was done or refused. It is refused by its first fault exactly if there is one, and nothing changes; else
  -- before a node is called, if memory runs out; or by a node.
  abbrev pub Steps : World D → Event → World D → Result Seen PairFault → Type 0
  Steps old event new (Ok shown) = Does old event new (Ok shown)
  Steps old event new (Err why) =
      ((first_fault old event ≡ Some why) × (new ≡ old))
      ⊎ (RefusesLate old event new why ⊎ Does old event new (Err why))
