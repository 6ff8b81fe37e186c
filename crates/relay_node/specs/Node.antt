-- A node in its list of changes, and in what was said on its sessions.
use Rattle.std.specs.Prelude.{◌≡◌, ◌≢◌, ◌⊎◌, ◌↔◌, ℕ, ◌+◌, ◌≤◌, ◌<◌, ◌^◌, Bool, true, false, List, [], ◌∷◌, ◌++◌, length}
use Rattle.std.specs.Prelude.{take, Option, Some, None, Result, Err, IfErr}
use Rattle.std.specs.List.{AllByRecursion}
use Rattle.relay_disk.specs.declared.disks.Disks.{Disks}
use Rattle.relay_disk.specs.Device.{DiskWords}
use Rattle.relay_disk.specs.Disks.{FailsNot}
use Rattle.relay_spool.specs.declared.fault.SpoolFault.TheVariants as spool_fault
use Rattle.relay_spool.specs.Spool.{Passes}
use Rattle.relay_routes.specs.declared.config.Config.{Config}
use Rattle.relay_server.specs.declared.offer.Answer.TheVariants.{Queued}
use Rattle.relay_server.specs.declared.session.Next.TheVariants as next
use Rattle.relay_server.specs.declared.session.Session.{Session}
use Rattle.relay_server.specs.Dialogue.{Offered, Said, IsDialogue, unread_after}
use Rattle.relay_server.specs.Session.{Stands, next_of, open_offers}
use Rattle.relay_server.specs.Setup.{Setup, setup_for}
use Rattle.relay_server.specs.State.{Closed}
use Rattle.relay_book.specs.declared.change.Accept.{Accept}
use Rattle.relay_book.specs.declared.change.Change.{Change}
use Rattle.relay_book.specs.declared.change.Change.TheVariants as change
use Rattle.relay_book.specs.Queue.{Queue, step}
use Rattle.relay_records.specs.declared.fault.Cause.{Cause}
use Rattle.relay_records.specs.declared.fault.Cause.TheVariants.{Spool}
use Rattle.relay_records.specs.declared.fault.NodeFault.{NodeFault}
use Rattle.relay_records.specs.declared.fault.NodeFault.TheVariants.{NoMemory, Stopped, Unknown, TooMany, Full}
use Rattle.relay_records.specs.Open.{RefusesDisk}
use Rattle.relay_records.specs.Records.{Adds, Cuts, IsStopped, Kept}
use Rattle.relay_attempts.specs.declared.runs.Run.{Run}
use Rattle.relay_node.specs.declared.node.Connected.{Connected}
use Rattle.relay_node.specs.declared.receive.Received.{Received}
use Rattle.relay_node.specs.declared.seat.Seat.{Seat}
use Rattle.relay_node.specs.Acceptance.{Acceptance, acceptance_by}
use Rattle.relay_node.specs.Room.{AnswersMore, EndsWithOffer, HasRoom, Overfills, refusals, size_with}
use Rattle.relay_slots.specs.Slots.{AreFree, HasPlaces, IsLeastFree, OthersStay, slot_at}

-- what callers see of a node: its configuration, its sessions and its running attempts by number, and its records
pub record NodeState (D : Type 0) : Type 0 where
  pub config : Config
  pub seats : List (Option Seat)
  pub attempts : List (Option Run)
  pub records : Kept D

-- the session is after what was said, and each offer is answered
pub record SessionHasSaid (setup : Setup) (session : Session) (said : Said) : Type 0 where
  pub stands : Stands setup session said
  pub settled : open_offers session ≡ []

-- the session of this number, whose client is at this address, is after what was said
pub record SeatHasSaid (config : Config) (seats : List (Option Seat)) (number : ℕ) (peer : List ℕ)
    (said : Said) : Type 0 where
  pub seat : Seat
  pub at : slot_at seats number ≡ Some seat
  pub peer_is : seat.peer ≡ peer
  pub says : SessionHasSaid (setup_for config peer) seat.session.value said

-- something was said on a session of a client at this address
abbrev pub HasHistory : Config → List ℕ → Session → Type 0
HasHistory config peer session = (said : Said) × SessionHasSaid (setup_for config peer) session said

-- something was said on each session
abbrev pub HaveHistories : Config → List (Option Seat) → Type 0
HaveHistories config [] = Unit {0}
HaveHistories config (None ∷ seats) = HaveHistories config seats
HaveHistories config (Some seat ∷ seats) = HasHistory config seat.peer seat.session.value × HaveHistories config seats

-- what was said is a dialogue that the server has closed, and octets after it belong to its rest
pub record HasClosed (setup : Setup) (said : Said) : Type 0 where
  pub dialogue : IsDialogue setup said
  pub unread : (octets : List ℕ) → (dialogue : IsDialogue setup (unread_after said octets))
      × (dialogue.state ≡ Closed)

-- the session of this number goes on after what was said, or it has closed, and is gone
abbrev pub SessionGoesOn : Config → List (Option Seat) → ℕ → List ℕ → Said → Bool → Type 0
SessionGoesOn config seats number peer said true =
    (slot_at seats number ≡ None) × HasClosed (setup_for config peer) said
SessionGoesOn config seats number peer said false = SeatHasSaid config seats number peer said

-- the session of this number waits for more octets: it has not closed
abbrev pub IsOpen : List (Option Seat) → ℕ → Type 0
IsOpen seats number =
    (seat : Seat) → slot_at seats number ≡ Some seat → next_of seat.session.value ≡ next.More

-- nothing was said but this greeting
abbrev pub greeted_by : List ℕ → Said
greeted_by greeting = record { input = []; answers = []; output = greeting; offers = [] }

-- The words below are of a call at a time, on a session with a client at this address, of a node that keeps these
-- changes.
module _ {D : Type 0} (honest : Type 0) (words : DiskWords D) (config : Config) (changes : List Change)
    (peer : List ℕ) (at : ℕ) where
  -- how the next change is accepted
  abbrev pub next_acceptance : Acceptance
  next_acceptance = acceptance_by config peer (length changes + 1) at

  -- each of these offers would bring the spool past its limit
  abbrev pub HaveNoRoom : Kept D → List Offered → Type 0
  HaveNoRoom old offers = AllByRecursion (Overfills next_acceptance config.spool_limit old.spool.size) offers

  -- there is room for this offer, and this is its accept
  abbrev pub FitsIn : Kept D → Offered → Accept → Type 0
  FitsIn old offer accept = HasRoom next_acceptance config.spool_limit old.spool.size offer accept

  -- after the refused offers one was queued: the change of this number accepts it, added by four calls of the device,
  -- and no octet after it was read
  pub record Queues (said later : Said) (refused : List Offered) (used : ℕ) (old new : Kept D)
      (number : ℕ) : Type 0 where
    pub number_is : number ≡ length changes + 1
    pub offer : Offered
    pub answers : AnswersMore said later refused (offer ∷ []) (Queued number ∷ [])
    pub ends : EndsWithOffer (setup_for config peer) later (said.answers ++ refusals refused)
    pub accept : Accept
    pub fits : FitsIn old offer accept
    pub adds : Adds honest words new changes (change.Accept accept) used
    pub size : new.spool.size ≡ size_with old.spool.size accept
    pub calls : Passes words 4 old.spool.disk new.spool.disk

  -- the change that the call made, if it made one
  abbrev pub Makes : Said → Said → List Offered → ℕ → Kept D → Kept D → Option ℕ → Type 0
  Makes said later refused used old new None = AnswersMore said later refused [] [] × (new ≡ old)
  Makes said later refused used old new (Some number) = Queues said later refused used old new number

  -- what the call did after what was said: it used all of the piece, unless a change or a close stopped it
  pub record TalksOn (said later : Said) (piece : List ℕ) (old new : Kept D)
      (received : Received) : Type 0 where
    pub input : later.input ≡ said.input ++ take received.used piece
    pub output : later.output ≡ said.output ++ received.out.items
    pub refused : List Offered
    pub no_room : HaveNoRoom old refused
    pub makes : Makes said later refused received.used old new received.change
    pub whole : received.change ≡ None → received.close ≡ false → received.used ≡ length piece

  -- the same, on a session
  pub record Hears (said : Said) (piece : List ℕ) (new_session : Session) (old new : Kept D)
      (received : Received) : Type 0 where
    pub later : Said
    pub says : SessionHasSaid (setup_for config peer) new_session later
    pub closed : (received.close ≡ true) ↔ (next_of new_session ≡ next.Close)
    pub talks : TalksOn said later piece old new received

  -- the same, on the session of this number of a node
  pub record Receives (number : ℕ) (said : Said) (piece : List ℕ) (old new : NodeState D)
      (received : Received) : Type 0 where
    pub later : Said
    pub goes_on : SessionGoesOn config new.seats number peer later received.close
    pub is_open : received.close ≡ false → IsOpen new.seats number
    pub talks : TalksOn said later piece old.records new.records received

  -- A stop came while a change was added. The call had used octets of the piece, and the dialogue after
  -- them has the answer that the offer is queued; but nobody was handed what was to be written.
  pub record CutsTalk (said : Said) (piece : List ℕ) (old new : Kept D) : Type 0 where
    pub used : ℕ
    pub within : used ≤ length piece
    pub later : Said
    pub input : later.input ≡ said.input ++ take used piece
    pub unwritten : List ℕ
    pub output : later.output ≡ said.output ++ unwritten
    pub dialogue : IsDialogue (setup_for config peer) later
    pub refused : List Offered
    pub no_room : HaveNoRoom old refused
    pub offer : Offered
    pub answers : AnswersMore said later refused (offer ∷ []) (Queued (length changes + 1) ∷ [])
    pub accept : Accept
    pub fits : FitsIn old offer accept
    pub cuts : Cuts honest words new changes (change.Accept accept) used

-- what a call did to the queue that accepted mail under this number, or none
abbrev pub TakesIn : Queue → Option ℕ → Queue → Type 0
TakesIn old None new = new ≡ old
TakesIn old (Some number) new =
    (accept : Accept) × (number ≡ old.next) × (new ≡ step old (change.Accept accept))

-- octets of the piece were used: where a change was made, one at least, and where none was and nothing
-- closed, all; no call of the device has failed
pub record UsesOctets {D : Type 0} (words : DiskWords D) (len : ℕ) (old new : Kept D) (received : Received)
    : Type 0 where
  pub within : received.used ≤ len
  pub some : received.change ≢ None → 0 < received.used
  pub whole : received.change ≡ None → received.close ≡ false → received.used ≡ len
  pub failures : FailsNot words old.spool.disk new.spool.disk

-- whatever was said before, a session was heard: octets were used, mail was accepted or not, and something was said on
-- it
pub record IsHeard {D : Type 0} (words : DiskWords D) (config : Config) (peer : List ℕ) (len : ℕ) (old new : Kept D)
    (session : Session) (received : Received) : Type 0 where
  pub used : UsesOctets words len old new received
  pub takes : TakesIn old.queue received.change new.queue
  pub history : HasHistory config peer session

-- A call on the session or the attempt of a number is refused so: by a stopped node always, and nothing changes; and by
-- a live one as unknown exactly if the number is free, and each fault leaves this.
pub record RefusesAt {D T : Type 0} (old new : NodeState D) (IsFreeNumber : Type 0) (Leaves : NodeFault → Type 0)
    (result : Result T NodeFault) : Type 0 where
  pub refused : old.records.spool.live ≡ true → IfErr result Leaves
  pub stopped : old.records.spool.live ≡ false → (result ≡ Err Stopped) × (new ≡ old)
  pub unknown : (result ≡ Err Unknown) ↔ ((old.records.spool.live ≡ true) × IsFreeNumber)

-- a node with room for 64 sessions and 64 attempts, and without one, and without a note
pub record IsIdle {D : Type 0} (config : Config) (node : NodeState D) : Type 0 where
  pub config_is : node.config ≡ config
  pub free : AreFree node.seats
  pub none_runs : AreFree node.attempts
  pub places : HasPlaces node.seats × HasPlaces node.attempts
  pub noted : node.records.noted ≡ None

-- all but the disks is the same
pub record IsFused {D : Type 0} (old new : Kept D) : Type 0 where
  pub size : new.spool.size ≡ old.spool.size
  pub live : new.spool.live ≡ old.spool.live
  pub queue : new.queue ≡ old.queue
  pub noted : new.noted ≡ old.noted

-- why no node is made on two disks: lack of memory leaves them as they were
abbrev pub RefusesToMake : {D : Type 0} → Type 0 → DiskWords D → Disks D → Disks D → Cause → Type 0
RefusesToMake honest words old new cause =
    ((cause ≡ Spool spool_fault.NoMemory) × (new ≡ old)) ⊎ RefusesDisk honest words old new cause

-- the least free number has a session, and its client was greeted
pub record Connects {D : Type 0} (peer : List ℕ) (old new : NodeState D) (connected : Connected) : Type 0 where
  pub free : IsLeastFree old.seats connected.session
  pub says : SeatHasSaid old.config new.seats connected.session peer (greeted_by connected.out.items)
  pub others : OthersStay old.seats new.seats connected.session

-- what a refused connection leaves
abbrev pub RefusesToConnect : {D : Type 0} → NodeState D → NodeState D → NodeFault → Type 0
RefusesToConnect old new NoMemory = new ≡ old
RefusesToConnect old new Stopped = new ≡ old
RefusesToConnect old new TooMany = new ≡ old
RefusesToConnect old new other = ⊥

-- what an `ended` leaves that is refused by a live node
abbrev pub RefusesToEnd : {D : Type 0} → NodeState D → NodeState D → NodeFault → Type 0
RefusesToEnd old new Unknown = new ≡ old
RefusesToEnd old new other = ⊥

-- the session is gone, and the records are unchanged
pub record IsGone {D : Type 0} (number : ℕ) (old new : NodeState D) : Type 0 where
  pub session : slot_at new.seats number ≡ None
  pub records : new.records ≡ old.records

-- what a `receive` leaves that is refused by a live node
abbrev pub RefusesToReceive : {D : Type 0} → DiskWords D → ℕ → NodeState D → NodeState D → NodeFault → Type 0
RefusesToReceive words number old new NoMemory = IsGone number old new
RefusesToReceive words number old new Stopped = IsStopped words 4 old.records new.records
RefusesToReceive words number old new Unknown = new ≡ old
RefusesToReceive words number old new Full = IsGone number old new × (2 ^ 62 < old.records.queue.next)
RefusesToReceive words number old new other = ⊥

-- the same of the records alone
abbrev pub RefusesToHear : {D : Type 0} → DiskWords D → Kept D → Kept D → NodeFault → Type 0
RefusesToHear words old new NoMemory = new ≡ old
RefusesToHear words old new Stopped = IsStopped words 4 old new
RefusesToHear words old new Full = (new ≡ old) × (2 ^ 62 < old.queue.next)
RefusesToHear words old new other = ⊥
