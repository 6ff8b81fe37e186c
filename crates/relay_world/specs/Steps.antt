-- The events of two relays and their links.
use Rattle.std.specs.Prelude.{◌≡◌, ◌≢◌, ◌⊎◌, ◌≤◌, ℕ, ◌+◌, suc, Bool, true, false, List, [], ◌∷◌, ◌++◌, length, take}
use Rattle.std.specs.Prelude.{drop, Option, Some, None, if◌then◌else◌, slice_get}
use Rattle.relay_lines.specs.Reply.{IsReply, Reply, reply_text}
use Rattle.relay_disk.specs.Device.{DiskWords}
use Rattle.relay_book.specs.declared.change.Change.{Change}
use Rattle.relay_attempts.specs.declared.reply.Replied.{Replied}
use Rattle.relay_attempts.specs.Reply.{IsLost, Told}
use Rattle.relay_attempts.specs.declared.start.Started.{Started}
use Rattle.relay_node.specs.Attempts.{Begins, Replies, Tells}
use Rattle.relay_node.specs.declared.node.Connected.{Connected}
use Rattle.relay_node.specs.declared.receive.Received.{Received}
use Rattle.relay_node.specs.Node.{Connects, Receives, SeatHasSaid, NodeState}
use Rattle.relay_records.specs.declared.noted.Noted.{Noted}
use Rattle.relay_records.specs.Records.{Keeps}
use Rattle.relay_server.specs.Dialogue.{Said}
use Rattle.relay_slots.specs.Slots.{OthersStay, slot_at}
use Rattle.relay_world.specs.declared.attempt.Attempt.{Attempt}
use Rattle.relay_world.specs.declared.attempt.Fate.{Fate}
use Rattle.relay_world.specs.declared.attempt.Fate.TheVariants.{Running, Replied as RepliedBy, Lost as LostBy, Dropped}
use Rattle.relay_world.specs.declared.line.Line.TheVariants.{Accepted}
use Rattle.relay_world.specs.declared.link.Link.{Link}
use Rattle.relay_world.specs.declared.link.ServerEnd.{ServerEnd}
use Rattle.relay_world.specs.Bound.{IsBound}
use Rattle.relay_world.specs.Ledger.{left_lines, report_told}
use Rattle.relay_world.specs.GivingUp.{AddsGivenUp, AreFree, Reason}
use Rattle.relay_world.specs.HopLinks.{IsLinkedToHop}
use Rattle.relay_world.specs.World.{Host, Up, World, link_at}
use Rattle.relay_report.specs.Report.{reporter_of}

-- the value is at this index: it replaced another, or was appended; all others are the same
pub record IsPut {A : Type 0} (old new : List A) (place : ℕ) (value : A) : Type 0 where
  pub at : slice_get new place ≡ Some value
  pub others : (other : ℕ) → other ≢ place → slice_get new other ≡ slice_get old other

-- this link has this number; all others are the same
pub record IsPutAt (old new : List Link) (number : ℕ) (link : Link) : Type 0 where
  pub at : link_at new number ≡ Some link
  pub others : (other : ℕ) → other ≢ number → link_at new other ≡ link_at old other
  pub grows : length old ≤ length new

-- the session at the server end of a link, at a node that is up
pub record SessionOf {D : Type 0} (world : World D) (number : ℕ) : Type 0 where
  pub link : Link
  pub link_is : link_at world.links number ≡ Some link
  pub end : ServerEnd
  pub serves : link.server ≡ Some end
  pub session : ℕ
  pub goes_on : end.session ≡ Some session
  pub host : Host D
  pub host_at : slice_get world.hosts end.node ≡ Some host
  pub before : NodeState D
  pub up : host.state ≡ Up before

-- the running attempt at the client end of a link, at a node that is up
pub record AttemptOf {D : Type 0} (world : World D) (number : ℕ) : Type 0 where
  pub link : Link
  pub link_is : link_at world.links number ≡ Some link
  pub place : ℕ
  pub client : link.client ≡ Some place
  pub attempt : Attempt
  pub attempt_at : slice_get world.attempts place ≡ Some attempt
  pub slot : ℕ
  pub runs : attempt.fate ≡ Running slot
  pub host : Host D
  pub host_at : slice_get world.hosts attempt.node ≡ Some host
  pub before : NodeState D
  pub up : host.state ≡ Up before

-- a link that a client outside has opened to a node, with the node's greeting
abbrev pub opened_link : ℕ → List ℕ → Connected → Link
opened_link node peer connected = record {
  client = None;
  server = Some (record { node = node; peer = peer; session = Some connected.session });
  up = [];
  up_read = 0;
  down = connected.out.items;
  down_read = 0;
  broken = false;
}

-- Outside has opened a link to a node that is up, with this client address; the link has the next number.
pub record HasOpened {D : Type 0} (old new : World D) (node : ℕ) (peer : List ℕ) : Type 0 where
  pub host : Host D
  pub host_at : slice_get old.hosts node ≡ Some host
  pub before : NodeState D
  pub up : host.state ≡ Up before
  pub after : NodeState D
  pub connected : Connected
  pub connects : Connects peer before after connected
  pub records : after.records ≡ before.records
  pub config : after.config ≡ before.config
  pub attempts : after.attempts ≡ before.attempts
  pub hosts : IsPut old.hosts new.hosts node (record host { state = Up after })
  pub links : IsPutAt old.links new.links (suc (length old.links)) (opened_link node peer connected)
  pub rest : (new.attempts ≡ old.attempts) × (new.ledger ≡ old.ledger) × (new.clock ≡ old.clock)
      × (length new.hosts ≡ length old.hosts)

-- the link after the client, or the server, wrote these octets
abbrev pub written_up : Link → List ℕ → Link
written_up link octets = record link { up = link.up ++ octets }

abbrev pub written_down : Link → List ℕ → Link
written_down link octets = record link { down = link.down ++ octets }

-- outside writes at its end of the link: as the client if no attempt is there, else as the server if no node is there
abbrev pub WritesAs : Link → List ℕ → Link → Type 0
WritesAs old octets new =
    ((old.client ≡ None) × (new ≡ written_up old octets))
    ⊎ ((old.server ≡ None) × (new ≡ written_down old octets))

-- Outside has written octets on a link.
pub record HasWritten {D : Type 0} (old new : World D) (number : ℕ) (octets : List ℕ) : Type 0 where
  pub link : Link
  pub link_is : link_at old.links number ≡ Some link
  pub whole : link.broken ≡ false
  pub written : Link
  pub writes : WritesAs link octets written
  pub links : List Link
  pub put : IsPutAt old.links links number written
  pub new_is : new ≡ record old { links = links }

-- the octets that a call of the server end gets: this many of the unread ones, or all
abbrev pub waiting_up : ℕ → Link → List ℕ
waiting_up count link = take count (drop link.up_read link.up)

-- What an end writes in a call: nothing, if the link broke in that call.
abbrev pub unless_broken : Link → List ℕ → List ℕ
unless_broken link octets = if link.broken then [] else octets

-- The link after a call of its server end.
abbrev pub session_after : Bool → ℕ → Option ℕ
session_after true session = None
session_after false session = Some session

abbrev pub heard_link : Link → ServerEnd → ℕ → Received → Link
heard_link link end session received = record link {
  server = Some (record end { session = session_after received.close session });
  up_read = link.up_read + received.used;
  down = link.down ++ unless_broken link received.out.items;
}

-- the node, with its note taken out
abbrev pub without_note : {D : Type 0} → NodeState D → NodeState D
without_note node = record node { records = record node.records { noted = None } }

-- what a node that heard octets has recorded: nothing, or the accept of this number, whose note was taken
abbrev pub RecordsHeard : {D : Type 0} → World D → World D → ℕ → ℕ → Host D → NodeState D → Option ℕ → Type 0
RecordsHeard old new node number host after None =
    IsPut old.hosts new.hosts node (record host { state = Up after }) × (new.ledger ≡ old.ledger)
RecordsHeard old new node number host after (Some change) =
    (noted : Noted) × (after.records.noted ≡ Some noted)
    × IsPut old.hosts new.hosts node
    (record host { state = Up (without_note after); records = host.records ++ noted.octets ∷ [] })
    × (new.ledger ≡ old.ledger ++ Accepted node change noted.accepted number ∷ [])

-- A node has heard octets of a link, as many of the unread ones as were carried, in one call without a fault. What it
-- writes is on the link, unless that broke in the call.
pub record HasHeard {D : Type 0} (honest : Type 0) (words : DiskWords D) (old new : World D) (number count : ℕ)
    : Type 0 where
  pub of : SessionOf old number
  pub after : NodeState D
  pub received : Received
  pub receives : (changes : List Change) (said : Said) → Keeps honest words of.before.records changes
      → SeatHasSaid of.before.config of.before.seats of.session of.end.peer said
      → Receives honest words of.before.config changes of.end.peer old.clock of.session said
      (waiting_up count of.link) of.before after received
  pub used : received.used ≤ length (waiting_up count of.link)
  pub others : OthersStay of.before.seats after.seats of.session
  pub config : after.config ≡ of.before.config
  pub attempts : after.attempts ≡ of.before.attempts
  pub links : IsPutAt old.links new.links number (heard_link of.link of.end of.session received)
  pub records : RecordsHeard old new of.end.node number of.host after received.change
  pub rest : (new.attempts ≡ old.attempts) × (new.clock ≡ old.clock) × (length new.hosts ≡ length old.hosts)

-- what the server end has written after it closed unasked, if it did; on a broken link nothing more
abbrev pub closed_down : Link → Option Reply → List ℕ
closed_down link None = link.down
closed_down link (Some reply) = link.down ++ unless_broken link (reply_text reply)

-- the link without its session
abbrev pub ended_link : Link → ServerEnd → Option Reply → Link
ended_link link end closing =
    record link { server = Some (record end { session = None }); down = closed_down link closing }

-- The session at a link's server end is gone, also at its node, with or without one last reply of its own.
pub record EndsWith {D : Type 0} (old new : World D) (number : ℕ) (closing : Option Reply) : Type 0 where
  pub of : SessionOf old number
  pub after : NodeState D
  pub records : after.records ≡ of.before.records
  pub gone : slot_at after.seats of.session ≡ None
  pub others : OthersStay of.before.seats after.seats of.session
  pub config : after.config ≡ of.before.config
  pub attempts : after.attempts ≡ of.before.attempts
  pub hosts : IsPut old.hosts new.hosts of.end.node (record of.host { state = Up after })
  pub links : IsPutAt old.links new.links number (ended_link of.link of.end closing)
  pub rest : (new.attempts ≡ old.attempts) × (new.ledger ≡ old.ledger) × (new.clock ≡ old.clock)
      × (length new.hosts ≡ length old.hosts)

-- The session at a link's server end is gone: the connection has ended, or the node had too little memory or room for
-- it.
abbrev pub EndsSession : {D : Type 0} → World D → World D → ℕ → Type 0
EndsSession old new number = EndsWith old new number None

-- A node has cut off a client that kept it waiting for too long: its session is gone, and after whole replies there is
-- one more, of code 421 (RFC 5321, section 3.8).
pub record CutsOff {D : Type 0} (old new : World D) (number : ℕ) (reply : Reply) : Type 0 where
  pub formed : IsReply reply
  pub code : reply.code ≡ 421
  pub ends : EndsWith old new number (Some reply)

-- the octets that a call of the client end gets: this many of the unread ones, or all
abbrev pub waiting_down : ℕ → Link → List ℕ
waiting_down count link = take count (drop link.down_read link.down)

-- the link after a call of its client end
abbrev pub read_link : Link → Replied → Link
read_link link replied = record link {
  up = link.up ++ unless_broken link replied.out.items;
  down_read = link.down_read + replied.used;
}

-- what a node has recorded of an attempt that ended: its outcome, under this number, whose note was taken
pub record RecordsOutcome {D : Type 0} (old new : World D) (number : ℕ) (of : AttemptOf old number)
    (after : NodeState D) (fate : Fate) (change : ℕ) : Type 0 where
  pub noted : Noted
  pub note_is : after.records.noted ≡ Some noted
  pub hosts : IsPut old.hosts new.hosts of.attempt.node
      (record of.host { state = Up (without_note after); records = of.host.records ++ noted.octets ∷ [] })
  pub ledger : new.ledger
      ≡ old.ledger
      ++ left_lines of.attempt.node of.attempt.message number (report_told change noted.report) noted.left.items
  pub attempts : IsPut old.attempts new.attempts of.place (record of.attempt { fate = fate })

-- what a node that read replies has recorded: nothing, or the outcome of the attempt that they ended
abbrev pub RecordsRead : {D : Type 0} → (old new : World D) → (number : ℕ) → AttemptOf old number → NodeState D
    → Option ℕ → Type 0
RecordsRead old new number of after None =
    IsPut old.hosts new.hosts of.attempt.node (record of.host { state = Up after }) × (new.ledger ≡ old.ledger)
    × (new.attempts ≡ old.attempts)
RecordsRead old new number of after (Some change) =
    RecordsOutcome old new number of after (RepliedBy change) change

-- An attempt has read replies on a link, as many of the unread octets as were carried, in one call without a fault.
-- What it writes is on the link, unless that broke in the call.
pub record HasRead {D : Type 0} (honest : Type 0) (words : DiskWords D) (old new : World D) (number count : ℕ)
    : Type 0 where
  pub of : AttemptOf old number
  pub after : NodeState D
  pub replied : Replied
  pub replies : (changes : List Change) (told : Told) → Keeps honest words of.before.records changes
      → Tells of.before.config.host changes of.before.attempts of.slot told
      → Replies honest words (reporter_of of.before.config) old.clock changes of.slot told (waiting_down count of.link)
      of.before after replied
  pub used : replied.used ≤ length (waiting_down count of.link)
  pub others : OthersStay of.before.attempts after.attempts of.slot
  pub config : after.config ≡ of.before.config
  pub seats : after.seats ≡ of.before.seats
  pub links : IsPutAt old.links new.links number (read_link of.link replied)
  pub records : RecordsRead old new number of after replied.change
  pub rest : (new.clock ≡ old.clock) × (length new.hosts ≡ length old.hosts)

-- The connection of an attempt was lost, and its node has recorded the outcome, under this number.
pub record HasLost {D : Type 0} (honest : Type 0) (words : DiskWords D) (old new : World D) (number change : ℕ)
    : Type 0 where
  pub of : AttemptOf old number
  pub after : NodeState D
  pub loses : (changes : List Change) (told : Told) → Keeps honest words of.before.records changes
      → Tells of.before.config.host changes of.before.attempts of.slot told
      → IsLost honest words (reporter_of of.before.config) old.clock changes of.slot told of.before.records
      after.records
      after.attempts change
  pub others : OthersStay of.before.attempts after.attempts of.slot
  pub config : after.config ≡ of.before.config
  pub seats : after.seats ≡ of.before.seats
  pub links : new.links ≡ old.links
  pub records : RecordsOutcome old new number of after (LostBy change) change
  pub rest : (new.clock ≡ old.clock) × (length new.hosts ≡ length old.hosts)

-- An attempt is gone without an outcome, also at its node, which had too little memory or room for it.
pub record DropsAttempt {D : Type 0} (old new : World D) (number : ℕ) : Type 0 where
  pub of : AttemptOf old number
  pub after : NodeState D
  pub records : after.records ≡ of.before.records
  pub gone : slot_at after.attempts of.slot ≡ None
  pub others : OthersStay of.before.attempts after.attempts of.slot
  pub config : after.config ≡ of.before.config
  pub seats : after.seats ≡ of.before.seats
  pub hosts : IsPut old.hosts new.hosts of.attempt.node (record of.host { state = Up after })
  pub attempts : IsPut old.attempts new.attempts of.place (record of.attempt { fate = Dropped })
  pub links : new.links ≡ old.links
  pub ledger : new.ledger ≡ old.ledger
  pub rest : (new.clock ≡ old.clock) × (length new.hosts ≡ length old.hosts)

-- A link is broken. The session and the attempt at its ends go on until their nodes notice, but hear and read nothing
-- more.
pub record Breaks {D : Type 0} (old new : World D) (number : ℕ) : Type 0 where
  pub link : Link
  pub link_is : link_at old.links number ≡ Some link
  pub links : List Link
  pub put : IsPutAt old.links links number (record link { broken = true })
  pub new_is : new ≡ record old { links = links }

-- A link on which no client has written or read: it was opened to another node, or it is the next one, to outside.
pub record IsBlank {D : Type 0} (world : World D) (number : ℕ) (link : Link) : Type 0 where
  pub client : link.client ≡ None
  pub up : link.up ≡ []
  pub down_read : link.down_read ≡ 0
  pub whole : link.broken ≡ false
  pub there : (link_at world.links number ≡ Some link)
      ⊎ ((number ≡ suc (length world.links)) × (link.server ≡ None) × (link.up_read ≡ 0))

-- an attempt that has begun for places of a message, on a link
abbrev pub started_attempt : ℕ → ℕ → List ℕ → Started → ℕ → Attempt → Type 0
started_attempt node message hop started link attempt =
    (attempt.node ≡ node) × (attempt.message ≡ message) × (attempt.hop ≡ hop)
    × (attempt.places.items ≡ started.places.items) × (attempt.link ≡ link) × (attempt.fate ≡ Running started.attempt)

-- A node has begun an attempt for a message and a hop, on a link that leads there.
pub record HasStarted {D : Type 0} (honest : Type 0) (words : DiskWords D) (old new : World D) (number message : ℕ)
    (hop : List ℕ)
    : Type 0 where
  pub attempt : Attempt
  pub host : Host D
  pub host_at : slice_get old.hosts attempt.node ≡ Some host
  pub before : NodeState D
  pub up : host.state ≡ Up before
  pub after : NodeState D
  pub started : Started
  pub begins : (changes : List Change) → Keeps honest words before.records changes
      → Begins before.config changes message hop old.clock before.attempts after.attempts started
  pub records : after.records ≡ before.records
  pub config : after.config ≡ before.config
  pub seats : after.seats ≡ before.seats
  pub is_attempt : started_attempt attempt.node message hop started number attempt
  pub blank : Link
  pub is_blank : IsBlank old number blank
  pub hosts : IsPut old.hosts new.hosts attempt.node (record host { state = Up after })
  pub links : IsPutAt old.links new.links number (record blank { client = Some (length old.attempts) })
  pub attempts : IsPut old.attempts new.attempts (length old.attempts) attempt
  pub linked : IsLinkedToHop new attempt
  pub rest : (new.ledger ≡ old.ledger) × (new.clock ≡ old.clock) × (length new.hosts ≡ length old.hosts)

-- A node has given up places of a message without an attempt, in the change of this number. No link is theirs, and none
-- that the postmaster names was tried.
pub record HasGivenUp {D : Type 0} (honest : Type 0) (words : DiskWords D) (old new : World D) (reason : Reason)
    (node message change : ℕ)
    : Type 0
  where
    pub host : Host D
    pub host_at : slice_get old.hosts node ≡ Some host
    pub before : NodeState D
    pub up : host.state ≡ Up before
    pub after : NodeState D
    pub gives_up : (changes : List Change) → Keeps honest words before.records changes
        → AddsGivenUp honest words (reporter_of before.config) before.config.routes reason message old.clock changes
        before.records after.records change
    pub free : AreFree reason message before.attempts
    pub config : after.config ≡ before.config
    pub seats : after.seats ≡ before.seats
    pub attempts : after.attempts ≡ before.attempts
    pub noted : Noted
    pub note_is : after.records.noted ≡ Some noted
    pub hosts : IsPut old.hosts new.hosts node
        (record host { state = Up (without_note after); records = host.records ++ noted.octets ∷ [] })
    pub ledger : new.ledger
        ≡ old.ledger ++ left_lines node message 0 (report_told change noted.report) noted.left.items
    pub rest : (new.links ≡ old.links) × (new.attempts ≡ old.attempts) × (new.clock ≡ old.clock)
        × (length new.hosts ≡ length old.hosts)

-- The clock is set.
pub record HasTicked {D : Type 0} (old new : World D) (now : ℕ) : Type 0 where
  pub new_is : new ≡ record old { clock = now }

-- Each of these events preserves the invariant.
abbrev pub OpeningKeeps : {D : Type 0} → Type 0 → DiskWords D → Type 0
OpeningKeeps {D} honest words =
    (old new : World D) (lists : List (List Change)) (node : ℕ) (peer : List ℕ) → IsBound honest words old lists
    → HasOpened old new node peer → IsBound honest words new lists

abbrev pub WritingKeeps : {D : Type 0} → Type 0 → DiskWords D → Type 0
WritingKeeps {D} honest words =
    (old new : World D) (lists : List (List Change)) (number : ℕ) (octets : List ℕ) → IsBound honest words old lists
    → HasWritten old new number octets → IsBound honest words new lists

abbrev pub HearingKeeps : {D : Type 0} → Type 0 → DiskWords D → Type 0
HearingKeeps {D} honest words =
    (old new : World D) (lists : List (List Change)) (number count : ℕ) → IsBound honest words old lists
    → HasHeard honest words old new number count
    → (later : List (List Change)) × IsBound honest words new later

abbrev pub EndingKeeps : {D : Type 0} → Type 0 → DiskWords D → Type 0
EndingKeeps {D} honest words =
    (old new : World D) (lists : List (List Change)) (number : ℕ) → IsBound honest words old lists
    → EndsSession old new number → IsBound honest words new lists

abbrev pub CuttingOffKeeps : {D : Type 0} → Type 0 → DiskWords D → Type 0
CuttingOffKeeps {D} honest words =
    (old new : World D) (lists : List (List Change)) (number : ℕ) (reply : Reply) → IsBound honest words old lists
    → CutsOff old new number reply → IsBound honest words new lists

abbrev pub ReadingKeeps : {D : Type 0} → Type 0 → DiskWords D → Type 0
ReadingKeeps {D} honest words =
    (old new : World D) (lists : List (List Change)) (number count : ℕ) → IsBound honest words old lists
    → HasRead honest words old new number count
    → (later : List (List Change)) × IsBound honest words new later

abbrev pub LosingKeeps : {D : Type 0} → Type 0 → DiskWords D → Type 0
LosingKeeps {D} honest words =
    (old new : World D) (lists : List (List Change)) (number change : ℕ) → IsBound honest words old lists
    → HasLost honest words old new number change
    → (later : List (List Change)) × IsBound honest words new later

abbrev pub DroppingKeeps : {D : Type 0} → Type 0 → DiskWords D → Type 0
DroppingKeeps {D} honest words =
    (old new : World D) (lists : List (List Change)) (number : ℕ) → IsBound honest words old lists
    → DropsAttempt old new number → IsBound honest words new lists

abbrev pub BreakingKeeps : {D : Type 0} → Type 0 → DiskWords D → Type 0
BreakingKeeps {D} honest words =
    (old new : World D) (lists : List (List Change)) (number : ℕ) → IsBound honest words old lists
    → Breaks old new number → IsBound honest words new lists

abbrev pub StartingKeeps : {D : Type 0} → Type 0 → DiskWords D → Type 0
StartingKeeps {D} honest words =
    (old new : World D) (lists : List (List Change)) (number message : ℕ) (hop : List ℕ)
    → IsBound honest words old lists
    → HasStarted honest words old new number message hop → IsBound honest words new lists

abbrev pub GivingUpKeeps : {D : Type 0} → Type 0 → DiskWords D → Type 0
GivingUpKeeps {D} honest words =
    (old new : World D) (lists : List (List Change)) (reason : Reason) (node message change : ℕ)
    → IsBound honest words old lists → HasGivenUp honest words old new reason node message change
    → (later : List (List Change)) × IsBound honest words new later

abbrev pub TickingKeeps : {D : Type 0} → Type 0 → DiskWords D → Type 0
TickingKeeps {D} honest words =
    (old new : World D) (lists : List (List Change)) (now : ℕ) → IsBound honest words old lists
    → HasTicked old new now → IsBound honest words new lists
