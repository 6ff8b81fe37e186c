-- Each call of a relay that runs in a world is an event of the world, after which it runs there still.
use Rattle.std.specs.Prelude.{◌≡◌, ◌≢◌, ℕ, ◌-◌, false, List, [], ◌∷◌, ◌++◌, length, Option, None, Some, slice_get}
use Rattle.std.specs.Prelude.{slice_set, take}
use Rattle.relay_disk.specs.Device.{DiskWords}
use Rattle.relay_envelope.specs.HostName.{IsHostName}
use Rattle.relay_lines.specs.Reply.{Reply, one_line}
use Rattle.relay_routes.specs.declared.config.Config.{Config}
use Rattle.relay_server.specs.Dialogue.{Said}
use Rattle.relay_slots.specs.Slots.{AreFree, slot_at}
use Rattle.relay_book.specs.declared.change.Change.{Change}
use Rattle.relay_book.specs.declared.change.Withdrawal.{Withdrawal}
use Rattle.relay_records.specs.declared.noted.Noted.{Noted}
use Rattle.relay_records.specs.Staged.{Row, no_row}
use Rattle.relay_attempts.specs.declared.start.Started.{Started}
use Rattle.relay_node.specs.Node.{IsIdle}
use Rattle.relay_loop.specs.declared.clients.Heard.{Heard}
use Rattle.relay_loop.specs.declared.closing.Closing.{Closing}
use Rattle.relay_loop.specs.declared.group.Group.{Group}
use Rattle.relay_loop.specs.declared.group.Piece.{Piece}
use Rattle.relay_loop.specs.declared.hops.Answered.{Answered}
use Rattle.relay_loop.specs.declared.replying.ReplyPiece.{ReplyPiece}
use Rattle.relay_loop.specs.Called.{told_of, untold}
use Rattle.relay_loop.specs.Calls.{AcceptSays, CompactSays, DropSays, EndSays, GiveUpSays, HearSays, LoseSays}
use Rattle.relay_loop.specs.Calls.{ReplySays, StartSays, TrimSays, WithdrawSays, WroteHopSays, WroteSays}
use Rattle.relay_loop.specs.Clients.{TalksTo}
use Rattle.relay_loop.specs.Closing.{text_of}
use Rattle.relay_loop.specs.GroupCalls.{Adds, HearsGroup, TakesPiece, TakesReply}
use Rattle.relay_loop.specs.Outboxes.{unwritten_at}
use Rattle.relay_loop.specs.Relay.{OnlyClient, OnlyHop, RelayState}
use Rattle.relay_world.specs.declared.attempt.Attempt.{Attempt}
use Rattle.relay_world.specs.declared.attempt.Fate.TheVariants.{Dropped, Lost, Running}
use Rattle.relay_world.specs.declared.line.Line.{Line}
use Rattle.relay_world.specs.declared.link.Link.{Link}
use Rattle.relay_world.specs.declared.link.ServerEnd.{ServerEnd}
use Rattle.relay_world.specs.Bound.{IsBound, NodeKeeps}
use Rattle.relay_world.specs.GivingUp.{NoHop, Postmaster, Reason}
use Rattle.relay_world.specs.Groups.{HasHeardAll, HasHeardEach, HasHeardInto, HasReadInto, Piece as Carried}
use Rattle.relay_world.specs.Ledger.{left_lines, report_told}
use Rattle.relay_world.specs.Steps.{CutsOff, DropsAttempt, EndsSession, HasGivenUp, HasHeard, HasLost, HasOpened}
use Rattle.relay_world.specs.Steps.{HasRead, HasStarted, IsBlank, IsPutAt, ended_link, waiting_down}
use Rattle.relay_world.specs.Stops.{HasCompacted, StaysUp}
use Rattle.relay_world.specs.World.{Host, Up, World}
use Rattle.relay_daemon.specs.Given.{ClientWrote, ClientsWrote, HaveOnePiece, HaveOneReply, HopWrote, HopsWrote}
use Rattle.relay_daemon.specs.Given.{KnowsAttempt, KnowsSession}
use Rattle.relay_daemon.specs.Runs.{ReachesHop, RunsAt, ServesClient, host_with, host_with_note, with_host}

module _ {D : Type 0} (world : World D) (node : ℕ) (old new : RelayState D) (runs : RunsAt world node old) where
  -- the world in which the host of a running relay has the relay's node as it is now
  abbrev pub moved : World D
  moved = with_host world node (host_with runs.host new.node)

  -- the same, with a client's link from outside, on which the node has written these octets
  abbrev pub greeted_link : List ℕ → ℕ → Link
  greeted_link peer session = record {
    client = None;
    server = Some (record { node = node; peer = peer; session = Some session });
    up = [];
    up_read = 0;
    down = unwritten_at new.clients session;
    down_read = 0;
    broken = false;
  }

  abbrev pub opened : List ℕ → ℕ → World D
  opened peer session = record moved { links = world.links ++ greeted_link peer session ∷ [] }

  -- the same, with the session of a link gone, after one more reply of the node or none
  abbrev pub ended : (number : ℕ) → Link → ServerEnd → Option Reply → World D
  ended number link end closing =
      record moved { links = slice_set world.links (number - 1) (ended_link link end closing) }

  -- the same, with an attempt more, on a link
  abbrev pub begun_attempt : ℕ → List ℕ → Started → ℕ → Attempt
  begun_attempt message hop started number = record {
    node = node;
    message = message;
    hop = hop;
    places = started.places;
    link = number;
    fate = Running started.attempt;
  }

  abbrev pub begun : ℕ → List ℕ → Started → ℕ → List Link → World D
  begun message hop started number links = record moved {
    links = links;
    attempts = world.attempts ++ begun_attempt message hop started number ∷ [];
  }

  -- the same, where the node's note of a change was taken and recorded, with the lines of the places that were given up
  abbrev pub recorded : Noted → List Line → World D
  recorded noted lines = record (with_host world node (host_with_note runs.host new.node noted)) {
    ledger = world.ledger ++ lines;
  }

  abbrev pub lines_given_up : ℕ → ℕ → Noted → List Line
  lines_given_up message change noted =
      left_lines node message 0 (report_told change noted.report) noted.left.items

  -- The relay has given up places of a message without an attempt for this reason, in its world: it runs there once the
  -- note was taken.
  pub record GivesUpThere (honest : Type 0) (words : DiskWords D) (reason : Reason) (message change : ℕ) : Type 0 where
    pub noted : Noted
    pub note_is : new.node.records.noted ≡ Some noted
    pub event : HasGivenUp honest words world (recorded noted (lines_given_up message change noted)) reason node
        message change
    pub runs_on : RunsAt (recorded noted (lines_given_up message change noted)) node (untold new)

-- the lines of an attempt that has ended
abbrev pub lines_ended : Attempt → ℕ → Noted → List Line
lines_ended attempt change noted =
    left_lines attempt.node attempt.message attempt.link (report_told change noted.report) noted.left.items

-- the world of a relay that has recorded the outcome of an attempt, which is now this
abbrev pub fated : {D : Type 0} → (world : World D) (node : ℕ) (old new : RelayState D) → RunsAt world node old → ℕ
    → Attempt → Noted → List Line → World D
fated world node old new runs place attempt noted lines =
    record (recorded world node old new runs noted lines) { attempts = slice_set world.attempts place attempt }

-- the world of a relay that has dropped this attempt
abbrev pub dropped_in : {D : Type 0} → (world : World D) (node : ℕ) (old new : RelayState D) → RunsAt world node old
    → ℕ → Attempt → World D
dropped_in world node old new runs place attempt = record (moved world node old new runs) {
  attempts = slice_set world.attempts place (record attempt { fate = Dropped });
}

-- The relay has recorded the loss of an attempt's connection in its world: it runs there once the note was taken.
pub record LosesThere {D : Type 0} (world : World D) (node : ℕ) (old new : RelayState D) (runs : RunsAt world node old)
    (honest : Type 0) (words : DiskWords D) (slot : ℕ) (waiting : List ℕ)
    (reaches : ReachesHop world node slot waiting) (change : ℕ) : Type 0 where
  pub noted : Noted
  pub note_is : new.node.records.noted ≡ Some noted
  pub event : HasLost honest words world
      (fated world node old new runs reaches.place (record reaches.attempt { fate = Lost change }) noted
      (lines_ended reaches.attempt change noted)) reaches.attempt.link change
  pub runs_on : RunsAt
      (fated world node old new runs reaches.place (record reaches.attempt { fate = Lost change }) noted
      (lines_ended reaches.attempt change noted)) node (untold new)

-- the link leads to the node of the hop's name, for the host at this index, or to outside if no node has the name
pub record LeadsToHop {D : Type 0} (world : World D) (opener : Host D) (hop : List ℕ) (link : Link) : Type 0 where
  pub to_node : (node : ℕ) (host : Host D) → slice_get world.hosts node ≡ Some host → host.config.host ≡ hop
      → (end : ServerEnd) × (link.server ≡ Some end) × (end.node ≡ node)
      × (end.peer ≡ opener.config.listen.ip.octets)
  pub to_outside : ((node : ℕ) (host : Host D) → slice_get world.hosts node ≡ Some host → host.config.host ≢ hop)
      → link.server ≡ None

-- What is known of a client's connection whose link is whole: the node keeps changes, and the session has had an
-- exchange, of which the input is what was read of the link, and the output is what was written on it. This much of the
-- output was written to the connection.
pub record TalksThere {D : Type 0} (honest : Type 0) (words : DiskWords D) (world : World D) (node session : ℕ)
    (waiting : List ℕ) (relay : RelayState D) (config : Config) (serves : ServesClient world node session waiting)
    : Type 0 where
  pub changes : List Change
  pub said : Said
  pub written : List ℕ
  pub keeps : NodeKeeps honest words config relay.node changes
  pub talks : TalksTo changes relay session serves.has.end.peer said written
  pub read : said.input ≡ take serves.link.up_read serves.link.up
  pub wrote : serves.link.down ≡ written ++ waiting

-- This is so of each connection of a relay that runs in a bound world.
abbrev pub ConnectionsTalk : {D : Type 0} → Type 0 → DiskWords D → Type 0
ConnectionsTalk {D} honest words =
    (world : World D) (lists : List (List Change)) (node session : ℕ) (waiting : List ℕ) (relay : RelayState D)
    → IsBound honest words world lists → (runs : RunsAt world node relay)
    → (serves : ServesClient world node session waiting) → slot_at relay.clients session ≡ Some waiting
    → serves.link.broken ≡ false
    → TalksThere honest words world node session waiting relay runs.host.config serves

-- A relay that begins without connections, with a node that was just opened, runs in a world whose host is up with it.
abbrev pub BeginningRuns : Type 0 → Type 0
BeginningRuns D =
    (world : World D) (node : ℕ) (host : Host D) (config : Config) (relay : RelayState D)
    → slice_get world.hosts node ≡ Some host → host.state ≡ Up relay.node → IsIdle config relay.node
    → AreFree relay.clients → AreFree relay.hops → RunsAt world node relay

-- A relay that has compacted its spool has compacted it in its world.
abbrev pub CompactingIsAnEvent : {D : Type 0} → Type 0 → DiskWords D → Type 0
CompactingIsAnEvent {D} honest words =
    (world : World D) (node : ℕ) (old new : RelayState D) (runs : RunsAt world node old)
    → CompactSays honest words old new
    → HasCompacted honest words world (moved world node old new runs) node
    × RunsAt (moved world node old new runs) node new

-- One that has shortened its spare disk stays up, and keeps its changes.
abbrev pub TrimmingGoesOn : {D : Type 0} → Type 0 → DiskWords D → Type 0
TrimmingGoesOn {D} honest words =
    (world : World D) (node : ℕ) (old new : RelayState D) (runs : RunsAt world node old)
    → TrimSays honest words old new
    → StaysUp honest words world (moved world node old new runs) node
    × RunsAt (moved world node old new runs) node new

-- One that has given up the places of a message that have no hop has given them up in its world.
abbrev pub GivingUpIsAnEvent : {D : Type 0} → Type 0 → DiskWords D → Type 0
GivingUpIsAnEvent {D} honest words =
    (world : World D) (lists : List (List Change)) (node message change : ℕ) (old new : RelayState D)
    (runs : RunsAt world node old) → IsBound honest words world lists
    → GiveUpSays honest words old new world.clock message change
    → GivesUpThere world node old new runs honest words NoHop message change

-- One that has withdrawn places of a message has given them up in its world, as the postmaster asked.
abbrev pub WithdrawingIsAnEvent : {D : Type 0} → Type 0 → DiskWords D → Type 0
WithdrawingIsAnEvent {D} honest words =
    (world : World D) (lists : List (List Change)) (node message change : ℕ) (withdrawal : Withdrawal)
    (places : List ℕ) (old new : RelayState D) (runs : RunsAt world node old) → IsBound honest words world lists
    → WithdrawSays honest words old new withdrawal places world.clock message change
    → GivesUpThere world node old new runs honest words (Postmaster withdrawal places) message change

-- One that has accepted a connection has opened a link from outside, which has the next number.
abbrev pub AcceptingOpens : Type 0 → Type 0
AcceptingOpens D =
    (world : World D) (node session : ℕ) (peer : List ℕ) (old new : RelayState D) (runs : RunsAt world node old)
    → AcceptSays old new peer session
    → HasOpened world (opened world node old new runs peer session) node peer
    × RunsAt (opened world node old new runs peer session) node new

-- One that has ended the session of a client has ended it in its world: the link has no session any more.
abbrev pub EndingEnds : Type 0 → Type 0
EndingEnds D =
    (world : World D) (node session : ℕ) (last : List ℕ) (old new : RelayState D) (runs : RunsAt world node old)
    → EndSays old new session last → (serves : ServesClient world node session last)
    → EndsSession world (ended world node old new runs serves.number serves.link serves.has.end None) serves.number
    × RunsAt (ended world node old new runs serves.number serves.link serves.has.end None) node new

-- One that ends the session of a client and writes the reply that closes the connection unasked has cut the client off:
-- that reply is the last that the node has written on the link.
abbrev pub CuttingOffCloses : Type 0 → Type 0
CuttingOffCloses D =
    (world : World D) (node session : ℕ) (last : List ℕ) (why : Closing) (old new : RelayState D)
    (runs : RunsAt world node old) → IsHostName old.node.config.host
    → EndSays old new session last → (serves : ServesClient world node session last)
    → CutsOff world
    (ended world node old new runs serves.number serves.link serves.has.end
    (Some (one_line 421 (old.node.config.host ++ text_of why)))) serves.number
    (one_line 421 (old.node.config.host ++ text_of why))
    × RunsAt
    (ended world node old new runs serves.number serves.link serves.has.end
    (Some (one_line 421 (old.node.config.host ++ text_of why)))) node new

-- One that has begun an attempt over a link on which no client has written, and which leads to the hop, has begun it
-- there.
abbrev pub StartingStarts : {D : Type 0} → Type 0 → DiskWords D → Type 0
StartingStarts {D} honest words =
    (world : World D) (node message number : ℕ) (hop : List ℕ) (started : Started) (old new : RelayState D)
    (runs : RunsAt world node old) (blank : Link) (links : List Link)
    → StartSays honest words old new message hop world.clock started → IsBlank world number blank
    → LeadsToHop world runs.host hop blank
    → IsPutAt world.links links number (record blank { client = Some (length world.attempts) })
    → HasStarted honest words world (begun world node old new runs message hop started number links) number message hop
    × RunsAt (begun world node old new runs message hop started number links) node new

-- One that has heard octets of a client, all of which were unread on its link, has heard them there: what it writes is
-- on the link, and the accept is recorded if mail was accepted.
abbrev pub HearingHears : {D : Type 0} → Type 0 → DiskWords D → Type 0
HearingHears {D} honest words =
    (world : World D) (lists : List (List Change)) (node session : ℕ) (octets : List ℕ) (heard : Heard)
    (old new : RelayState D) → RunsAt world node old → IsBound honest words world lists
    → (wrote : ClientWrote world node session octets)
    → HearSays honest words old new world.clock session octets heard
    → (next : World D) × HasHeard honest words world next wrote.serves.number (length octets)
    × RunsAt next node (told_of heard.change new)

-- One that has read replies of a hop, all of which were unread on the attempt's link, has read them there: what the
-- attempt writes is on the link, and its outcome is recorded if they ended it.
abbrev pub ReplyingReads : {D : Type 0} → Type 0 → DiskWords D → Type 0
ReplyingReads {D} honest words =
    (world : World D) (lists : List (List Change)) (node slot : ℕ) (octets : List ℕ) (answered : Answered)
    (old new : RelayState D) (runs : RunsAt world node old) → IsBound honest words world lists
    → (reaches : ReachesHop world node slot []) → slot_at old.hops slot ≡ Some []
    → waiting_down (length octets) reaches.link ≡ octets
    → ReplySays honest words old new world.clock slot octets answered
    → (next : World D) × HasRead honest words world next reaches.attempt.link (length octets)
    × RunsAt next node (told_of answered.change new)

-- One that has refused replies of a hop, or the loss of the connection to it, for lack of memory or of room has dropped
-- the attempt.
abbrev pub RefusingDrops : Type 0 → Type 0
RefusingDrops D =
    (world : World D) (node slot : ℕ) (waiting : List ℕ) (old new : RelayState D) (runs : RunsAt world node old)
    (reaches : ReachesHop world node slot waiting) → DropSays old new slot
    → DropsAttempt world (dropped_in world node old new runs reaches.place reaches.attempt) reaches.attempt.link
    × RunsAt (dropped_in world node old new runs reaches.place reaches.attempt) node new

-- One that has written out octets that were unwritten runs on in the same world, where they were written already.
abbrev pub WritingOutStays : Type 0 → Type 0
WritingOutStays D =
    (world : World D) (node session count : ℕ) (old new : RelayState D) → RunsAt world node old
    → WroteSays old new session count → RunsAt world node new

abbrev pub WritingToHopsStays : Type 0 → Type 0
WritingToHopsStays D =
    (world : World D) (node slot count : ℕ) (old new : RelayState D) → RunsAt world node old
    → WroteHopSays old new slot count → RunsAt world node new

-- One that has recorded the loss of the connection to a hop has recorded it in its world.
abbrev pub LosingIsAnEvent : {D : Type 0} → Type 0 → DiskWords D → Type 0
LosingIsAnEvent {D} honest words =
    (world : World D) (lists : List (List Change)) (node slot change : ℕ) (waiting : List ℕ) (old new : RelayState D)
    (runs : RunsAt world node old) → IsBound honest words world lists
    → (reaches : ReachesHop world node slot waiting) → LoseSays honest words old new world.clock slot change
    → LosesThere world node old new runs honest words slot waiting reaches change

-- One that hears octets of a client in a group, all of which were unread on its link, has heard them there; what it
-- writes is on the link, and has still to be written to the connection.
abbrev pub HearingIntoHears : {D : Type 0} → Type 0 → DiskWords D → Type 0
HearingIntoHears {D} honest words =
    (world : World D) (node at : ℕ) (piece : Piece) (row left : Row) (heard : Heard) (old new : RelayState D)
    → RunsAt world node old → (wrote : ClientWrote world node piece.session piece.octets.now)
    → KnowsSession honest words old row piece.session → TakesPiece honest words at old row new left piece heard
    → OnlyClient old new piece.session
    → (next : World D)
    × HasHeardInto honest words at world next node
    (record { number = wrote.serves.number; count = length piece.octets.now }) row left
    × RunsAt next node new

-- One that reads replies of a hop in a group, all of which were unread on the attempt's link, has read them there.
abbrev pub ReadingIntoReads : {D : Type 0} → Type 0 → DiskWords D → Type 0
ReadingIntoReads {D} honest words =
    (world : World D) (node at : ℕ) (reply : ReplyPiece) (row left : Row) (answered : Answered)
    (old new : RelayState D) → RunsAt world node old → (wrote : HopWrote world node reply.attempt reply.octets.now)
    → KnowsAttempt honest words old row reply.attempt → TakesReply honest words at old row new left reply answered
    → OnlyHop old new reply.attempt
    → (next : World D)
    × HasReadInto honest words at world next node
    (record { number = wrote.reaches.attempt.link; count = length reply.octets.now }) row left
    × RunsAt next node new

-- One that has processed pieces and replies one after another, and then added the changes of all of them to its spool,
-- has heard and read them in its world, in one event.
abbrev pub SettlingHearsAll : {D : Type 0} → Type 0 → DiskWords D → Type 0
SettlingHearsAll {D} honest words =
    (world heard : World D) (node : ℕ) (carried : List Carried) (row : Row) (old before new : RelayState D)
    → RunsAt world node old → (there : RunsAt heard node before)
    → HasHeardEach honest words world.clock world heard node carried no_row row → Adds honest words before row new
    → HasHeardAll honest words world (moved heard node before new there) node carried
    × RunsAt (moved heard node before new there) node new

-- One that was given octets of several clients and next hops in one call, each the first unread ones on its link, has
-- heard and read them in its world, in one event. Those that it left unread aren't part of the event; where it lacked
-- memory or room for one, that session has ended, or that attempt was dropped.
abbrev pub HearingAllIsAnEvent : {D : Type 0} → Type 0 → DiskWords D → Type 0
HearingAllIsAnEvent {D} honest words =
    (world : World D) (lists : List (List Change)) (node : ℕ) (pieces : List Piece) (replies : List ReplyPiece)
    (group : Group) (old new : RelayState D) → RunsAt world node old → IsBound honest words world lists
    → HaveOnePiece pieces → HaveOneReply replies → ClientsWrote world node old pieces
    → HopsWrote world node old replies → HearsGroup honest words world.clock pieces replies old new group
    → (carried : List Carried) × (next : World D) × HasHeardAll honest words world next node carried
    × RunsAt next node new
