-- The invariant of two relays. It ties each node to its list of changes, each end of a link to what it has read and
-- written, and the ledger to the lists of changes.
use Rattle.std.specs.Prelude.{◌≡◌, ◌⊎◌, ℕ, ◌+◌, ◌≤◌, Bool, true, false, List, [], ◌∷◌, ◌++◌, length, map, take, Option}
use Rattle.std.specs.Prelude.{Some, None, slice_get}
use Rattle.std.specs.List.{AllByRecursion}
use Rattle.relay_octets.specs.Beginning.{Begins}
use Rattle.relay_disk.specs.Device.{DiskWords}
use Rattle.relay_disk.specs.declared.disks.Disks.{Disks}
use Rattle.relay_spool.specs.Spool.{EveryImageHas}
use Rattle.relay_lines.specs.Reply.{Reply}
use Rattle.relay_routes.specs.declared.config.Config.{Config}
use Rattle.relay_server.specs.Dialogue.{IsDialogue, Offered, Said}
use Rattle.relay_server.specs.DialogueLaws.{AreNumbered}
use Rattle.relay_server.specs.Setup.{setup_for}
use Rattle.relay_book.specs.declared.change.Accept.{Accept}
use Rattle.relay_book.specs.declared.change.Change.{Change}
use Rattle.relay_book.specs.declared.change.Change.TheVariants as change
use Rattle.relay_book.specs.declared.change.Verdict.{Verdict}
use Rattle.relay_book.specs.Marks.{change_at, message_at}
use Rattle.relay_book.specs.Queue.{Fitting}
use Rattle.relay_book.specs.Record.{IsAccept, encode}
use Rattle.relay_book.specs.StandsFor.{StandsFor}
use Rattle.relay_records.specs.declared.noted.Noted.{Noted}
use Rattle.relay_records.specs.Records.{Keeps}
use Rattle.relay_report.specs.Report.{Reported, Reporter, reporter_of}
use Rattle.relay_course.specs.Course.{IsCourse}
use Rattle.relay_course.specs.Laws.{AreWithin}
use Rattle.relay_attempts.specs.Outcomes.{outcome_of, rulings_of}
use Rattle.relay_attempts.specs.Reply.{Told}
use Rattle.relay_attempts.specs.AddedOutcome.{reported_as}
use Rattle.relay_node.specs.Acceptance.{IsAcceptOf, acceptance_by}
use Rattle.relay_node.specs.Attempts.{Tells}
use Rattle.relay_node.specs.Node.{SeatHasSaid, NodeState}
use Rattle.relay_node.specs.Queued.{queued_in}
use Rattle.relay_meeting.specs.Joined.{MayClose, output_with}
use Rattle.relay_world.specs.declared.attempt.Attempt.{Attempt}
use Rattle.relay_world.specs.declared.attempt.Fate.{Fate}
use Rattle.relay_world.specs.declared.attempt.Fate.TheVariants.{Running, Replied, Lost, Dropped}
use Rattle.relay_world.specs.declared.line.Line.{Line}
use Rattle.relay_world.specs.declared.line.Line.TheVariants.{Accepted, Became}
use Rattle.relay_world.specs.declared.link.Link.{Link}
use Rattle.relay_world.specs.declared.link.ServerEnd.{ServerEnd}
use Rattle.relay_world.specs.Ledger.{accepts_on, lines_by, lines_of, steps_by, steps_in, steps_of}
use Rattle.relay_world.specs.World.{Down, FromClient, FromLoss, FromGivingUp, FromReplies, HostState, Host, Origin}
use Rattle.relay_world.specs.World.{Undecided, Up, World, link_at}

-- the records encode this list of changes
pub record IsListOf (records : List (List ℕ)) (changes : List Change) : Type 0 where
  pub fitting : Fitting changes
  pub records_are : records ≡ map encode changes

-- each outcome among the changes after these has the report that is owed, or none if none is owed
abbrev pub ReportsAfter : Reporter → List Change → List Change → Type 0
ReportsAfter reporter front [] = Unit {0}
ReportsAfter reporter front (change ∷ changes) =
    Reported reporter front change × ReportsAfter reporter (front ++ change ∷ []) changes

-- the change that the next opening decides has this record
abbrev pub IsUndecided : Option Undecided → Change → Type 0
IsUndecided None change = ⊥
IsUndecided (Some undecided) change = undecided.note.octets ≡ encode change

-- the bodies encode these changes, or these followed by the undecided one
abbrev pub StandsForUnlessDecided : List Change → Option Undecided → List (List ℕ) → Type 0
StandsForUnlessDecided changes undecided bodies =
    StandsFor bodies changes
    ⊎ ((change : Change) × IsUndecided undecided change × StandsFor bodies (changes ++ change ∷ []))

module _ {D : Type 0} (honest : Type 0) (words : DiskWords D) where
  -- a running node has this configuration, and keeps these changes
  pub record NodeKeeps (config : Config) (node : NodeState D) (changes : List Change) : Type 0 where
    pub config_is : node.config ≡ config
    pub keeps : Keeps honest words node.records changes

  -- a node that is up keeps these changes; one that is down has disks on which a stop leaves them, with or without the
  -- undecided one
  abbrev pub StateKeeps : Config → HostState D → List Change → Type 0
  StateKeeps config (Up node) changes = NodeKeeps config node changes
  StateKeeps config (Down disk undecided) changes =
      honest → EveryImageHas words disk (StandsForUnlessDecided changes undecided)

  -- the node keeps these changes, and its records encode them
  pub record HostKeeps (host : Host D) (changes : List Change) : Type 0 where
    pub list : IsListOf host.records changes
    pub holds : StateKeeps host.config host.state changes
    pub reports : ReportsAfter (reporter_of host.config) [] changes

-- a node that is up has this session, after this exchange
abbrev pub SaysThere : {D : Type 0} → Host D → Option ℕ → List ℕ → Said → Type 0
SaysThere {D} host None peer said = Unit {0}
SaysThere {D} host (Some session) peer said =
    (node : NodeState D) × (host.state ≡ Up node) × SeatHasSaid host.config node.seats session peer said

-- a session that goes on wasn't closed unasked by the server
abbrev pub MayHaveClosed : Option ℕ → Option Reply → Type 0
MayHaveClosed session None = Unit {0}
MayHaveClosed None (Some reply) = Unit {0}
MayHaveClosed (Some session) (Some reply) = ⊥

-- the change of this number accepts the offer, from this address
pub record IsStoredAs (config : Config) (peer : List ℕ) (changes : List Change) (number : ℕ) (offer : Offered)
    : Type 0 where
  pub accept : Accept
  pub found : change_at changes number ≡ Some (change.Accept accept)
  pub at : ℕ
  pub is : IsAcceptOf (acceptance_by config peer number at) offer accept

-- the change of the offer's number accepts it
abbrev pub IsStored : Config → List ℕ → List Change → ℕ × Offered → Type 0
IsStored config peer changes one = IsStoredAs config peer changes one.0 one.1

-- The server end of a link, at a node that keeps these changes. What it has read and written is a dialogue, after which
-- it may have closed unasked with one more reply; on an unbroken link all of that was written. The accepts on the link
-- are the queued offers, in order, and each is stored.
pub record ServesLink {D : Type 0} (host : Host D) (changes : List Change) (ledger : List Line) (number : ℕ)
    (link : Link)
    (end : ServerEnd) : Type 0 where
  pub said : Said
  pub dialogue : IsDialogue (setup_for host.config end.peer) said
  pub numbered : AreNumbered said.answers
  pub answered : length said.answers ≡ length said.offers
  pub input : said.input ≡ take link.up_read link.up
  pub closing : Option Reply
  pub closes : MayClose said closing
  pub closed : MayHaveClosed end.session closing
  pub wrote : Begins link.down (output_with said.output closing)
  pub whole : link.broken ≡ false → link.down ≡ output_with said.output closing
  pub accepts : accepts_on number ledger ≡ map (λ one. (one.0, length one.1.envelope.recipients)) (queued_in said)
  pub stored : AllByRecursion (IsStored host.config end.peer changes) (queued_in said)
  pub live : SaysThere host end.session end.peer said

-- the history of an attempt
abbrev pub told_by : Attempt → Accept → List ℕ → List ℕ → Told
told_by attempt accept input output = record {
  message = attempt.message;
  hop = attempt.hop;
  places = attempt.places.items;
  envelope = accept.envelope;
  text = accept.stored_text;
  input = input;
  output = output;
}

-- the change of this number is the attempt's outcome, with these verdicts
pub record IsItsOutcome (attempt : Attempt) (verdicts : List Verdict) (changes : List Change) (number : ℕ)
    : Type 0 where
  pub at : ℕ
  pub report : List ℕ
  pub found : change_at changes number
      ≡ Some (reported_as (outcome_of attempt.message at attempt.hop (rulings_of attempt.places.items verdicts)) report)

-- the state of an attempt agrees with its node: whether its link was lost, and its verdicts, if it has any yet
abbrev pub HasFate
    : {D : Type 0} → Host D → List Change → Link → Attempt → Accept → List ℕ → Bool → Option (List Verdict) → Fate
    → Type 0
HasFate {D} host changes link attempt accept output told verdicts (Running slot) =
    (told ≡ false) × (verdicts ≡ None)
    × ((node : NodeState D) × (host.state ≡ Up node)
    × Tells host.config.host changes node.attempts slot (told_by attempt accept (take link.down_read link.down) output))
HasFate host changes link attempt accept output told verdicts (Replied number) =
    (told ≡ false) × ((all : List Verdict) × (verdicts ≡ Some all) × IsItsOutcome attempt all changes number)
HasFate host changes link attempt accept output told verdicts (Lost number) =
    (told ≡ true) × ((all : List Verdict) × (verdicts ≡ Some all) × IsItsOutcome attempt all changes number)
HasFate host changes link attempt accept output told verdicts Dropped = (told ≡ false) × (verdicts ≡ None)

-- The client end of a link, by an attempt of a node that keeps these changes. What it has read and written is the
-- course of the message, as it was accepted, for 1 to 100 of its places; on an unbroken link all of that was written.
pub record PassesOn {D : Type 0} (host : Host D) (changes : List Change) (link : Link) (attempt : Attempt)
    : Type 0 where
  pub accept : Accept
  pub accepted : message_at changes attempt.message ≡ Some accept
  pub valid : IsAccept accept
  pub some : 1 ≤ length attempt.places.items
  pub few : length attempt.places.items ≤ 100
  pub within : AreWithin attempt.places.items accept.envelope.recipients
  pub told : Bool
  pub output : List ℕ
  pub verdicts : Option (List Verdict)
  pub course : IsCourse host.config.host accept.envelope accept.stored_text attempt.places.items
      (take link.down_read link.down) told output verdicts
  pub wrote : Begins link.up output
  pub whole : link.broken ≡ false → link.up ≡ output
  pub fate : HasFate host changes link attempt accept output told verdicts attempt.fate

-- the node at this index, with its list of changes
pub record StandsAt {D : Type 0} (world : World D) (lists : List (List Change)) (node : ℕ) (host : Host D)
    (changes : List Change) : Type 0 where
  pub host_at : slice_get world.hosts node ≡ Some host
  pub list_at : slice_get lists node ≡ Some changes

-- the server end of the link is at a node, and agrees with it
pub record IsServed {D : Type 0} (world : World D) (lists : List (List Change)) (number : ℕ) (link : Link)
    (end : ServerEnd)
    : Type 0 where
  pub host : Host D
  pub changes : List Change
  pub stands : StandsAt world lists end.node host changes
  pub serves : ServesLink host changes world.ledger number link end

-- the client end of the link is an attempt of a node, at this index, and agrees with it
pub record IsTried {D : Type 0} (world : World D) (lists : List (List Change)) (number : ℕ) (link : Link) (place : ℕ)
    : Type 0 where
  pub attempt : Attempt
  pub attempt_at : slice_get world.attempts place ≡ Some attempt
  pub its_link : attempt.link ≡ number
  pub host : Host D
  pub changes : List Change
  pub stands : StandsAt world lists attempt.node host changes
  pub passes : PassesOn host changes link attempt

-- An undecided change of a node may be in its spool. The records below say that with the change the invariant would
-- hold too, for that node and for the one link that the change came from, which is broken.
module _ {D : Type 0} (world : World D) (node : ℕ) (host : Host D) (changes : List Change) (change : Change)
    (note : Noted) where
  -- It came from a client: the server end of the link, at this node and without a session, agrees with a list that has
  -- the change, after reading the octets that the note counts.
  pub record MayBeHeard (number : ℕ) : Type 0 where
    pub link : Link
    pub link_is : link_at world.links number ≡ Some link
    pub broken : link.broken ≡ true
    pub end : ServerEnd
    pub serves : link.server ≡ Some end
    pub its_node : end.node ≡ node
    pub ended : end.session ≡ None
    pub within : link.up_read + note.used ≤ length link.up
    pub with_it : ServesLink host (changes ++ change ∷ [])
        (world.ledger ++ lines_by node note (FromClient number)) number
        (record link { up_read = link.up_read + note.used }) end

  -- It is the outcome of an attempt of this node that was dropped. With the change the attempt has this state, after
  -- reading the octets that the note counts.
  pub record MayHaveEnded (number place : ℕ) (fate : Fate) : Type 0 where
    pub link : Link
    pub link_is : link_at world.links number ≡ Some link
    pub broken : link.broken ≡ true
    pub client : link.client ≡ Some place
    pub attempt : Attempt
    pub attempt_at : slice_get world.attempts place ≡ Some attempt
    pub its_node : attempt.node ≡ node
    pub dropped : attempt.fate ≡ Dropped
    pub within : link.down_read + note.used ≤ length link.down
    pub with_it : PassesOn host (changes ++ change ∷ []) (record link { down_read = link.down_read + note.used })
        (record attempt { fate = fate })

  -- the change came from there, and with it that end of the link would agree with the node
  abbrev pub MayHaveCome : Origin → Type 0
  MayHaveCome (FromClient number) = MayBeHeard number
  MayHaveCome (FromReplies number place message) = MayHaveEnded number place (Replied note.number)
  MayHaveCome (FromLoss number place message) = MayHaveEnded number place (Lost note.number)
  MayHaveCome (FromGivingUp message) = Unit {0}

-- a next change with this record may be in the spool of a node that keeps these; its steps are the lines that the
-- ledger would get
pub record MayBeIn {D : Type 0} (world : World D) (node : ℕ) (host : Host D) (changes : List Change)
    (undecided : Undecided)
    : Type 0 where
  pub change : Change
  pub octets : undecided.note.octets ≡ encode change
  pub number : undecided.note.number ≡ length changes + 1
  pub fitting : Fitting (changes ++ change ∷ [])
  pub reported : Reported (reporter_of host.config) changes change
  pub steps : steps_in node (lines_of node undecided) ≡ steps_by changes change
  pub came : MayHaveCome world node host changes change undecided.note undecided.origin

-- neither end has read more than the other wrote
pub record ReadsWithin (link : Link) : Type 0 where
  pub up : link.up_read ≤ length link.up
  pub down : link.down_read ≤ length link.down

-- the number of the link that a line names
abbrev pub link_of : Line → ℕ
link_of (Accepted node number places link) = link
link_of (Became step node number place link report) = link

-- the server end of the link is a running session of this number at this node
pub record HasSession (link : Link) (node session : ℕ) : Type 0 where
  pub end : ServerEnd
  pub serves : link.server ≡ Some end
  pub its_node : end.node ≡ node
  pub its_session : end.session ≡ Some session

-- the attempt runs under this number at this node
pub record HasSlot (attempt : Attempt) (node slot : ℕ) : Type 0 where
  pub its_node : attempt.node ≡ node
  pub runs : attempt.fate ≡ Running slot

-- the attempt at this index has its link
pub record HasLink (links : List Link) (place : ℕ) (attempt : Attempt) : Type 0 where
  pub link : Link
  pub is_there : link_at links attempt.link ≡ Some link
  pub client : link.client ≡ Some place

-- the nodes keep these lists of changes, and links and ledger agree with them
pub record IsBound {D : Type 0} (honest : Type 0) (words : DiskWords D) (world : World D) (lists : List (List Change))
    : Type 0 where
  pub even : length lists ≡ length world.hosts
  pub hosts : (node : ℕ) (host : Host D) (changes : List Change) → StandsAt world lists node host changes
      → HostKeeps honest words host changes
  -- all agrees, whether or not the next opening of a node that is down finds the undecided change
  pub may_be_in : (node : ℕ) (host : Host D) (changes : List Change) (disk : Disks D) (undecided : Undecided)
      → StandsAt world lists node host changes → host.state ≡ Down disk (Some undecided)
      → MayBeIn world node host changes undecided
  pub servers : (number : ℕ) (link : Link) (end : ServerEnd) → link_at world.links number ≡ Some link
      → link.server ≡ Some end → IsServed world lists number link end
  pub clients : (number place : ℕ) (link : Link) → link_at world.links number ≡ Some link → link.client ≡ Some place
      → IsTried world lists number link place
  pub attempts : (place : ℕ) (attempt : Attempt) → slice_get world.attempts place ≡ Some attempt
      → HasLink world.links place attempt
  pub reads : (number : ℕ) (link : Link) → link_at world.links number ≡ Some link → ReadsWithin link
  pub ledger : (node : ℕ) (changes : List Change) → slice_get lists node ≡ Some changes
      → steps_in node world.ledger ≡ steps_of changes
  pub lines : AllByRecursion (λ line. link_of line ≤ length world.links) world.ledger
  -- a session belongs to one link, and the number of an attempt to one attempt
  pub sessions : (one other : ℕ) (link others : Link) (node session : ℕ) → link_at world.links one ≡ Some link
      → link_at world.links other ≡ Some others → HasSession link node session → HasSession others node session
      → one ≡ other
  pub slots : (one other : ℕ) (attempt others : Attempt) (node slot : ℕ) → slice_get world.attempts one ≡ Some attempt
      → slice_get world.attempts other ≡ Some others → HasSlot attempt node slot → HasSlot others node slot
      → one ≡ other
