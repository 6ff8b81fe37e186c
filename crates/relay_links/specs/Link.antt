-- What a link over a reader and a writer has done: a dialogue, and a change of the node for each offer that was queued.
use Rattle.std.specs.Prelude.{◌≡◌, ◌⊎◌, ◌<◌, ◌^◌, ℕ, Option, Some, List, [], ◌∷◌, ◌++◌, length, Bool, true, false}
use Rattle.std.specs.Prelude.{Result, MatchResult}
use Rattle.std.specs.Io.KnownBytes.{Appends, Consumes, IsAtEnd}
use Rattle.relay_disk.specs.Device.{DiskWords}
use Rattle.relay_routes.specs.declared.config.Config.{Config}
use Rattle.relay_server.specs.Dialogue.{Said, IsDialogue}
use Rattle.relay_server.specs.Setup.{setup_for}
use Rattle.relay_server.specs.State.{Closed}
use Rattle.relay_book.specs.declared.change.Change.{Change}
use Rattle.relay_records.specs.Note.{IsNoted}
use Rattle.relay_records.specs.Records.{Halted, Keeps, Kept}
use Rattle.relay_records.specs.declared.noted.Noted.{Noted}
use Rattle.relay_records.specs.declared.fault.NodeFault.{NodeFault}
use Rattle.relay_records.specs.declared.fault.NodeFault.TheVariants as node_fault
use Rattle.relay_node.specs.Acceptance.{acceptance_by}
use Rattle.relay_node.specs.Node.{SeatHasSaid, NodeState}
use Rattle.relay_links.specs.declared.fault.LinkFault.{LinkFault}
use Rattle.relay_links.specs.declared.fault.LinkFault.TheVariants.{Input, Output, NoMemory, Full, Device}
use Rattle.relay_links.specs.Accepted.{Accepts, Rule}

-- where a link begins: what its reader still has and its writer holds, the client's address, the node's configuration,
-- the changes that the node keeps, the size of its spool, and its note
pub record Start : Type 0 where
  pub left : Option (List ℕ)
  pub held : Option (List ℕ)
  pub peer : List ℕ
  pub config : Config
  pub changes : List Change
  pub size : ℕ
  pub noted : Option Noted

-- a link of this node begins, which keeps these changes
abbrev pub start_at : {D : Type 0} → Option (List ℕ) → Option (List ℕ) → List ℕ → NodeState D → List Change → Start
start_at left held peer node changes =
    record {
      left = left;
      held = held;
      peer = peer;
      config = node.config;
      changes = changes;
      size = node.records.spool.size;
      noted = node.records.noted;
    }

-- what a fault of the node is to its link
abbrev pub link_fault_of : NodeFault → LinkFault
link_fault_of node_fault.NoMemory = NoMemory
link_fault_of node_fault.Stopped = Device
link_fault_of node_fault.Full = Full
link_fault_of node_fault.Unknown = Input
link_fault_of node_fault.TooMany = Input
link_fault_of node_fault.NotDue = Input
link_fault_of node_fault.Busy = Input
link_fault_of node_fault.NoSecond = Input
link_fault_of (node_fault.Open cause) = Input

-- The words below are of a link from its start on, at a time.
module _ {D : Type 0} (honest : Type 0) (words : DiskWords D) (start : Start) (at : ℕ) where
  -- how mail is accepted on this link
  abbrev pub rule : Rule
  rule = record {
    acceptance = λ number. acceptance_by start.config start.peer number at;
    limit = start.config.spool_limit;
  }

  -- these changes are those of the offers that were queued, in order; the spool then has this size
  abbrev pub HaveCome : Said → List Change → ℕ → Type 0
  HaveCome said added size = Accepts rule (length start.changes) start.size said.answers said.offers added size

  -- the last of the changes that the link brought is noted
  pub record NotesLast (added : List Change) (noted : Option Noted) : Type 0 where
    pub earlier : List Change
    pub last : Change
    pub added_are : added ≡ earlier ++ last ∷ []
    pub used : ℕ
    pub is : IsNoted noted (start.changes ++ earlier) last used

  -- the note is that of the last change that the link brought, or the one of before where it brought none
  abbrev pub HasNote : List Change → Option Noted → Type 0
  HasNote added noted = ((added ≡ []) × (noted ≡ start.noted)) ⊎ NotesLast added noted

  -- the node keeps the changes of before, and after them those that the link brought
  pub record HasTaken (said : Said) (added : List Change) (records : Kept D) : Type 0 where
    pub come : HaveCome said added records.spool.size
    pub keeps : Keeps honest words records (start.changes ++ added)
    pub note : HasNote added records.noted

  -- So far the session of this number has said what was written, and what was read but for these octets, which wait.
  pub record HasSaid (number : ℕ) (left held : Option (List ℕ)) (waiting : List ℕ) (node : NodeState D) : Type 0 where
    pub said : Said
    pub config : node.config ≡ start.config
    pub says : SeatHasSaid start.config node.seats number start.peer said
    pub read : Consumes start.left left (said.input ++ waiting)
    pub written : Appends start.held held said.output
    pub added : List Change
    pub taken : HasTaken said added node.records

  -- what was read and written is a dialogue, closed or up to the end of the input
  pub record HasServed (left held : Option (List ℕ)) (records : Kept D) : Type 0 where
    pub said : Said
    pub dialogue : IsDialogue (setup_for start.config start.peer) said
    pub read : Consumes start.left left said.input
    pub written : Appends start.held held said.output
    pub ended : (dialogue.state ≡ Closed) ⊎ IsAtEnd left
    pub added : List Change
    pub taken : HasTaken said added records

  -- the link goes on, or has come to its end
  abbrev pub LinkGoesOn : ℕ → Option (List ℕ) → Option (List ℕ) → List ℕ → NodeState D → Bool → Type 0
  LinkGoesOn number left held waiting node true = HasServed left held node.records
  LinkGoesOn number left held waiting node false = HasSaid number left held waiting node

  -- the device failed while the last of these changes was added: a stop leaves the changes before it, or these with it
  pub record HasHalted (said : Said) (added : List Change) (records : Kept D) : Type 0 where
    pub size : ℕ
    pub come : HaveCome said added size
    pub note : NotesLast added records.noted
    pub halted : Halted honest words records (start.changes ++ note.earlier) (Some note.last)

  -- the same, and changes have no numbers any more
  pub record HasFilled (said : Said) (added : List Change) (records : Kept D) : Type 0 where
    pub taken : HasTaken said added records
    pub number : 2 ^ 62 < records.queue.next

  -- what a fault leaves of the node
  abbrev pub Leaves : LinkFault → Said → List Change → Kept D → Type 0
  Leaves Input said added records = HasTaken said added records
  Leaves Output said added records = HasTaken said added records
  Leaves NoMemory said added records = HasTaken said added records
  Leaves Full said added records = HasFilled said added records
  Leaves Device said added records = HasHalted said added records

  -- what was written is a prefix of the output of a dialogue, whose input is a prefix of what was read: all of it where
  -- nothing more could be read
  pub record HasBegun (left held : Option (List ℕ)) (records : Kept D) (fault : LinkFault) : Type 0 where
    pub said : Said
    pub dialogue : IsDialogue (setup_for start.config start.peer) said
    pub unread : List ℕ
    pub read : Consumes start.left left (said.input ++ unread)
    pub front : List ℕ
    pub unwritten : List ℕ
    pub output : said.output ≡ front ++ unwritten
    pub whole : fault ≡ Input → unwritten ≡ []
    pub written : Appends start.held held front
    pub added : List Change
    pub leaves : Leaves fault said added records

  -- a link has ended, well or by a fault
  abbrev pub LinkHasEnded : Option (List ℕ) → Option (List ℕ) → Kept D → Result (Unit {0}) LinkFault → Type 0
  LinkHasEnded left held records result =
      MatchResult result (λ _. HasServed left held records) (HasBegun left held records)

  -- a link has gone on, or has ended, well or by a fault
  abbrev pub HasGone : ℕ → Option (List ℕ) → Option (List ℕ) → List ℕ → NodeState D → Result Bool LinkFault → Type 0
  HasGone number left held waiting node result =
      MatchResult result (LinkGoesOn number left held waiting node) (HasBegun left held node.records)
