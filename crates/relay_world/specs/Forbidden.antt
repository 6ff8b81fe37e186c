-- More that the invariant rules out: dropped mail, a ledger that loses a line, and an attempt whose link leads
-- elsewhere than to its hop. Each is stated of the worlds before and after, whatever call was made. And what the event
-- of a group rules out: a record that wasn't staged, and staged records that don't reach the spool.
use Rattle.std.specs.Prelude.{◌≡◌, ◌≢◌, ℕ, List, [], ◌∷◌, ◌++◌, None, Some, slice_get}
use Rattle.std.specs.List.{Contains}
use Rattle.relay_disk.specs.Device.{DiskWords}
use Rattle.relay_book.specs.declared.change.Change.{Change}
use Rattle.relay_book.specs.Marks.{Held}
use Rattle.relay_book.specs.Queue.{held_of}
use Rattle.relay_book.specs.StandsFor.{StandsFor}
use Rattle.relay_attempts.specs.Reply.{Told}
use Rattle.relay_node.specs.Attempts.{Tells}
use Rattle.relay_node.specs.Node.{NodeState}
use Rattle.relay_records.specs.Staged.{Awaits, Row}
use Rattle.relay_world.specs.declared.attempt.Attempt.{Attempt}
use Rattle.relay_world.specs.declared.line.Line.{Line}
use Rattle.relay_world.specs.declared.link.Link.{Link}
use Rattle.relay_world.specs.declared.link.ServerEnd.{ServerEnd}
use Rattle.relay_world.specs.Bound.{HostKeeps, IsBound, StandsAt}
use Rattle.relay_world.specs.Groups.{HasHeardAll, HasHeardInto, HasReadInto, Piece}
use Rattle.relay_world.specs.HopLinks.{AreLinkedToHops}
use Rattle.relay_world.specs.Ledger.{if_of_node, steps_in}
use Rattle.relay_world.specs.Steps.{IsPut}
use Rattle.relay_world.specs.World.{Host, Up, World, link_at}

-- A node has the records that it had, by which this place of a message is held, but its queue lacks the place.
pub record DropsMail {D : Type 0} (honest : Type 0) (words : DiskWords D) (old new : World D) (node number place : ℕ)
    : Type 0 where
  pub host : Host D
  pub host_at : slice_get old.hosts node ≡ Some host
  pub held : (changes : List Change) → HostKeeps honest words host changes → Held changes number place
  pub after : NodeState D
  pub gone : Contains {X = ℕ × ℕ} (held_of after.records.queue) (number, place) → ⊥
  pub hosts : IsPut old.hosts new.hosts node (record host { state = Up after })

-- The world after that violates the invariant.
abbrev pub DroppingBreaks : {D : Type 0} → Type 0 → DiskWords D → Type 0
DroppingBreaks {D} honest words =
    (old new : World D) (lists later : List (List Change)) (node number place : ℕ) → IsBound honest words old lists
    → DropsMail honest words old new node number place → IsBound honest words new later → ⊥

-- The ledger has lost a line of a node, and all nodes are unchanged.
pub record ForgetsLine {D : Type 0} (old new : World D) (node : ℕ) : Type 0 where
  pub host : Host D
  pub host_at : slice_get old.hosts node ≡ Some host
  pub front : List Line
  pub line : Line
  pub rest : List Line
  pub was : old.ledger ≡ front ++ line ∷ rest
  pub is : new.ledger ≡ front ++ rest
  pub of_node : if_of_node node line ≢ []
  pub hosts : new.hosts ≡ old.hosts

-- The world after that violates the invariant.
abbrev pub ForgettingBreaks : {D : Type 0} → Type 0 → DiskWords D → Type 0
ForgettingBreaks {D} honest words =
    (old new : World D) (lists later : List (List Change)) (node : ℕ) → IsBound honest words old lists
    → ForgetsLine old new node → IsBound honest words new later → ⊥

-- The hop of an attempt is the name of a node, and its link has a server end at another node.
pub record LeadsElsewhere {D : Type 0} (world : World D) : Type 0 where
  pub at : ℕ
  pub attempt : Attempt
  pub is_there : slice_get world.attempts at ≡ Some attempt
  pub node : ℕ
  pub host : Host D
  pub host_at : slice_get world.hosts node ≡ Some host
  pub named : host.config.host ≡ attempt.hop
  pub elsewhere : (link : Link) (end : ServerEnd) → link_at world.links attempt.link ≡ Some link
      → link.server ≡ Some end → end.node ≢ node

-- Then some attempt doesn't have the right link.
abbrev pub LeadingElsewhereBreaks : Type 0 → Type 0
LeadingElsewhereBreaks D = (world : World D) → LeadsElsewhere world → AreLinkedToHops world → ⊥

-- A node that hears octets while changes are staged, and whose row of staged records is the same afterwards, has
-- accepted nothing.
abbrev pub LosingRecordBreaks : {D : Type 0} → Type 0 → DiskWords D → Type 0
LosingRecordBreaks {D} honest words =
    (at : ℕ) (old new : World D) (node : ℕ) (piece : Piece) (row left : Row) (changes pending : List Change)
    (hears : HasHeardInto honest words at old new node piece row left)
    → Awaits honest words hears.of.before.records changes pending row → left.bodies ≡ row.bodies
    → hears.received.change ≡ None

-- An attempt that reads replies while changes are staged, and whose node's row of staged records is the same
-- afterwards, goes on.
abbrev pub LosingOutcomeBreaks : {D : Type 0} → Type 0 → DiskWords D → Type 0
LosingOutcomeBreaks {D} honest words =
    (at : ℕ) (old new : World D) (node : ℕ) (piece : Piece) (row left : Row) (changes pending : List Change)
    (told : Told) (reads : HasReadInto honest words at old new node piece row left)
    → Awaits honest words reads.of.before.records changes pending row
    → Tells reads.of.before.config.host (changes ++ pending) reads.of.before.attempts reads.of.slot told
    → left.bodies ≡ row.bodies → reads.replied.change ≡ None

-- A node that heard and read links one after another, and whose spool has no more than the list from before, has
-- accepted nothing on them, and no attempt has ended by them.
abbrev pub LosingRowBreaks : {D : Type 0} → Type 0 → DiskWords D → Type 0
LosingRowBreaks {D} honest words =
    honest → (old new : World D) (lists : List (List Change)) (node : ℕ) (pieces : List Piece) (changes : List Change)
    → IsBound honest words old lists → (hears : HasHeardAll honest words old new node pieces)
    → StandsAt old lists node hears.before.host changes → StandsFor hears.after.records.spool.bodies changes
    → (hears.row.bodies ≡ []) × (steps_in node new.ledger ≡ steps_in node old.ledger)
