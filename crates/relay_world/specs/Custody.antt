-- Custody of each recipient that a node acknowledged (RFC 5321, section 6.1): it is held, or the next hop has taken it,
-- or it has ended for a cause, or was withdrawn, and then the report that is owed was queued in the same change.
use Rattle.std.specs.Prelude.{◌≡◌, ◌↔◌, ℕ, zero, suc, ◌+◌, ◌<◌, ◌≤◌, false, List, [], ◌∷◌, ◌++◌, length, take, Some}
use Rattle.std.specs.Prelude.{Option}
use Rattle.std.specs.Prelude.{slice_get}
use Rattle.std.specs.List.{Contains}
use Rattle.relay_octets.specs.Beginning.{Begins}
use Rattle.relay_disk.specs.Device.{DiskWords}
use Rattle.relay_disk.specs.declared.disks.Disks.{Disks}
use Rattle.relay_spool.specs.Spool.{EveryImageHas}
use Rattle.relay_server.specs.declared.offer.Answer.{Answer}
use Rattle.relay_server.specs.declared.offer.Answer.TheVariants.{Queued}
use Rattle.relay_server.specs.Dialogue.{IsDialogue, Offered, Said}
use Rattle.relay_server.specs.Setup.{setup_for}
use Rattle.relay_book.specs.declared.change.Change.{Change}
use Rattle.relay_book.specs.declared.change.Change.TheVariants as change
use Rattle.relay_book.specs.declared.change.Verdict.{Verdict}
use Rattle.relay_book.specs.declared.change.Verdict.TheVariants.{Taken, Refused, Later, CantSend, NoRoute}
use Rattle.relay_book.specs.declared.change.Verdict.TheVariants.{Withdrawn as WithdrawnBy}
use Rattle.relay_book.specs.declared.fate.Way.{Way}
use Rattle.relay_book.specs.declared.fate.Way.TheVariants.{ByTransfer, ByEnd, ByWithdrawal}
use Rattle.relay_book.specs.DueReport.{patience}
use Rattle.relay_book.specs.Marks.{Added, Ended, Held, IsOneOf, LeavesAt, Transferred, Withdrawn}
use Rattle.relay_book.specs.Queue.{held_of}
use Rattle.relay_book.specs.StandsFor.{StandsFor}
use Rattle.relay_node.specs.Node.{NodeState}
use Rattle.relay_report.specs.Report.{Reported, Reporter, reporter_of}
use Rattle.relay_world.specs.declared.link.Link.{Link}
use Rattle.relay_world.specs.declared.link.ServerEnd.{ServerEnd}
use Rattle.relay_world.specs.Bound.{IsBound, StandsAt, StandsForUnlessDecided}
use Rattle.relay_world.specs.Ledger.{accepts_on}
use Rattle.relay_world.specs.World.{Down, Host, Undecided, Up, World, link_at}

-- The node wrote on a link that a message of this many places is queued under this number: what it has read and written
-- there is a dialogue, all of it written, that ends with that answer.
pub record Acknowledged {D : Type 0} (world : World D) (node number places : ℕ) : Type 0 where
  pub on : ℕ
  pub link : Link
  pub is_there : link_at world.links on ≡ Some link
  pub end : ServerEnd
  pub serves : link.server ≡ Some end
  pub its_node : end.node ≡ node
  pub host : Host D
  pub found : slice_get world.hosts node ≡ Some host
  pub said : Said
  pub dialogue : IsDialogue (setup_for host.config end.peer) said
  pub was_read : Begins said.input (take link.up_read link.up)
  pub written : Begins said.output link.down
  pub answers : List Answer
  pub last_answer : said.answers ≡ answers ++ Queued number ∷ []
  pub offers : List Offered
  pub offer : Offered
  pub last_offer : said.offers ≡ offers ++ offer ∷ []
  pub each : length answers ≡ length offers
  pub places_are : places ≡ length offer.envelope.recipients

-- Each message that a node has acknowledged on a link is an accept of the ledger there.
abbrev pub AcknowledgedIsAccepted : {D : Type 0} → Type 0 → DiskWords D → Type 0
AcknowledgedIsAccepted {D} honest words =
    (world : World D) (lists : List (List Change)) → IsBound honest words world lists
    → (node number places : ℕ) → (told : Acknowledged world node number places)
    → Contains {X = ℕ × ℕ} (accepts_on told.on world.ledger) (number, places)

-- Whether a link is broken or not: where what a node has read and written there begins with a dialogue that ends with
-- the answer that a message is queued, that message is acknowledged.
abbrev pub AnsweredIsAcknowledged : Type 0 → Type 0
AnsweredIsAcknowledged D =
    (world : World D) (on : ℕ) (link : Link) (end : ServerEnd) → link_at world.links on ≡ Some link
    → link.server ≡ Some end → (host : Host D) → slice_get world.hosts end.node ≡ Some host
    → (said : Said) → IsDialogue (setup_for host.config end.peer) said
    → Begins said.input (take link.up_read link.up) → Begins said.output link.down
    → (answers : List Answer) (number : ℕ) → said.answers ≡ answers ++ Queued number ∷ []
    → (offers : List Offered) (offer : Offered) → said.offers ≡ offers ++ offer ∷ []
    → length answers ≡ length offers
    → Acknowledged world end.node number (length offer.envelope.recipients)

-- On an unbroken link each accept of the ledger was acknowledged.
abbrev pub AcceptedIsAcknowledged : {D : Type 0} → Type 0 → DiskWords D → Type 0
AcceptedIsAcknowledged {D} honest words =
    (world : World D) (lists : List (List Change)) → IsBound honest words world lists
    → (on : ℕ) (link : Link) (end : ServerEnd) → link_at world.links on ≡ Some link → link.server ≡ Some end
    → link.broken ≡ false → (number places : ℕ)
    → Contains {X = ℕ × ℕ} (accepts_on on world.ledger) (number, places) → Acknowledged world end.node number places

-- why a place that was accepted at one time leaves at another in this way by a verdict: it was taken; it was refused,
-- can't be sent, has no hop, or was tried for too long; or the postmaster has ended it so
abbrev pub HasCause : ℕ → ℕ → Way → Verdict → Type 0
HasCause accepted at ByTransfer (Taken dsn) = Unit {0}
HasCause accepted at ByTransfer _ = ⊥
HasCause accepted at ByEnd (Taken dsn) = ⊥
HasCause accepted at ByEnd (Refused code text) = Unit {0}
HasCause accepted at ByEnd Later = accepted + patience ≤ at
HasCause accepted at ByEnd CantSend = Unit {0}
HasCause accepted at ByEnd NoRoute = Unit {0}
HasCause accepted at ByEnd (WithdrawnBy withdrawal) = ⊥
HasCause accepted at (ByWithdrawal withdrawal) (WithdrawnBy other) = other ≡ withdrawal
HasCause accepted at (ByWithdrawal withdrawal) _ = ⊥

-- the changes before the one of this number
abbrev pub changes_before : ℕ → List Change → List Change
changes_before zero changes = []
changes_before (suc n) changes = take n changes

-- A place has left by the change of this number for a cause, and that change has the report that is owed.
pub record LeftFor (reporter : Reporter) (changes : List Change) (at number place : ℕ) (way : Way) : Type 0 where
  pub leaves : LeavesAt changes at number place way
  pub cause : HasCause leaves.accept.at leaves.outcome.at way leaves.verdict
  pub reported : Reported reporter (changes_before at changes) (change.Outcome leaves.outcome)

-- What the invariant guarantees for the recipients of each node.
pub record KeepsCustody {D : Type 0} (honest : Type 0) (words : DiskWords D) (world : World D) (node : ℕ)
    (host : Host D)
    (changes : List Change) : Type 0 where
  -- each acknowledged recipient was added
  pub acknowledged : (number places place : ℕ) → Acknowledged world node number places → place < places
      → Added changes number place
  -- each that was added is held, was transferred, has ended or was withdrawn, and only one of these
  pub one_of : (number place : ℕ) → Added changes number place
      → IsOneOf (Held changes number place) (Transferred changes number place) (Ended changes number place)
      (Withdrawn changes number place)
  -- the queue of a node that is up has exactly the held places, and so has every image that a stop may leave
  pub held : (standing : NodeState D) → host.state ≡ Up standing → (number place : ℕ)
      → Contains {X = ℕ × ℕ} (held_of standing.records.queue) (number, place) ↔ Held changes number place
  pub images : honest → (standing : NodeState D) → host.state ≡ Up standing
      → EveryImageHas words standing.records.spool.disk (λ bodies. StandsFor bodies changes)
  -- every image of a node that is down encodes its changes, with or without the one that its next opening decides
  pub images_down : honest → (disk : Disks D) (undecided : Option Undecided) → host.state ≡ Down disk undecided
      → EveryImageHas words disk (StandsForUnlessDecided changes undecided)
  -- each place that has left did so for a cause, with the report that is owed
  pub left : (at number place : ℕ) (way : Way) → LeavesAt changes at number place way
      → LeftFor (reporter_of host.config) changes at number place way

-- The invariant guarantees custody at each node.
abbrev pub CustodyIsKept : {D : Type 0} → Type 0 → DiskWords D → Type 0
CustodyIsKept {D} honest words =
    (world : World D) (lists : List (List Change)) → IsBound honest words world lists
    → (node : ℕ) (host : Host D) (changes : List Change) → StandsAt world lists node host changes
    → KeepsCustody honest words world node host changes
