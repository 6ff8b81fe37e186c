-- The running attempt at the client end of a link, and the calls of its node.
use Rattle.std.specs.Prelude.{◌≡◌, ◌≤◌, ◌++◌, ℕ, ◌+◌, List, length, Some, slice_get, slice_set}
use Rattle.relay_disk.specs.Device.{DiskWords}
use Rattle.relay_book.specs.declared.change.Change.{Change}
use Rattle.relay_records.specs.Records.{Keeps}
use Rattle.relay_attempts.specs.Reply.{Told}
use Rattle.relay_node.specs.Attempts.{Tells}
use Rattle.relay_node.specs.Node.{NodeState}
use Rattle.relay_world.specs.declared.attempt.Attempt.{Attempt}
use Rattle.relay_world.specs.declared.attempt.Fate.{Fate}
use Rattle.relay_world.specs.declared.attempt.Fate.TheVariants.{Running}
use Rattle.relay_world.specs.declared.line.Line.{Line}
use Rattle.relay_world.specs.declared.link.Link.{Link}
use Rattle.relay_world.specs.Steps.{waiting_down}
use Rattle.relay_world.specs.World.{Host, Up, World, link_at}
use Rattle.relay_hosts.specs.declared.calls.Read.{Read}
use Rattle.relay_hosts.specs.declared.calls.ToldLoss.{ToldLoss}
use Rattle.relay_events.specs.declared.client_end.ClientEnd.{ClientEnd}
use Rattle.relay_hosts.specs.Call.{HasAttempt, IsToldLoss, ReadsOrNot}

-- at least this many octets are unread at the client end of a link
pub record HasMore {D : Type 0} (world : World D) (number used : ℕ) : Type 0 where
  pub link : Link
  pub link_is : link_at world.links number ≡ Some link
  pub within : link.down_read + used ≤ length link.down

-- an attempt of this node, for this message
abbrev pub its_attempt : ClientEnd → Attempt → Attempt
its_attempt end attempt = record attempt { node = end.node; message = end.message }

-- the attempt at this index has this state now, and nothing else has changed
abbrev pub SetsFate : {D : Type 0} → World D → World D → ℕ → Fate → Type 0
SetsFate old new place fate =
    (attempt : Attempt) → slice_get old.attempts place ≡ Some attempt
    → new ≡ record old { attempts = slice_set old.attempts place (record attempt { fate = fate }) }

-- the attempt at this index has this state now, and these lines were added to the ledger
abbrev pub EndsBy : {D : Type 0} → World D → World D → ℕ → Fate → List Line → Type 0
EndsBy old new place fate lines =
    (attempt : Attempt) → slice_get old.attempts place ≡ Some attempt
    → new ≡ record old {
      attempts = slice_set old.attempts place (record attempt { fate = fate });
      ledger = old.ledger ++ lines;
    }

module _ {D : Type 0} (honest : Type 0) (words : DiskWords D) where
  -- a running attempt at the client end of a link, its node, and the history that the node has of it
  pub record RunsOn (world : World D) (number place slot : ℕ) (attempt : Attempt) : Type 0 where
    pub link : Link
    pub link_is : link_at world.links number ≡ Some link
    pub client : link.client ≡ Some place
    pub attempt_at : slice_get world.attempts place ≡ Some attempt
    pub runs : attempt.fate ≡ Running slot
    pub host : Host D
    pub host_at : slice_get world.hosts attempt.node ≡ Some host
    pub before : NodeState D
    pub up : host.state ≡ Up before
    pub changes : List Change
    pub keeps : Keeps honest words before.records changes
    pub told : Told
    pub places : told.places ≡ attempt.places.items
    pub tells : Tells before.config.host changes before.attempts slot told
    pub has : HasAttempt honest words host slot

  -- the attempt that runs there has these numbers
  pub record RunsThere (world : World D) (number : ℕ) (end : ClientEnd) : Type 0 where
    pub attempt : Attempt
    pub on : RunsOn world number end.place end.slot (its_attempt end attempt)

  -- the node at this index has a running attempt of this number
  pub record HasAttemptAt (world : World D) (node slot : ℕ) : Type 0 where
    pub host : Host D
    pub host_at : slice_get world.hosts node ≡ Some host
    pub has : HasAttempt honest words host slot

  -- The node of an attempt was called because the connection is lost. Nothing else has changed yet.
  pub record IsCalledToLose (old new : World D) (node slot : ℕ) (lost : ToldLoss) : Type 0 where
    pub was : Host D
    pub was_at : slice_get old.hosts node ≡ Some was
    pub now : Host D
    pub tells : IsToldLoss honest words old.clock was now slot lost
    pub new_is : new ≡ record old { hosts = slice_set old.hosts node now }

  -- The node of an attempt was called to read unread replies. Nothing else has changed yet.
  pub record IsCalledToRead (old new : World D) (number node slot count : ℕ) (read : Read) : Type 0 where
    pub link : Link
    pub link_is : link_at old.links number ≡ Some link
    pub was : Host D
    pub was_at : slice_get old.hosts node ≡ Some was
    pub now : Host D
    pub reads : ReadsOrNot honest words old.clock was now slot (waiting_down count link) read
    pub new_is : new ≡ record old { hosts = slice_set old.hosts node now }
