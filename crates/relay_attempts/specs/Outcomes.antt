-- The outcomes of attempts, and of messages without a hop.
use Rattle.std.specs.Prelude.{◌≡◌, ◌≢◌, ◌⊎◌, ℕ, true, false, List, [], ◌∷◌, map, None, Some}
use Rattle.relay_disk.specs.Device.{DiskWords}
use Rattle.relay_routes.specs.Routes.{RouteTable}
use Rattle.relay_book.specs.declared.version.Version.TheVariants.{WithDelay}
use Rattle.relay_book.specs.declared.change.Outcome.{Outcome}
use Rattle.relay_book.specs.declared.change.Ruling.{Ruling}
use Rattle.relay_book.specs.declared.change.Verdict.{Verdict}
use Rattle.relay_book.specs.declared.change.Verdict.TheVariants.{NoRoute}
use Rattle.relay_book.specs.declared.change.Change.{Change}
use Rattle.relay_book.specs.declared.message.Message.{Message}
use Rattle.relay_book.specs.Queue.{message_of}
use Rattle.relay_spool.specs.Spool.{Passes}
use Rattle.relay_records.specs.Records.{IsStopped, Kept}
use Rattle.relay_records.specs.declared.fault.NodeFault.{NodeFault}
use Rattle.relay_records.specs.declared.fault.NodeFault.TheVariants.{NoMemory, Stopped, Unknown, NotDue, Full}
use Rattle.relay_report.specs.Report.{Reporter}
use Rattle.relay_attempts.specs.AddedOutcome.{AddsOutcome, CutsOutcome, GrowsBy, HasNoRoom}
use Rattle.relay_attempts.specs.Hops.{stranded_places}

-- the places, each with its verdict
abbrev pub rulings_of : List ℕ → List Verdict → List Ruling
rulings_of [] verdicts = []
rulings_of (place ∷ places) [] = []
rulings_of (place ∷ places) (verdict ∷ verdicts) =
    record { place = place; verdict = verdict } ∷ rulings_of places verdicts

-- the places, each with the verdict that it has no hop
abbrev pub unrouted : List ℕ → List Ruling
unrouted places = map (λ place. record { place = place; verdict = NoRoute }) places

-- the outcome for a message of these verdicts, of the second version, with the name of the hop and no report
abbrev pub outcome_of : ℕ → ℕ → List ℕ → List Ruling → Outcome
outcome_of message at hop rulings = record {
  version = WithDelay;
  message = message;
  at = at;
  hop = hop;
  rulings = rulings;
  report = [];
}

-- the outcome for a message of exactly its held places without a hop
abbrev pub unroutable : RouteTable → ℕ → ℕ → Message → Outcome
unroutable table number at message = outcome_of number at [] (unrouted (stranded_places table message))

-- The words below are of the message of a number, which is given up at a time.
module _ {D : Type 0} (honest : Type 0) (words : DiskWords D) (reporter : Reporter) (table : RouteTable)
    (number at : ℕ) where
  -- exactly its held places without a hop have ended, in the one change that was added, with the report that is owed,
  -- by four calls of the device
  pub record AddsUnroutable (changes : List Change) (old new : Kept D) (added : ℕ) : Type 0 where
    pub message : Message
    pub found : message_of old.queue.messages number ≡ Some message
    pub adds : AddsOutcome honest words reporter changes (unroutable table number at message) 0 new added
    pub calls : Passes words 4 old.spool.disk new.spool.disk

  -- a stop came while they ended
  pub record CutsUnroutable (changes : List Change) (old new : Kept D) : Type 0 where
    pub message : Message
    pub found : message_of old.queue.messages number ≡ Some message
    pub cuts : CutsOutcome honest words reporter changes (unroutable table number at message) 0 new

-- What its end did to the records, whatever list they keep, and why none has ended.
module _ {D : Type 0} (words : DiskWords D) (reporter : Reporter) (table : RouteTable) (number at : ℕ) where
  -- exactly its held places without a hop have ended, with the report that is owed, by the change of this number
  pub record EndsUnroutable (old new : Kept D) (added : ℕ) : Type 0 where
    pub message : Message
    pub found : message_of old.queue.messages number ≡ Some message
    pub grows : GrowsBy words reporter (unroutable table number at message) old new added

  -- the message is queued, and each of its held places has a hop
  pub record HasHops (old : Kept D) : Type 0 where
    pub message : Message
    pub found : message_of old.queue.messages number ≡ Some message
    pub none : stranded_places table message ≡ []

  -- the message is queued, and a held place of it has no hop
  pub record HasStranded (old : Kept D) : Type 0 where
    pub message : Message
    pub found : message_of old.queue.messages number ≡ Some message
    pub some : stranded_places table message ≢ []

  -- the same, and there is no room for the outcome of the message
  pub record HasNoRoomFor (old : Kept D) : Type 0 where
    pub message : Message
    pub found : message_of old.queue.messages number ≡ Some message
    pub some : stranded_places table message ≢ []
    pub room : HasNoRoom reporter (unroutable table number at message) old

  -- why none has ended: the first of these, and lack of memory or of room after them
  abbrev pub RefusesToGiveUp : Kept D → Kept D → NodeFault → Type 0
  RefusesToGiveUp old new NoMemory = (old.spool.live ≡ true) × HasStranded old × (new ≡ old)
  RefusesToGiveUp old new Stopped = ((old.spool.live ≡ false) × (new ≡ old)) ⊎ IsStopped words 4 old new
  RefusesToGiveUp old new Unknown =
      (old.spool.live ≡ true) × (message_of old.queue.messages number ≡ None) × (new ≡ old)
  RefusesToGiveUp old new NotDue = (old.spool.live ≡ true) × HasHops old × (new ≡ old)
  RefusesToGiveUp old new Full = (old.spool.live ≡ true) × (new ≡ old) × HasNoRoomFor old
  RefusesToGiveUp old new other = ⊥
