-- What a node does with offers of sessions that stand outside of it, where their changes come into the records
-- together.
use Rattle.std.specs.Prelude.{◌≡◌, ◌≢◌, ◌↔◌, ◌⊎◌, ℕ, ◌+◌, ◌≤◌, ◌<◌, ◌^◌, true, false, List, [], ◌∷◌, ◌++◌, length, take}
use Rattle.std.specs.Prelude.{Option, None, Some, Result, Err, IfErr}
use Rattle.std.specs.List.{AllByRecursion}
use Rattle.relay_disk.specs.Device.{DiskWords}
use Rattle.relay_routes.specs.declared.config.Config.{Config}
use Rattle.relay_server.specs.declared.offer.Answer.{Answer}
use Rattle.relay_server.specs.declared.offer.Answer.TheVariants as answer
use Rattle.relay_server.specs.declared.session.Next.TheVariants as next
use Rattle.relay_server.specs.declared.session.Session.{Session}
use Rattle.relay_server.specs.Dialogue.{Offered, Said}
use Rattle.relay_server.specs.Session.{next_of}
use Rattle.relay_server.specs.Setup.{setup_for}
use Rattle.relay_spool.specs.Image.{room_of}
use Rattle.relay_book.specs.declared.change.Accept.{Accept}
use Rattle.relay_book.specs.declared.change.Change.{Change}
use Rattle.relay_book.specs.declared.change.Change.TheVariants as change
use Rattle.relay_records.specs.Records.{Kept}
use Rattle.relay_records.specs.Staged.{Awaits, Row}
use Rattle.relay_records.specs.declared.fault.NodeFault.{NodeFault}
use Rattle.relay_records.specs.declared.fault.NodeFault.TheVariants.{NoMemory, Stopped, Full, Unknown}
use Rattle.relay_records.specs.declared.noted.Noted.{Noted}
use Rattle.relay_node.specs.Acceptance.{Acceptance, acceptance_by}
use Rattle.relay_node.specs.Admission.{TakesAnswer}
use Rattle.relay_node.specs.declared.receive.Received.{Received}
use Rattle.relay_node.specs.Node.{HasHistory, IsGone, IsOpen, NodeState, SeatHasSaid, SessionGoesOn, SessionHasSaid}
use Rattle.relay_node.specs.Node.{TakesIn}
use Rattle.relay_node.specs.Room.{AnswersMore, EndsWithOffer, HasRoom, Overfills, refusals}

-- The words below are of a call at a time, for a client at this address, of a node that keeps these changes and awaits
-- those that are pending, which the row records.
module _ {D : Type 0} (honest : Type 0) (words : DiskWords D) (config : Config) (changes pending : List Change)
    (peer : List ℕ) (at : ℕ) (offer : Offered) (old : Kept D) (row : Row) where
  -- how the next change is accepted
  abbrev pub acceptance_after : Acceptance
  acceptance_after = acceptance_by config peer (length changes + length pending + 1) at

  -- how many octets the spool takes with the row
  abbrev pub size_after : ℕ
  size_after = old.spool.size + room_of row.bodies

  -- the change of this number accepts the offer, there was room for it, and it is pending too
  pub record IsStagedAs (new : Kept D) (left : Row) (number : ℕ) : Type 0 where
    pub number_is : number ≡ length changes + length pending + 1
    pub accept : Accept
    pub fits : HasRoom acceptance_after config.spool_limit size_after offer accept
    pub awaits : Awaits honest words new changes (pending ++ change.Accept accept ∷ []) left

  -- the offer is staged; or there is no room for it, and nothing has changed
  abbrev pub StagesOffer : Kept D → Row → Answer → Type 0
  StagesOffer new left (answer.Queued number) = IsStagedAs new left number
  StagesOffer new left answer.Full =
      Overfills acceptance_after config.spool_limit size_after offer × (new ≡ old) × (left ≡ row)

-- whatever the records keep, what the answer says of the queue is so, and no call went to a device
pub record HasStaged {D : Type 0} (old new : Kept D) (given : Answer) : Type 0 where
  pub takes : TakesAnswer old.queue given new.queue
  pub spool : new.spool ≡ old.spool
  pub noted : new.noted ≡ old.noted

-- what a live node leaves that stages no offer
abbrev pub RefusesToStage : {D : Type 0} → Kept D → Kept D → Row → Row → NodeFault → Type 0
RefusesToStage old new row left fault = ((fault ≡ NoMemory) ⊎ (fault ≡ Full)) × (new ≡ old) × (left ≡ row)

-- A stopped node refuses always, and nothing changes. A live one answers `Full` where changes have no numbers any more,
-- unless memory runs out before that is seen, and nowhere else.
pub record RefusesOffer {D T : Type 0} (old new : NodeState D) (row left : Row) (result : Result T NodeFault)
    : Type 0 where
  pub stopped : old.records.spool.live ≡ false → (result ≡ Err Stopped) × (new ≡ old) × (left ≡ row)
  pub refused : old.records.spool.live ≡ true → IfErr result (RefusesToStage old.records new.records row left)
  pub full : old.records.spool.live ≡ true → 2 ^ 62 < old.records.queue.next
      → (result ≡ Err NoMemory) ⊎ (result ≡ Err Full)

-- the changes that a call stages: none, or an accept, whose number comes next
abbrev pub IsStaged : ℕ → Option ℕ → List Change → Type 0
IsStaged next None more = more ≡ []
IsStaged next (Some number) more = (accept : Accept) × (number ≡ next) × (more ≡ change.Accept accept ∷ [])

-- The words below are of a call at a time, on a session with a client at this address, of a node that keeps these
-- changes and awaits those that are pending, which the row records.
module _ (config : Config) (changes pending : List Change) (peer : List ℕ) (at : ℕ) where
  -- how the next change is accepted
  abbrev pub next_after : Acceptance
  next_after = acceptance_by config peer (length changes + length pending + 1) at

  -- each of these offers would bring the spool, with the row, past its limit
  abbrev pub HaveNoRoomAfter : {D : Type 0} → Kept D → Row → List Offered → Type 0
  HaveNoRoomAfter old row offers =
      AllByRecursion (Overfills next_after config.spool_limit (old.spool.size + room_of row.bodies)) offers

  -- after the refused offers one was staged: the change of this number accepts it, and no octet after it was read
  pub record QueuesInto {D : Type 0} (said later : Said) (refused : List Offered) (used : ℕ) (old : Kept D)
      (row left : Row) (more : List Change) (number : ℕ)
      : Type 0 where
    pub number_is : number ≡ length changes + length pending + 1
    pub offer : Offered
    pub answers : AnswersMore said later refused (offer ∷ []) (answer.Queued number ∷ [])
    pub ends : EndsWithOffer (setup_for config peer) later (said.answers ++ refusals refused)
    pub accept : Accept
    pub fits : HasRoom next_after config.spool_limit (old.spool.size + room_of row.bodies) offer accept
    pub more_is : more ≡ change.Accept accept ∷ []
    pub note : Noted
    pub noted : left.notes ≡ row.notes ++ note ∷ []
    pub used_is : note.used ≡ used

  -- the change that the call staged, if it staged one
  abbrev pub MakesInto
      : {D : Type 0} → Said → Said → List Offered → ℕ → Kept D → Row → Kept D → Row → List Change → Option ℕ → Type 0
  MakesInto said later refused used old row new left more None =
      AnswersMore said later refused [] [] × (new ≡ old) × (left ≡ row)
  MakesInto said later refused used old row new left more (Some number) =
      QueuesInto said later refused used old row left more number

  -- what the call did after what was said: it used all of the piece, unless a change or a close stopped it
  pub record TalksInto {D : Type 0} (said later : Said) (piece : List ℕ) (old : Kept D) (row : Row) (new : Kept D)
      (left : Row) (more : List Change) (received : Received)
      : Type 0 where
    pub input : later.input ≡ said.input ++ take received.used piece
    pub output : later.output ≡ said.output ++ received.out.items
    pub refused : List Offered
    pub no_room : HaveNoRoomAfter old row refused
    pub makes : MakesInto said later refused received.used old row new left more received.change
    pub whole : received.change ≡ None → received.close ≡ false → received.used ≡ length piece

  -- the same, on a session
  pub record HearsInto {D : Type 0} (said : Said) (piece : List ℕ) (new_session : Session) (old : Kept D) (row : Row)
      (new : Kept D) (left : Row) (more : List Change) (received : Received)
      : Type 0 where
    pub later : Said
    pub says : SessionHasSaid (setup_for config peer) new_session later
    pub closed : (received.close ≡ true) ↔ (next_of new_session ≡ next.Close)
    pub talks : TalksInto said later piece old row new left more received

  -- the same, on the session of this number of a node
  pub record ReceivesInto {D : Type 0} (number : ℕ) (said : Said) (piece : List ℕ) (old : NodeState D) (row : Row)
      (new : NodeState D) (left : Row) (more : List Change) (received : Received)
      : Type 0 where
    pub later : Said
    pub goes_on : SessionGoesOn config new.seats number peer later received.close
    pub is_open : received.close ≡ false → IsOpen new.seats number
    pub talks : TalksInto said later piece old.records row new.records left more received

-- The same at whatever was said on the session: with the change that the call staged, if it staged one, the node awaits
-- these.
module _ {D : Type 0} (honest : Type 0) (words : DiskWords D) (config : Config) (changes pending : List Change)
    (at : ℕ) where
  pub record HearsAfter (peer : List ℕ) (old_session new_session : Session) (piece : List ℕ) (old : Kept D) (row : Row)
      (new : Kept D) (left : Row) (received : Received)
      : Type 0 where
    pub more : List Change
    pub staged : IsStaged (length changes + length pending + 1) received.change more
    pub awaits : Awaits honest words new changes (pending ++ more) left
    pub hears : (said : Said) → SessionHasSaid (setup_for config peer) old_session said
        → HearsInto config changes pending peer at said piece new_session old row new left more received

  pub record ReceivesAfter (number : ℕ) (piece : List ℕ) (old : NodeState D) (row : Row) (new : NodeState D)
      (left : Row) (received : Received)
      : Type 0 where
    pub more : List Change
    pub staged : IsStaged (length changes + length pending + 1) received.change more
    pub awaits : Awaits honest words new.records changes (pending ++ more) left
    pub receives : (peer : List ℕ) (said : Said) → SeatHasSaid config old.seats number peer said
        → ReceivesInto config changes pending peer at number said piece old row new left more received

-- octets of the piece were used: where a change was staged, one at least, and where none was and nothing closed, all
pub record UsesPiece (len : ℕ) (received : Received) : Type 0 where
  pub within : received.used ≤ len
  pub some : received.change ≢ None → 0 < received.used
  pub whole : received.change ≡ None → received.close ≡ false → received.used ≡ len

-- Whatever the records keep, mail was accepted into the queue or not, and no call went to a device. The row is as it
-- was, or the largest spool has room for it.
pub record TakesInto {D : Type 0} (old : Kept D) (row : Row) (new : Kept D) (left : Row) (received : Received)
    : Type 0 where
  pub takes : TakesIn old.queue received.change new.queue
  pub spool : new.spool ≡ old.spool
  pub noted : new.noted ≡ old.noted
  pub room : (left ≡ row) ⊎ (new.spool.size + room_of left.bodies ≤ 2 ^ 40)

-- whatever was said before, a session was heard: octets were used, mail was staged or not, and something was said on it
pub record IsHeardInto {D : Type 0} (config : Config) (peer : List ℕ) (len : ℕ) (old : Kept D) (row : Row)
    (new : Kept D) (left : Row) (session : Session) (received : Received) : Type 0 where
  pub used : UsesPiece len received
  pub takes : TakesInto old row new left received
  pub history : HasHistory config peer session

-- what a live node leaves of records and row that stages nothing
abbrev pub RefusesToHearInto : {D : Type 0} → Kept D → Kept D → Row → Row → NodeFault → Type 0
RefusesToHearInto old new row left NoMemory = (new ≡ old) × (left ≡ row)
RefusesToHearInto old new row left Full = (new ≡ old) × (left ≡ row) × (2 ^ 62 < old.queue.next)
RefusesToHearInto old new row left other = ⊥

-- what such a call leaves that is refused by a live node: the row, and all but the session, which is gone
pub record LeavesRow {D : Type 0} (number : ℕ) (old new : NodeState D) (row left : Row) : Type 0 where
  pub gone : IsGone number old new
  pub row_is : left ≡ row

abbrev pub RefusesToReceiveInto : {D : Type 0} → ℕ → NodeState D → NodeState D → Row → Row → NodeFault → Type 0
RefusesToReceiveInto number old new row left NoMemory = LeavesRow number old new row left
RefusesToReceiveInto number old new row left Full =
    LeavesRow number old new row left × (2 ^ 62 < old.records.queue.next)
RefusesToReceiveInto number old new row left Unknown = (new ≡ old) × (left ≡ row)
RefusesToReceiveInto number old new row left other = ⊥
