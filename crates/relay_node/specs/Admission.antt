-- What a node does with an offer of a session that stands outside of it.
use Rattle.std.specs.Prelude.{◌≡◌, ◌⊎◌, ℕ, ◌+◌, ◌<◌, ◌^◌, true, false, List, [], ◌∷◌, ◌++◌, length, Some, None, Result}
use Rattle.std.specs.Prelude.{Err, IfErr}
use Rattle.relay_disk.specs.Device.{DiskWords}
use Rattle.relay_disk.specs.Disks.{FailsNot}
use Rattle.relay_routes.specs.declared.config.Config.{Config}
use Rattle.relay_server.specs.declared.offer.Answer.{Answer}
use Rattle.relay_server.specs.declared.offer.Answer.TheVariants as answer
use Rattle.relay_server.specs.Dialogue.{Offered}
use Rattle.relay_book.specs.declared.change.Accept.{Accept}
use Rattle.relay_book.specs.declared.change.Change.{Change}
use Rattle.relay_book.specs.declared.change.Change.TheVariants as change
use Rattle.relay_book.specs.Queue.{Queue}
use Rattle.relay_book.specs.StandsFor.{StandsFor}
use Rattle.relay_records.specs.Records.{Adds, Cuts, Kept}
use Rattle.relay_records.specs.declared.fault.NodeFault.{NodeFault}
use Rattle.relay_records.specs.declared.fault.NodeFault.TheVariants.{NoMemory, Stopped, Full}
use Rattle.relay_node.specs.Acceptance.{acceptance_by}
use Rattle.relay_node.specs.Node.{FitsIn, NodeState, RefusesToHear, TakesIn}
use Rattle.relay_node.specs.Room.{Overfills, size_with}

-- The words below are of a call at a time, for a client at this address, of a node that keeps these changes.
module _ {D : Type 0} (honest : Type 0) (words : DiskWords D) (config : Config) (changes : List Change)
    (peer : List ℕ) (at : ℕ) (offer : Offered) (old : Kept D) where
  -- the change of this number accepts the offer, and there was room for it
  pub record IsAdmitted (new : Kept D) (number : ℕ) : Type 0 where
    pub number_is : number ≡ length changes + 1
    pub accept : Accept
    pub fits : FitsIn honest words config changes peer at old offer accept
    pub adds : Adds honest words new changes (change.Accept accept) 0
    pub size : new.spool.size ≡ size_with old.spool.size accept

  -- the offer is queued; or there is no room for it, and nothing has changed
  abbrev pub Admits : Kept D → Answer → Type 0
  Admits new (answer.Queued number) = IsAdmitted new number
  Admits new answer.Full =
      Overfills (acceptance_by config peer (length changes + 1) at) config.spool_limit old.spool.size offer
      × (new ≡ old)

  -- a stop came while its change was added
  pub record CutsOffer (new : Kept D) : Type 0 where
    pub accept : Accept
    pub fits : FitsIn honest words config changes peer at old offer accept
    pub cuts : Cuts honest words new changes (change.Accept accept) 0

  -- the bodies stand for the changes, or for these with one more, which accepts the offer
  abbrev pub StandsForOrAccepts : List (List ℕ) → Type 0
  StandsForOrAccepts bodies =
      StandsFor bodies changes
      ⊎ ((accept : Accept) × FitsIn honest words config changes peer at old offer accept
      × StandsFor bodies (changes ++ change.Accept accept ∷ []))

-- what an answer did to the queue
abbrev pub TakesAnswer : Queue → Answer → Queue → Type 0
TakesAnswer old (answer.Queued number) new = TakesIn old (Some number) new
TakesAnswer old answer.Full new = TakesIn old None new

-- whatever list the records keep, they are live, what the answer says of the queue is so, and no call of the device has
-- failed
pub record HasAnswered {D : Type 0} (words : DiskWords D) (old new : Kept D) (given : Answer) : Type 0 where
  pub takes : TakesAnswer old.queue given new.queue
  pub live : new.spool.live ≡ true
  pub failures : FailsNot words old.spool.disk new.spool.disk

-- A stopped node refuses always, and nothing changes. A live one answers `Full` where changes have no numbers any more,
-- unless memory runs out before that is seen, and nowhere else.
pub record RefusesToAdmit {D T : Type 0} (words : DiskWords D) (old new : NodeState D) (result : Result T NodeFault)
    : Type 0 where
  pub stopped : old.records.spool.live ≡ false → (result ≡ Err Stopped) × (new ≡ old)
  pub refused : old.records.spool.live ≡ true → IfErr result (RefusesToHear words old.records new.records)
  pub full : old.records.spool.live ≡ true → 2 ^ 62 < old.records.queue.next
      → (result ≡ Err NoMemory) ⊎ (result ≡ Err Full)
