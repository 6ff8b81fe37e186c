-- One attempt at a time: of a node's attempts to relay a place of a message, at most one runs or has relayed it.
use Rattle.std.specs.Prelude.{◌≡◌, ◌⊎◌, ℕ, zero, suc, Bool, true, List, [], ◌++◌, None, Some, slice_get}
use Rattle.std.specs.List.{AllByRecursion, Contains}
use Rattle.relay_lines.specs.Reply.{Reply}
use Rattle.relay_disk.specs.Device.{DiskWords}
use Rattle.relay_disk.specs.declared.disks.Disks.{Disks}
use Rattle.relay_attempts.specs.Hops.{goes_to, hop_of_place}
use Rattle.relay_book.specs.declared.change.Accept.{Accept}
use Rattle.relay_book.specs.declared.change.Change.{Change}
use Rattle.relay_book.specs.declared.change.Change.TheVariants as change
use Rattle.relay_book.specs.declared.change.Outcome.{Outcome}
use Rattle.relay_book.specs.declared.change.Verdict.{Verdict}
use Rattle.relay_book.specs.declared.change.Verdict.TheVariants.{NoRoute, Taken, Withdrawn}
use Rattle.relay_book.specs.declared.change.Withdrawal.{Withdrawal}
use Rattle.relay_book.specs.Marks.{change_at, message_at}
use Rattle.relay_book.specs.Record.{IsChange, encode}
use Rattle.relay_node.specs.Node.{NodeState}
use Rattle.relay_routes.specs.Routes.{RouteTable}
use Rattle.relay_world.specs.declared.attempt.Attempt.{Attempt}
use Rattle.relay_world.specs.declared.attempt.Fate.{Fate}
use Rattle.relay_world.specs.declared.attempt.Fate.TheVariants.{Running, Replied, Lost, Dropped}
use Rattle.relay_world.specs.declared.link.Link.{Link}
use Rattle.relay_world.specs.Bound.{IsBound, StandsAt}
use Rattle.relay_world.specs.GivingUp.{IsAsked, Reason, Withdrawing, asked_by}
use Rattle.relay_world.specs.Groups.{HasHeardAll, HasReopenedAfterGroup, Piece}
use Rattle.relay_world.specs.HangUp.{HangsUp}
use Rattle.relay_world.specs.Ledger.{accepts_on}
use Rattle.relay_world.specs.HopLinks.{AreLinkedToHops}
use Rattle.relay_world.specs.Lines.{HasSources}
use Rattle.relay_world.specs.Passing.{Rules}
use Rattle.relay_world.specs.Steps.{Breaks, CutsOff, DropsAttempt, EndsSession, HasGivenUp, HasHeard, HasLost}
use Rattle.relay_world.specs.Steps.{HasOpened, HasRead, HasStarted, HasTicked, HasWritten}
use Rattle.relay_world.specs.Stops.{HasReopened, HasStopped, StaysDown, StaysUp, StopsGivingUp, StopsHearing}
use Rattle.relay_world.specs.Stops.{StopsLosing, StopsReading}
use Rattle.relay_world.specs.World.{Down, FromGivingUp, Host, Undecided, Up, World, link_at}

-- an attempt in this state claims a place: it runs, or replies ended it and took the place
abbrev pub Claims : List Change → ℕ → Fate → Type 0
Claims changes place (Running slot) = Unit {0}
Claims changes place (Replied number) = (dsn : Bool) × Rules changes number place (Taken dsn)
Claims changes place (Lost number) = ⊥
Claims changes place Dropped = ⊥

-- the attempt at this index is for this place of the node's message, and claims it
pub record ClaimsAt {D : Type 0} (world : World D) (lists : List (List Change)) (at node message place : ℕ)
    : Type 0 where
  pub attempt : Attempt
  pub is_there : slice_get world.attempts at ≡ Some attempt
  pub its_node : attempt.node ≡ node
  pub its_message : attempt.message ≡ message
  pub tries : Contains attempt.places.items place
  pub changes : List Change
  pub list_at : slice_get lists node ≡ Some changes
  pub claims : Claims changes place attempt.fate

-- each place that the attempt tries goes to its hop, by its node's routes
pub record GoesToHop {D : Type 0} (world : World D) (lists : List (List Change)) (attempt : Attempt) : Type 0 where
  pub host : Host D
  pub changes : List Change
  pub stands : StandsAt world lists attempt.node host changes
  pub accept : Accept
  pub accepted : message_at changes attempt.message ≡ Some accept
  pub each : AllByRecursion
      (λ place. goes_to host.config.routes accept.envelope.recipients attempt.hop place ≡ true) attempt.places.items

-- an attempt of the node has ended with the change of this number as its outcome: by replies, or by the loss of its
-- link
pub record IsOutcomeOf {D : Type 0} (world : World D) (node number : ℕ) : Type 0 where
  pub at : ℕ
  pub attempt : Attempt
  pub is_there : slice_get world.attempts at ≡ Some attempt
  pub its_node : attempt.node ≡ node
  pub ended : (attempt.fate ≡ Replied number) ⊎ (attempt.fate ≡ Lost number)

-- each verdict of an outcome says that a place has no hop, and these routes give the place none
pub record HasNoHops (routes : RouteTable) (changes : List Change) (outcome : Outcome) : Type 0 where
  pub accept : Accept
  pub accepted : message_at changes outcome.message ≡ Some accept
  pub each : (place : ℕ) (verdict : Verdict) → Contains outcome.rulings (record { place = place; verdict = verdict })
      → (verdict ≡ NoRoute) × (hop_of_place routes accept.envelope.recipients place ≡ None)

-- each verdict of an outcome is the postmaster's, who has asked a node for it
pub record IsWithdrawal (asked : List Withdrawing) (node : ℕ) (outcome : Outcome) : Type 0 where
  pub each : (place : ℕ) (verdict : Verdict) → Contains outcome.rulings (record { place = place; verdict = verdict })
      → (withdrawal : Withdrawal) × (verdict ≡ Withdrawn withdrawal)
      × IsAsked asked node outcome.message place withdrawal

-- an outcome of a node without an attempt is of one of the two
abbrev pub EndsAlone : List Withdrawing → ℕ → RouteTable → List Change → Outcome → Type 0
EndsAlone asked node routes changes outcome = HasNoHops routes changes outcome ⊎ IsWithdrawal asked node outcome

-- if the record's change is an outcome, it gives up places without a hop
pub record GivesUpAlone (asked : List Withdrawing) (node : ℕ) (routes : RouteTable) (changes : List Change)
    (octets : List ℕ) : Type 0 where
  pub one : Change
  pub valid : IsChange one
  pub octets_are : octets ≡ encode one
  pub alone : (outcome : Outcome) → one ≡ change.Outcome outcome → EndsAlone asked node routes changes outcome

-- No place is tried twice at a time, or again after an attempt that passed it on; and what is withdrawn the postmaster
-- has asked for.
pub record IsTriedOnce {D : Type 0} (world : World D) (lists : List (List Change)) (asked : List Withdrawing)
    : Type 0 where
  pub once : (one other node message place : ℕ) → ClaimsAt world lists one node message place
      → ClaimsAt world lists other node message place → one ≡ other
  -- a place has one hop, so message and hop determine the attempt
  pub hops : (at : ℕ) (attempt : Attempt) → slice_get world.attempts at ≡ Some attempt → GoesToHop world lists attempt
  -- an outcome is that of an attempt that has ended with it, or gives up places without an attempt
  pub outcomes : (node number : ℕ) (host : Host D) (changes : List Change) (outcome : Outcome)
      → StandsAt world lists node host changes → change_at changes number ≡ Some (change.Outcome outcome)
      → IsOutcomeOf world node number ⊎ EndsAlone asked node host.config.routes changes outcome
  -- so does an undecided change that came from no attempt
  pub given_up : (node message : ℕ) (host : Host D) (changes : List Change) (disk : Disks D) (undecided : Undecided)
      → StandsAt world lists node host changes → host.state ≡ Down disk (Some undecided)
      → undecided.origin ≡ FromGivingUp message
      → GivesUpAlone asked node host.config.routes changes undecided.note.octets
  -- no node has accepted anything on a link that no node serves
  pub outside : (number : ℕ) (link : Link) → link_at world.links number ≡ Some link → link.server ≡ None
      → accepts_on number world.ledger ≡ []

-- one event leads from the old world to the new one
pub data Happens {D : Type 0} (honest : Type 0) (words : DiskWords D) (old new : World D) : Type 0 where
  Opens : (node : ℕ) (peer : List ℕ) → HasOpened old new node peer → Happens honest words old new
  Writes : (number : ℕ) (octets : List ℕ) → HasWritten old new number octets → Happens honest words old new
  Hears : (number count : ℕ) → HasHeard honest words old new number count → Happens honest words old new
  HearsAll : (node : ℕ) (pieces : List Piece) → HasHeardAll honest words old new node pieces
      → Happens honest words old new
  Ends : (number : ℕ) → EndsSession old new number → Happens honest words old new
  Closes : (number : ℕ) (reply : Reply) → CutsOff old new number reply → Happens honest words old new
  Reads : (number count : ℕ) → HasRead honest words old new number count → Happens honest words old new
  Loses : (number change : ℕ) → HasLost honest words old new number change → Happens honest words old new
  Drops : (number : ℕ) → DropsAttempt old new number → Happens honest words old new
  BreaksOff : (number : ℕ) → Breaks old new number → Happens honest words old new
  Starts : (number message : ℕ) (hop : List ℕ) → HasStarted honest words old new number message hop
      → Happens honest words old new
  GivesUp : (reason : Reason) (node message change : ℕ) → HasGivenUp honest words old new reason node message change
      → Happens honest words old new
  Stops : (node : ℕ) → HasStopped honest words old new node → Happens honest words old new
  StopsInHearing : (number count : ℕ) → StopsHearing honest words old new number count → Happens honest words old new
  StopsInReading : (number count : ℕ) → StopsReading honest words old new number count → Happens honest words old new
  StopsInLosing : (number : ℕ) → StopsLosing honest words old new number → Happens honest words old new
  StopsInGivingUp : (reason : Reason) (node message : ℕ) → StopsGivingUp honest words old new reason node message
      → Happens honest words old new
  IsNotOpened : (node : ℕ) → StaysDown honest words old new node → Happens honest words old new
  Reopens : (node : ℕ) → HasReopened honest words old new node → Happens honest words old new
  ReopensAfterGroup : (node : ℕ) (pieces : List Piece) → HasReopenedAfterGroup honest words old new node pieces
      → Happens honest words old new
  Ticks : (now : ℕ) → HasTicked old new now → Happens honest words old new
  LetsGo : (node : ℕ) → HangsUp old new node → Happens honest words old new
  GoesOn : (node : ℕ) → StaysUp honest words old new node → Happens honest words old new

-- what the postmaster asks for by an event, whether the node stops in it or not; other events are not his
abbrev pub asked_at : {D : Type 0} (honest : Type 0) (words : DiskWords D) (old new : World D)
    → Happens honest words old new → List Withdrawing
asked_at honest words old new (GivesUp reason node message change is) = asked_by reason node message
asked_at honest words old new (StopsInGivingUp reason node message is) = asked_by reason node message
asked_at honest words old new _ = []

-- This holds if each node is up, and no link, attempt or accept exists yet.
abbrev pub OnceAtFirst : {D : Type 0} → DiskWords D → Type 0
OnceAtFirst {D} words =
    (world : World D) (lists : List (List Change))
    → ((node : ℕ) (changes : List Change) → slice_get lists node ≡ Some changes → changes ≡ [])
    → ((node : ℕ) (host : Host D) → slice_get world.hosts node ≡ Some host
    → (standing : NodeState D) × (host.state ≡ Up standing))
    → world.attempts ≡ [] → world.ledger ≡ [] → IsTriedOnce world lists []

-- Each event keeps it so, by whatever lists both worlds are bound, with what the postmaster asks for by it.
abbrev pub OnceIsKept : {D : Type 0} → Type 0 → DiskWords D → Type 0
OnceIsKept {D} honest words =
    (old new : World D) (lists later : List (List Change)) (asked : List Withdrawing) → IsBound honest words old lists
    → IsTriedOnce old lists asked → (happens : Happens honest words old new) → IsBound honest words new later
    → IsTriedOnce new later (asked_at honest words old new happens ++ asked)

-- Each event preserves that attempts have the right links.
abbrev pub HopLinksAreKept : {D : Type 0} → Type 0 → DiskWords D → Type 0
HopLinksAreKept {D} honest words =
    (old new : World D) → AreLinkedToHops old → Happens honest words old new → AreLinkedToHops new

-- Each event preserves that each line of the ledger has its source.
abbrev pub SourcesAreKept : {D : Type 0} → Type 0 → DiskWords D → Type 0
SourcesAreKept {D} honest words =
    (old new : World D) (lists later : List (List Change)) (asked : List Withdrawing) → IsBound honest words old lists
    → IsTriedOnce old lists asked
    → HasSources old lists → Happens honest words old new → IsBound honest words new later → HasSources new later

-- this many events, one after another, lead from the first world to the last
abbrev pub Happen : {D : Type 0} → Type 0 → DiskWords D → ℕ → World D → World D → Type 0
Happen honest words zero old new = new ≡ old
Happen {D} honest words (suc count) old new =
    (next : World D) × Happens honest words old next × Happen honest words count next new

-- what the postmaster has asked for after a run, the last first, where this was asked for before it
abbrev pub asked_in : {D : Type 0} (honest : Type 0) (words : DiskWords D) (count : ℕ) (old new : World D)
    → Happen honest words count old new → List Withdrawing → List Withdrawing
asked_in honest words zero old new run asked = asked
asked_in honest words (suc count) old new run asked =
    asked_in honest words count run.0 new run.2 (asked_at honest words old run.0 run.1 ++ asked)

-- a run of this many events, in which the postmaster asks for just this
pub record HappenAsking {D : Type 0} (honest : Type 0) (words : DiskWords D) (asked : List Withdrawing) (count : ℕ)
    (old new : World D) : Type 0 where
  pub run : Happen honest words count old new
  pub asks : (before : List Withdrawing) → asked_in honest words count old new run before ≡ asked ++ before

-- On honest disks, any number of events preserve the invariant, and also that each place is tried once, that attempts
-- have the right links, and that ledger lines have their sources.
abbrev pub RunsKeepAll : {D : Type 0} → Type 0 → DiskWords D → Type 0
RunsKeepAll {D} honest words =
    honest → (count : ℕ) (old new : World D) (lists : List (List Change)) (asked : List Withdrawing)
    → IsBound honest words old lists → IsTriedOnce old lists asked → AreLinkedToHops old → HasSources old lists
    → (run : Happen honest words count old new)
    → (later : List (List Change)) × IsBound honest words new later
    × IsTriedOnce new later (asked_in honest words count old new run asked) × AreLinkedToHops new
    × HasSources new later
