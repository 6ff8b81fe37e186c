-- A script of a play: its lines, and their effect on relays.
use Rattle.std.specs.Prelude.{◌≡◌, ◌⊎◌, ◌<◌, ◌==◌, ℕ, Bool, true, false, List, [], ◌∷◌, ◌++◌, Option, None, Some}
use Rattle.std.specs.Prelude.{Result, ⊤, min}
use Rattle.std.specs.List.{AllByRecursion, Contains, slice_split}
use Rattle.std.specs.Io.KnownBytes.{Consumes, IsAtEnd}
use Rattle.relay_disk.specs.Device.{DiskWords}
use Rattle.relay_disk.specs.declared.memory.MemoryDisk.{MemoryDisk}
use Rattle.relay_world.specs.World.{World}
use Rattle.relay_script.specs.declared.event.Event.{Event as Said}
use Rattle.relay_script.specs.declared.event.Event.TheVariants as said
use Rattle.relay_script.specs.declared.event.ScriptLine.{ScriptLine}
use Rattle.relay_script.specs.declared.event.ScriptLine.TheVariants.{Skipped, Nodes, Event as Happens, Ledger, Marks}
use Rattle.relay_script.specs.declared.event.ScriptLine.TheVariants.{Copies, Lost}
use Rattle.relay_script.specs.Line.{Spells}
use Rattle.relay_events.specs.declared.event.Event.{Event}
use Rattle.relay_events.specs.declared.event.Event.TheVariants.{Connect, Send, Carry, Break, Tick, Give, Compact, Stop}
use Rattle.relay_events.specs.declared.event.Event.TheVariants.{Withdraw}
use Rattle.relay_book.specs.declared.change.Withdrawal.TheVariants.{Return, Discard}
use Rattle.relay_events.specs.declared.fault.PairFault.{PairFault}
use Rattle.relay_events.specs.declared.seen.Seen.{Seen}
use Rattle.relay_world.specs.GivingUp.{Withdrawing}
use Rattle.relay_world.specs.Leaks.{NothingLeaks}
use Rattle.relay_events.specs.Happened.{HasHappenedFor, asked_for}
use Rattle.relay_events.specs.Step.{Steps}
use Rattle.relay_pair.specs.Begin.{HasBegunAsMany, HasBegunAsTwo}
use Rattle.relay_pair.specs.Promise.{KeepsItsPromise}
use Rattle.relay_play.specs.declared.state.PlayState.{PlayState}

-- an octet ends a line
abbrev pub is_line_feed : ℕ → Bool
is_line_feed octet = octet == 10

-- none of these octets is a line feed
abbrev pub HasNoLineFeed : List ℕ → Type 0
HasNoLineFeed [] = ⊤
HasNoLineFeed (octet ∷ octets) = (is_line_feed octet ≡ false) × HasNoLineFeed octets

-- the event that a line of a script stands for; a place past 255 is none, as 255 is
abbrev pub event_in : Said → Event
event_in (said.Connect node) = Connect node
event_in (said.Send link text) = Send link text
event_in (said.Carry link node count) = Carry link node count
event_in (said.Break link) = Break link
event_in (said.Tick moment) = Tick moment
event_in (said.Give node) = Give node
event_in (said.Compact node) = Compact node
event_in (said.Stop node calls pick) = Stop node calls pick
event_in (said.Return node number place) = Withdraw node number (min place 255) Return
event_in (said.Discard node number place) = Withdraw node number (min place 255) Discard

-- the node that an event names, if it names one
abbrev pub named_by : Said → Option ℕ
named_by (said.Connect node) = Some node
named_by (said.Send link text) = None
named_by (said.Carry link node count) = Some node
named_by (said.Break link) = None
named_by (said.Tick moment) = None
named_by (said.Give node) = Some node
named_by (said.Compact node) = Some node
named_by (said.Stop node calls pick) = Some node
named_by (said.Return node number place) = Some node
named_by (said.Discard node number place) = Some node

-- the node that a line names, if it names one
abbrev pub named_in : ScriptLine → Option ℕ
named_in Skipped = None
named_in (Nodes count) = None
named_in (Happens event) = named_by event
named_in Ledger = None
named_in Marks = None
named_in (Copies node number place) = Some node
named_in (Lost node number place) = Some node

-- a named node is one of this many
abbrev pub IsAmong : Option ℕ → ℕ → Type 0
IsAmong None nodes = ⊤
IsAmong (Some node) nodes = node < nodes

-- the octets that were read have this property
abbrev pub IsRead : Option (List ℕ) → Option (List ℕ) → (List ℕ → Type 0) → Type 0
IsRead old new IsOf = (octets : List ℕ) × Consumes old new octets × IsOf octets

-- all octets that were left were read, and have this property
abbrev pub IsReadTo : Option (List ℕ) → Option (List ℕ) → (List ℕ → Type 0) → Type 0
IsReadTo old new IsOf = IsAtEnd new × IsRead old new IsOf

module _ (honest : Type 0) (words : DiskWords MemoryDisk) where
  -- two relays before any event and any line, which keep the promise
  pub record HasNotBegun (play : PlayState) : Type 0 where
    pub two : HasBegunAsTwo honest words play.pair
    pub promise : KeepsItsPromise honest words [] play.pair play.pair
    pub nodes : play.nodes ≡ 2
    pub said : play.has_begun ≡ false

  -- The effect of a line on a play: the first significant line may set the number of nodes; an event happens; a
  -- question changes nothing.
  abbrev pub Does : ScriptLine → PlayState → PlayState → Type 0
  Does Skipped old new = new ≡ old
  Does (Nodes count) old new =
      (old.has_begun ≡ false) × HasBegunAsMany honest words count new.pair
      × KeepsItsPromise honest words [] new.pair new.pair
      × (new ≡ record old { pair = new.pair; nodes = count; has_begun = true })
  Does (Happens event) old new =
      ((answer : Result Seen PairFault) × Steps honest words old.pair (event_in event) new.pair answer)
      × HasHappenedFor honest words (event_in event) old.pair new.pair × NothingLeaks new.pair
      × (new ≡ record old { pair = new.pair; has_begun = true })
  Does Ledger old new = new ≡ record old { has_begun = true }
  Does Marks old new = new ≡ record old { has_begun = true }
  Does (Copies node number place) old new = new ≡ record old { has_begun = true }
  Does (Lost node number place) old new = new ≡ record old { has_begun = true }

  -- a text spells a line that names only nodes of the play, and has this effect
  pub record PlaysLine (text : List ℕ) (old new : PlayState) : Type 0 where
    pub line : ScriptLine
    pub spells : Spells text line
    pub among : IsAmong (named_in line) old.nodes
    pub does : Does line old new

  -- the effect of lines, one after another
  abbrev pub PlaysEach : List (List ℕ) → PlayState → PlayState → Type 0
  PlaysEach [] old new = new ≡ old
  PlaysEach (text ∷ texts) old new = (mid : PlayState) × PlaysLine text old mid × PlaysEach texts mid new

  -- the effect of the lines of a script: each ends with LF, the last one also with the script
  abbrev pub PlaysAll : PlayState → List ℕ → PlayState → Type 0
  PlaysAll first script last = PlaysEach (slice_split is_line_feed script) first last

  -- the relays at the start of a script: two, or as many as it says
  abbrev pub StartsAs : PlayState → World MemoryDisk → Type 0
  StartsAs first start = (start ≡ first.pair) ⊎ ((count : ℕ) × HasBegunAsMany honest words count start)

  -- One of the lines of a script asks for this withdrawal.
  pub record IsAskedIn (script : List ℕ) (one : Withdrawing) : Type 0 where
    pub text : List ℕ
    pub line : Contains (slice_split is_line_feed script) text
    pub event : Said
    pub says : Spells text (Happens event)
    pub asks : Contains (asked_for (event_in event)) one

  -- These are the relays at the end of a script. By all events since the start they keep the promise for mail.
  pub record IsPlayed (script : List ℕ) (world : World MemoryDisk) : Type 0 where
    pub first : PlayState
    pub begins : HasNotBegun first
    pub last : PlayState
    pub plays : PlaysAll first script last
    pub world_is : world ≡ last.pair
    pub start : World MemoryDisk
    pub starts : StartsAs first start
    pub asked : List Withdrawing
    pub by_lines : AllByRecursion (IsAskedIn script) asked
    pub promise : KeepsItsPromise honest words asked start world

  -- The state within a script: the complete lines were played, and the octets after them belong to one line.
  pub record HasPlayed (first : PlayState) (front begun : List ℕ) (now : PlayState) : Type 0 where
    pub lines : List (List ℕ)
    pub splits : (more : List ℕ)
        → slice_split is_line_feed (front ++ more) ≡ lines ++ slice_split is_line_feed (begun ++ more)
    pub bare : HasNoLineFeed begun
    pub plays : PlaysEach lines first now

  -- one read gave octets, whose complete lines were played; at the end of the input the last line was too
  abbrev pub PlaysBlock : Option (List ℕ) → Option (List ℕ) → PlayState → List ℕ → List ℕ → PlayState → Bool → Type 0
  PlaysBlock old new first front begun now false =
      IsRead old new (λ octets. HasPlayed first (front ++ octets) begun now)
  PlaysBlock old new first front begun now true = IsRead old new (λ octets. PlaysAll first (front ++ octets) now)
