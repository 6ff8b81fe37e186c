-- Notifying the nodes at the ends of broken links.
use Rattle.std.specs.Prelude.{◌≡◌, ◌⊎◌, ◌<◌, ℕ, ◌+◌, zero, suc, nat_eq, Bool, true, false, ◌&&◌, ◌||◌, List, []}
use Rattle.std.specs.Prelude.{◌∷◌, ◌++◌, Some, if◌then◌else◌}
use Rattle.relay_disk.specs.Device.{DiskWords}
use Rattle.relay_world.specs.declared.attempt.Attempt.{Attempt}
use Rattle.relay_world.specs.declared.link.Link.{Link}
use Rattle.relay_world.specs.Crashes.{CrashesLosing}
use Rattle.relay_world.specs.Steps.{DropsAttempt, EndsSession, HasLost}
use Rattle.relay_world.specs.Stops.{HasReopened, IsRefused}
use Rattle.relay_world.specs.World.{World, link_at}
use Rattle.relay_records.specs.declared.fault.NodeFault.{NodeFault}
use Rattle.relay_hosts.specs.Call.{IsWhyUntold}
use Rattle.relay_hosts.specs.Links.{hears_on, is_running, is_untold, tries_on}

-- a session runs at the server end of the link of this number
pub record HearsAt {D : Type 0} (world : World D) (number : ℕ) : Type 0 where
  pub link : Link
  pub link_is : link_at world.links number ≡ Some link
  pub hears : hears_on link.server ≡ true

-- an attempt runs at the client end of the link of this number
pub record TriesAt {D : Type 0} (world : World D) (number : ℕ) : Type 0 where
  pub link : Link
  pub link_is : link_at world.links number ≡ Some link
  pub tries : tries_on world.attempts link.client ≡ true

-- All nodes are notified of all broken links: no session and no attempt runs on a broken link.
abbrev pub LearnsOfBreaks : {D : Type 0} → World D → Type 0
LearnsOfBreaks world =
    (number : ℕ) (link : Link) → link_at world.links number ≡ Some link → is_untold world.attempts link ≡ false

-- the link of this number is the first of which a node isn't notified yet
pub record IsFirstUntold {D : Type 0} (world : World D) (number : ℕ) : Type 0 where
  pub link : Link
  pub link_is : link_at world.links number ≡ Some link
  pub untold : is_untold world.attempts link ≡ true
  pub first : (lower : ℕ) (other : Link) → lower < number → link_at world.links lower ≡ Some other
      → is_untold world.attempts other ≡ false

module _ {D : Type 0} (honest : Type 0) (words : DiskWords D) where
  -- a node that went down has been opened again, or couldn't be opened
  abbrev pub IsOpened : World D → World D → ℕ → Type 0
  IsOpened old new node = HasReopened honest words old new node ⊎ IsRefused honest words old new node

  -- the node was notified of the loss of its attempt's link, and stopped in that call
  pub record CrashesTold (old new : World D) (number node : ℕ) : Type 0 where
    pub down : World D
    pub crash : CrashesLosing honest words old down number
    pub its_node : crash.of.attempt.node ≡ node
    pub opened : IsOpened down new node

  -- One end of a broken link was notified: the session has ended; or the attempt has its outcome, or is gone without
  -- one for lack of memory or room; or the node stopped in that call.
  pub data TellsOne (old new : World D) (number : ℕ) : List ℕ → Type 0 where
    Ends : EndsSession old new number → TellsOne old new number []
    Loses : (change : ℕ) → HasLost honest words old new number change → TellsOne old new number []
    Drops : (why : NodeFault) → (drops : DropsAttempt old new number)
        → IsWhyUntold honest words old.clock drops.of.host.state drops.of.slot why → TellsOne old new number []
    Crashes : (node : ℕ) → CrashesTold old new number node → TellsOne old new number (node ∷ [])

  -- one end was notified, and the node that stopped in it, if one did, was added to the list
  abbrev pub TellsSome : World D → World D → ℕ → List ℕ → List ℕ → Type 0
  TellsSome old new number were are = (one : List ℕ) × TellsOne old new number one × (are ≡ were ++ one)

  -- This many ends were notified, one after another, always on the broken link of the lowest number, and these nodes
  -- stopped in it.
  abbrev pub Tell : ℕ → World D → World D → List ℕ → Type 0
  Tell zero old new stopped = (new ≡ old) × (stopped ≡ [])
  Tell (suc turns) old new stopped =
      (before : World D) × ((earlier : List ℕ) × Tell turns old before earlier
      × ((number : ℕ) × IsFirstUntold before number × ((one : List ℕ) × TellsOne before new number one
      × (stopped ≡ earlier ++ one))))

  -- ends were notified until none was left
  pub record AreTold (old new : World D) : Type 0 where
    pub turns : ℕ
    pub stopped : List ℕ
    pub tell : Tell turns old new stopped
    pub told : LearnsOfBreaks new

  -- ends were notified until none was left, and the nodes that stopped in it were added to the list
  abbrev pub AreToldTo : World D → World D → List ℕ → List ℕ → Type 0
  AreToldTo old new were are = (told : AreTold old new) × (are ≡ were ++ told.stopped)

-- how many ends are running: sessions at server ends, and attempts
abbrev pub sessions_of : List Link → ℕ
sessions_of [] = 0
sessions_of (link ∷ links) = (if hears_on link.server then 1 else 0) + sessions_of links

abbrev pub running_of : List Attempt → ℕ
running_of [] = 0
running_of (attempt ∷ attempts) = (if is_running attempt.fate then 1 else 0) + running_of attempts

abbrev pub ends_of : {D : Type 0} → World D → ℕ
ends_of world = sessions_of world.links + running_of world.attempts

-- whether an attempt of this node is running
abbrev pub runs_for : ℕ → List Attempt → Bool
runs_for node [] = false
runs_for node (attempt ∷ attempts) =
    (nat_eq attempt.node node && is_running attempt.fate) || runs_for node attempts

-- how many of this many nodes, the first ones, have a running attempt
unfoldable pub trying_of : ℕ → List Attempt → ℕ
trying_of zero attempts = 0
trying_of (suc node) attempts = (if runs_for node attempts then 1 else 0) + trying_of node attempts
