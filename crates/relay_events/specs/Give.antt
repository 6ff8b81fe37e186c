-- The first work of a node, and the effect of its calls for that.
use Rattle.std.specs.Prelude.{◌≡◌, ◌⊎◌, ◌<◌, ◌≤◌, ℕ, ◌+◌, List, [], ◌∷◌, ◌++◌, length, Result, Ok, Err, Some, slice_get}
use Rattle.std.specs.Prelude.{slice_set, vec_capacity, vec_len}
use Rattle.relay_disk.specs.Device.{DiskWords}
use Rattle.relay_slots.specs.Slots.{IsFull}
use Rattle.relay_attempts.specs.declared.start.Started.{Started}
use Rattle.relay_attempts.specs.declared.work.Work.{Work}
use Rattle.relay_records.specs.declared.fault.NodeFault.{NodeFault}
use Rattle.relay_records.specs.declared.fault.NodeFault.TheVariants as node_fault
use Rattle.relay_world.specs.declared.attempt.Attempt.{Attempt}
use Rattle.relay_world.specs.declared.link.Link.{Link}
use Rattle.relay_world.specs.Steps.{IsPutAt, started_attempt}
use Rattle.relay_world.specs.GivingUp.{Reason, NoHop}
use Rattle.relay_world.specs.World.{Host, World, link_at}
use Rattle.relay_events.specs.declared.relays.Relays.{Relays}
use Rattle.relay_hosts.specs.declared.work.GivenUp.{GivenUp}
use Rattle.relay_events.specs.Relays.{free_lines}
use Rattle.relay_hosts.specs.Room.{lines_left, lines_to_come}
use Rattle.relay_hosts.specs.Work.{BeginsAttempt, GivesUpOrNot, GivesUpUnlessFull, HasChanges, LacksRoom, attempts_in}
use Rattle.relay_hosts.specs.Work.{works_in}

-- this is the first work that a node has due, at the time of the clock
pub record IsFirstWork {D : Type 0} (world : World D) (node : ℕ) (work : Work) : Type 0 where
  pub host : Host D
  pub host_at : slice_get world.hosts node ≡ Some host
  pub first : slice_get (works_in world.clock host.state) 0 ≡ Some work

-- why a node may refuse to begin an attempt: too little memory, or 64 running attempts
abbrev pub IsWhyNotBegun : {D : Type 0} → Host D → NodeFault → Type 0
IsWhyNotBegun host why = (why ≡ node_fault.NoMemory) ⊎ ((why ≡ node_fault.TooMany) × IsFull (attempts_in host.state))

-- why a node may refuse to give up places without a hop: too little memory, or no room for their outcome
abbrev pub IsWhyNotGivenUp : {D : Type 0} → Type 0 → DiskWords D → ℕ → Host D → ℕ → NodeFault → Type 0
IsWhyNotGivenUp honest words now host message why =
    (why ≡ node_fault.NoMemory) ⊎ ((why ≡ node_fault.Full) × LacksRoom honest words now host.state message)

-- another node has the hop's name; it sees this client address on the link
pub record LeadsOn {D : Type 0} (world : World D) (node : ℕ) (hop : List ℕ) (to : ℕ) (peer : List ℕ) : Type 0 where
  pub opener : Host D
  pub opener_at : slice_get world.hosts node ≡ Some opener
  pub from : peer ≡ opener.config.listen.ip.octets
  pub host : Host D
  pub host_at : slice_get world.hosts to ≡ Some host
  pub named : host.config.host ≡ hop

-- a node has begun an attempt on the link of this number, and the attempt has the last index
pub record HasBegun {D : Type 0} (honest : Type 0) (words : DiskWords D) (old new : World D) (node message : ℕ)
    (hop : List ℕ) (number place : ℕ) : Type 0 where
  pub was : Host D
  pub was_at : slice_get old.hosts node ≡ Some was
  pub now : Host D
  pub started : Started
  pub begins : BeginsAttempt honest words old.clock was now message hop started
  pub attempt : Attempt
  pub is_attempt : started_attempt node message hop started number attempt
  pub place_is : place ≡ length old.attempts
  pub new_is : new ≡ record old { hosts = slice_set old.hosts node now; attempts = old.attempts ++ attempt ∷ [] }

-- a node has begun an attempt, or has refused to, and then nothing has changed
abbrev pub HasBegunOrNot : {D : Type 0} → Type 0 → DiskWords D → World D → World D → ℕ → ℕ → List ℕ → ℕ
    → Result ℕ NodeFault → Type 0
HasBegunOrNot honest words old new node message hop number (Ok place) =
    HasBegun honest words old new node message hop number place
HasBegunOrNot {D} honest words old new node message hop number (Err why) =
    (new ≡ old) × ((host : Host D) × (slice_get old.hosts node ≡ Some host) × IsWhyNotBegun host why)

-- a node has begun an attempt on this link, and has its client end
pub record HasBegunOn {D : Type 0} (honest : Type 0) (words : DiskWords D) (old new : World D) (node message : ℕ)
    (hop : List ℕ) (number place : ℕ) : Type 0 where
  pub blank : Link
  pub blank_at : link_at old.links number ≡ Some blank
  pub middle : World D
  pub begun : HasBegun honest words old middle node message hop number place
  pub moved : List Link
  pub put : IsPutAt old.links moved number (record blank { client = Some (length old.attempts) })
  pub new_is : new ≡ record middle { links = moved }

-- a node has begun an attempt there, or has refused to, and then nothing has changed
abbrev pub HasBegunThere : {D : Type 0} → Type 0 → DiskWords D → World D → World D → ℕ → ℕ → List ℕ → ℕ
    → Result ℕ NodeFault → Type 0
HasBegunThere honest words old new node message hop number (Ok place) =
    HasBegunOn honest words old new node message hop number place
HasBegunThere {D} honest words old new node message hop number (Err why) =
    (new ≡ old) × ((host : Host D) × (slice_get old.hosts node ≡ Some host) × IsWhyNotBegun host why)

-- A node was called to give up places of a message, for a reason. Nothing else has changed yet.
pub record IsCalledToGiveUp {D : Type 0} (honest : Type 0) (words : DiskWords D) (reason : Reason) (old new : World D)
    (node message : ℕ) (given : GivenUp) : Type 0
  where
    pub was : Host D
    pub was_at : slice_get old.hosts node ≡ Some was
    pub has : HasChanges honest words was
    pub now : Host D
    pub gives : GivesUpOrNot honest words reason old.clock was now message given
    pub new_is : new ≡ record old { hosts = slice_set old.hosts node now }

-- a node was called so for the places that have no hop, as its first work
pub record IsCalledByWork {D : Type 0} (honest : Type 0) (words : DiskWords D) (old new : World D)
    (node message : ℕ) (given : GivenUp) : Type 0
  where
    pub called : IsCalledToGiveUp honest words NoHop old new node message given
    pub first : GivesUpUnlessFull honest words old.clock called.was message given

-- the most places of an attempt, or of an outcome
abbrev pub most_places : ℕ
most_places = 100

-- there is room for one more link, one more attempt, and the ledger lines that its places may need
pub record HasRoomForWork {D : Type 0} (relays : Relays D) : Type 0 where
  pub link : vec_len relays.links < vec_capacity relays.links
  pub attempt : vec_len relays.attempts < vec_capacity relays.attempts
  pub lines : lines_to_come relays.attempts.items + lines_left 0 relays.hosts.items + most_places ≤ free_lines relays
