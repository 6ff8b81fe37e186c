-- Connections that are leaving: what their peers get, and where they lead.
use Rattle.std.specs.Prelude.{◌≡◌, ◌⊎◌, ◌≤◌, ◌<◌, ◌+◌, ◌^◌, ◌-◌, min, ℕ, nat_eq, Bool, false, List, [], Option}
use Rattle.std.specs.Prelude.{None, Some, Box}
use Rattle.std.specs.Global.{Global}
use Rattle.std.specs.Io.KnownBytes.{Keeps, append_known}
use Rattle.relay_slots.specs.Slots.{slot_at}
use Rattle.relay_connections.specs.Carried.{GetsDialogue, Setting, setup_at}
use Rattle.relay_connections.specs.Channel.{held_of, noted, output_of}
use Rattle.relay_connections.specs.Renewal.{tick_after}
use Rattle.relay_connections.specs.declared.channel.Channel.{Channel}
use Rattle.relay_connections.specs.declared.channel.End.TheVariants.{Broken, Input}
use Rattle.relay_connections.specs.declared.channel.Readiness.{Readiness}
use Rattle.relay_connections.specs.declared.leaving.Leaver.{Leaver}
use Rattle.relay_connections.specs.declared.leaving.Leaving.{Leaving}

-- the connections that are leaving, by number
abbrev pub leavers_of : {S : Type 0} → Leaving S → List (Option (Box (Leaver S) Global))
leavers_of leaving = leaving.leavers

-- it is the place of this number
abbrev pub is_place : ℕ → Option ℕ → Bool
is_place number None = false
is_place number (Some place) = nat_eq place number

-- the connection leads to the next-hop address of this number
abbrev pub goes_to : {S : Type 0} → ℕ → Box (Leaver S) Global → Bool
goes_to number leaver = is_place number leaver.value.place

-- its last octets are written, and nothing is held back
abbrev pub HasGone : {S : Type 0} → Leaver S → Type 0
HasGone leaver = (leaver.outbox ≡ []) × (held_of leaver.channel ≡ [])

-- profile: the tick until which a connection is read after its last octets were written: a second later
abbrev pub read_until : ℕ → ℕ
read_until tick = min (tick + 1000) (2 ^ 64 - 1)

-- its last octets may take this many seconds from a tick on; or they are written, and it is read for a second
abbrev pub IsTimed : {S : Type 0} → ℕ → ℕ → Leaver S → Type 0
IsTimed seconds tick leaver =
    (leaver.deadline ≡ tick_after tick seconds) ⊎ (HasGone leaver × (leaver.deadline ≡ read_until tick))

-- the tick at which it is closed at the latest
abbrev pub closes_at : {S : Type 0} → Box (Leaver S) Global → ℕ
closes_at leaver = leaver.value.deadline

-- a connection after the system has reported this of it: nothing else has changed
abbrev pub noted_leaver : {S : Type 0} → Readiness → Leaver S → Leaver S
noted_leaver reported leaver = record leaver { channel = noted reported leaver.channel }

-- the connection in a slot, if any, after that
abbrev pub HasNotedLeaver
    : {S : Type 0} → Readiness → Option (Box (Leaver S) Global) → Option (Box (Leaver S) Global) → Type 0
HasNotedLeaver reported None new = new ≡ None
HasNotedLeaver reported (Some leaver) None = ⊥
HasNotedLeaver reported (Some leaver) (Some later) = later.value ≡ noted_leaver reported leaver.value

-- Nothing is left to do at this tick: the connection is broken, or its last octets are written and its input has ended,
-- or its time is over.
abbrev pub IsOver : {S : Type 0} → ℕ → Leaver S → Type 0
IsOver tick leaver =
    (leaver.channel.end ≡ Some Broken) ⊎ ((leaver.channel.end ≡ Some Input) × HasGone leaver) ⊎ (leaver.deadline ≤ tick)

-- Below: given what is known of the streams of connections.
module _ {S : Type 0} (remaining contents : S → Option (List ℕ)) where
  -- all that the peer of a connection with these last octets gets: what its stream has taken, what is held back, and
  -- these
  abbrev pub output_with : Channel S → List ℕ → Option (List ℕ)
  output_with channel last = append_known (output_of remaining contents channel) last

  abbrev pub whole_output : Leaver S → Option (List ℕ)
  whole_output leaver = output_with leaver.channel leaver.outbox

  -- it leads where it did, and its peer gets the same octets in all
  pub record IsOneOf (place : Option ℕ) (output : Option (List ℕ)) (leaver : Leaver S) : Type 0 where
    pub place_is : leaver.place ≡ place
    pub output_is : Keeps output (whole_output leaver)

  -- the connection under a number stays; no other comes
  abbrev pub Stays : Option (Box (Leaver S) Global) → Option (Box (Leaver S) Global) → Type 0
  Stays None new = new ≡ None
  Stays (Some leaver) None = ⊥
  Stays (Some leaver) (Some later) = IsOneOf leaver.value.place (whole_output leaver.value) later.value

  -- After a turn at this tick it leads where it did, and its peer gets the same octets in all. It has the same
  -- deadline, unless its last octets were just written.
  pub record GoesOn (tick : ℕ) (leaver later : Leaver S) : Type 0 where
    pub one : IsOneOf leaver.place (whole_output leaver) later
    pub time : (later.deadline ≡ leaver.deadline) ⊎ (HasGone later × (later.deadline ≡ read_until tick))

  -- it has gone on so, and then nothing is left to do
  pub record Closes (tick : ℕ) (leaver : Leaver S) : Type 0 where
    pub last : Leaver S
    pub goes_on : GoesOn tick leaver last
    pub over : IsOver tick last

  -- it goes on, or nothing is left to do and it is closed; no other comes
  abbrev pub StaysOrCloses : ℕ → Option (Box (Leaver S) Global) → Option (Box (Leaver S) Global) → Type 0
  StaysOrCloses tick None new = new ≡ None
  StaysOrCloses tick (Some leaver) None = Closes tick leaver.value
  StaysOrCloses tick (Some leaver) (Some later) =
      GoesOn tick leaver.value later.value × (tick < later.value.deadline)

  -- the slot is as before; if it was free, it may have this connection, with these last octets, which leads there
  abbrev pub MayTake
      : Channel S → List ℕ → Option ℕ → Option (Box (Leaver S) Global) → Option (Box (Leaver S) Global) → Type 0
  MayTake channel last place None None = Unit {0}
  MayTake channel last place None (Some leaver) = IsOneOf place (output_with channel last) leaver.value
  MayTake channel last place (Some leaver) new = new ≡ Some leaver

  -- The slot is as before; if it was free, it may have the connection of a client whose session has ended, and whose
  -- peer gets a dialogue from its start, with the session's parameters.
  abbrev pub MayJoin : Setting → Option (Box (Leaver S) Global) → Option (Box (Leaver S) Global) → Type 0
  MayJoin setting None None = Unit {0}
  MayJoin setting None (Some leaver) =
      (leaver.value.place ≡ None)
      × (number : ℕ)
      × GetsDialogue (setup_at setting number) (setting.beginnings number) (whole_output leaver.value)
  MayJoin setting (Some leaver) new = new ≡ Some leaver

  -- this holds for all slots
  abbrev pub ClientsJoin
      : Setting → List (Option (Box (Leaver S) Global)) → List (Option (Box (Leaver S) Global)) → Type 0
  ClientsJoin setting old new = (number : ℕ) → MayJoin setting (slot_at old number) (slot_at new number)
