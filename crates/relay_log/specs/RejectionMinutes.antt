-- Which refusals to clients have a line in the log: the first ten of each address and minute. A minute of an address
-- begins with a refusal to one of its clients; after the minute, one line has the number of the others.
use Rattle.std.specs.Prelude.{◌≡◌, ◌⊎◌, ℕ, ◌+◌, ◌*◌, ◌-◌, ◌^◌, ◌<◌, ◌≤◌, min, nat_lt, Bool, true, false, ◌&&◌}
use Rattle.std.specs.Prelude.{List, length, Option, None, Some, bytes_eq, slice_index_or, slice_set, if◌then◌else◌}
use Rattle.std.specs.declared.net.socket_addr.SocketAddrV4.{SocketAddrV4}
use Rattle.std.specs.Net.Addr.{ipv4_octets}
use Rattle.std.specs.Net.Socket.{v4_ip}
use Rattle.relay_log.specs.declared.rejection_minutes.RejectionMinute.{RejectionMinute}
use Rattle.relay_log.specs.declared.rejection_minutes.RejectionMinutes.{RejectionMinutes}

-- the places for minutes, of which some are free
abbrev pub places_of : RejectionMinutes → List (Option RejectionMinute)
places_of minutes = minutes.places

-- the minute in the place of this number; none after the last one
abbrev pub minute_at : List (Option RejectionMinute) → ℕ → Option RejectionMinute
minute_at places number = slice_index_or places number None

-- the place has a minute of this IPv4 address that isn't over at this tick
abbrev pub is_running : List ℕ → ℕ → Option RejectionMinute → Bool
is_running address tick None = false
is_running address tick (Some minute) =
    nat_lt tick minute.end && bytes_eq (ipv4_octets (v4_ip minute.peer)) address

-- no place has one
abbrev pub RunsNowhere : List ℕ → ℕ → List (Option RejectionMinute) → Type 0
RunsNowhere address tick places = (number : ℕ) → is_running address tick (minute_at places number) ≡ false

-- profile: a refusal in a minute has a line if fewer than ten of this minute have one
abbrev pub has_line : RejectionMinute → Bool
has_line minute = nat_lt minute.lines 10

-- the minute after one more refusal to a client of its address
abbrev pub again : SocketAddrV4 → RejectionMinute → RejectionMinute
again peer minute =
    if has_line minute
    then record { peer = peer; end = minute.end; lines = minute.lines + 1; untold = minute.untold }
    else record { peer = peer; end = minute.end; lines = minute.lines; untold = min (minute.untold + 1) (2 ^ 64 - 1) }

-- profile: the minute of 60 seconds that a refusal begins, which has a line
abbrev pub begun : SocketAddrV4 → ℕ → RejectionMinute
begun peer tick = record { peer = peer; end = min (tick + 60 * 1000) (2 ^ 64 - 1); lines = 1; untold = 0 }

-- when the minute in a place is over; a free place has none that goes on
abbrev pub end_of : Option RejectionMinute → ℕ
end_of None = 0
end_of (Some minute) = minute.end

abbrev pub end_at : List (Option RejectionMinute) → ℕ → ℕ
end_at places number = end_of (minute_at places number)

-- that of two places whose minute is over first
abbrev pub first_of : List (Option RejectionMinute) → ℕ → ℕ → ℕ
first_of places one other = if nat_lt (end_at places other) (end_at places one) then other else one

-- no minute is over before that in this place
pub record IsFirst (places : List (Option RejectionMinute)) (number : ℕ) : Type 0 where
  pub within : number < length places
  pub first : (other : ℕ) → other < length places → end_at places number ≤ end_at places other

-- a refusal at this tick is in a minute that runs for its address: it has a line as that minute says, and no place is
-- given to another address
pub record GoesOn (peer : SocketAddrV4) (tick : ℕ) (old new : List (Option RejectionMinute)) (line : Bool)
    (taken : Option RejectionMinute) : Type 0 where
  pub number : ℕ
  pub minute : RejectionMinute
  pub there : minute_at old number ≡ Some minute
  pub runs : is_running (ipv4_octets (v4_ip peer)) tick (Some minute) ≡ true
  pub counted : new ≡ slice_set old number (Some (again peer minute))
  pub line_is : line ≡ has_line minute
  pub none_taken : taken ≡ None

-- a refusal begins a minute of its address: it has a line, and takes a free place, or else that of the minute that is
-- over first, of which the caller is told
pub record Begins (peer : SocketAddrV4) (tick : ℕ) (old new : List (Option RejectionMinute)) (line : Bool)
    (taken : Option RejectionMinute) : Type 0 where
  pub number : ℕ
  pub unknown : RunsNowhere (ipv4_octets (v4_ip peer)) tick old
  pub first : IsFirst old number
  pub begins : new ≡ slice_set old number (Some (begun peer tick))
  pub line_is : line ≡ true
  pub taken_is : taken ≡ minute_at old number

-- a refusal to a client at a tick
abbrev pub Notes : SocketAddrV4 → ℕ → List (Option RejectionMinute) → List (Option RejectionMinute) → Bool
    → Option RejectionMinute → Type 0
Notes peer tick old new line taken = GoesOn peer tick old new line taken ⊎ Begins peer tick old new line taken

-- the minute of a place, if it is over at this tick
abbrev pub over_at : ℕ → Option RejectionMinute → Option RejectionMinute
over_at tick None = None
over_at tick (Some minute) = if nat_lt tick minute.end then None else Some minute

-- the places after a minute was taken out of one
abbrev pub without : List (Option RejectionMinute) → ℕ → Option RejectionMinute → List (Option RejectionMinute)
without places number None = places
without places number (Some minute) = slice_set places number None

abbrev pub left_after : ℕ → List (Option RejectionMinute) → ℕ → List (Option RejectionMinute)
left_after tick places number = without places number (over_at tick (minute_at places number))

-- the tick isn't after the end of a minute that has refusals without a line
abbrev pub IsNotLate : ℕ → Option RejectionMinute → Type 0
IsNotLate tick None = Unit {0}
IsNotLate tick (Some minute) = 0 < minute.untold → tick ≤ minute.end
