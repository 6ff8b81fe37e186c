-- Which refused clients are logged: the time of the last line for each address, and how many of its clients were
-- refused since.
use Rattle.std.specs.Prelude.{◌≡◌, ℕ, ◌+◌, ◌*◌, ◌-◌, ◌^◌, min, nat_lt, Bool, true, false, List}
use Rattle.std.specs.Prelude.{Option, None, Some, bytes_eq, slice_set, if◌then◌else◌}
use Rattle.std.specs.declared.net.socket_addr.SocketAddrV4.{SocketAddrV4}
use Rattle.std.specs.Net.Addr.{ipv4_octets}
use Rattle.std.specs.Net.Socket.{v4_ip}
use Rattle.relay_slots.specs.Slots.{slot_at}
use Rattle.relay_connections.specs.declared.refusals.Refusals.{Refusals}
use Rattle.relay_connections.specs.declared.refusals.Tally.{Tally}
use Rattle.relay_connections.specs.Table.{is_such}

-- the tallies of the addresses that had a line in the last minute
abbrev pub tallies_of : Refusals → List (Option Tally)
tallies_of refusals = refusals.tallies

-- the tally is of this IPv4 address
abbrev pub is_of : List ℕ → Tally → Bool
is_of address tally = bytes_eq (ipv4_octets (v4_ip tally.peer)) address

-- the address has no tally
abbrev pub IsUnknown : List ℕ → List (Option Tally) → Type 0
IsUnknown address tallies = (number : ℕ) → is_such (is_of address) (slot_at tallies number) ≡ false

-- profile: a line was written for a client at this tick, and none follows for its address for a minute
abbrev pub told : SocketAddrV4 → ℕ → Tally
told peer tick = record { peer = peer; count = 0; until = min (tick + 60 * 1000) (2 ^ 64 - 1) }

-- one more client of that address was refused
abbrev pub again : SocketAddrV4 → Tally → Tally
again peer tally = record { peer = peer; count = min (tally.count + 1) (2 ^ 64 - 1); until = tally.until }

-- the client's refusal is counted if its address has a tally, and nothing else changes
pub record Counts (peer : SocketAddrV4) (old new : List (Option Tally)) : Type 0 where
  pub number : ℕ
  pub tally : Tally
  pub there : slot_at old number ≡ Some tally
  pub same : is_of (ipv4_octets (v4_ip peer)) tally ≡ true
  pub counted : new ≡ slice_set old number (Some (again peer tally))

-- what isn't logged of an address, if a line is due for it at this tick
abbrev pub over_at : ℕ → Option Tally → Option Tally
over_at tick None = None
over_at tick (Some tally) = if nat_lt tick tally.until then None else Some tally

-- The tally after that: a line was just written, if there was something to log; else the address has no tally.
abbrev pub renewed : ℕ → Tally → Option Tally
renewed tick tally = if nat_lt 0 tally.count then Some (told tally.peer tick) else None

abbrev pub after : ℕ → List (Option Tally) → ℕ → Option Tally → List (Option Tally)
after tick tallies number None = tallies
after tick tallies number (Some tally) = slice_set tallies number (renewed tick tally)

abbrev pub left_after : ℕ → List (Option Tally) → ℕ → List (Option Tally)
left_after tick tallies number = after tick tallies number (over_at tick (slot_at tallies number))
