-- The addresses of next hops by number, and the key by which each one's number is found.
use Rattle.std.specs.Prelude.{◌≡◌, ◌≢◌, ℕ, ◌+◌, ◌*◌, List, Some, nat_eq, option_map, slice_get}
use Rattle.std.specs.Int.{w32, from_be_bytes}
use Rattle.std.specs.HashMap.{HashMap, get}
use Rattle.std.specs.Net.Addr.{ipv4_octets}
use Rattle.std.specs.Net.Socket.{IsSocketAddrV4, v4_ip, v4_port}
use Rattle.std.specs.declared.net.socket_addr.SocketAddrV4.{SocketAddrV4}

-- the address, and the 16 bits of the port after it
abbrev pub key_of : SocketAddrV4 → ℕ
key_of at = from_be_bytes w32 (ipv4_octets (v4_ip at)) * 65536 + v4_port at

-- no number has this address
abbrev pub HasNone : List SocketAddrV4 → SocketAddrV4 → Type 0
HasNone places at = (number : ℕ) → slice_get places number ≢ Some at

-- each address is found under its key, and what is found under a key is an address with this key
pub record AreNumbered {S : Type 0} (numbers : HashMap ℕ ℕ S) (places : List SocketAddrV4) : Type 0 where
  pub fits : (number : ℕ) (place : SocketAddrV4) → slice_get places number ≡ Some place → IsSocketAddrV4 place
  pub found : (number : ℕ) (place : SocketAddrV4) → slice_get places number ≡ Some place
      → get nat_eq numbers (key_of place) ≡ Some number
  pub only : (key number : ℕ) → get nat_eq numbers key ≡ Some number
      → option_map key_of (slice_get places number) ≡ Some key
