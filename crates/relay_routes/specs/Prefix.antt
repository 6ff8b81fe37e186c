-- Prefixes of IPv4 addresses (RFC 4632, section 3.1).
use Rattle.std.specs.Prelude.{◌≡◌, ℕ, ◌-◌, ◌/◌, ◌%◌, ◌^◌, ◌≤◌, List}
use Rattle.std.specs.Int.{w32, from_be_bytes}

-- the number that the four octets of an address write, the most significant first
abbrev pub address_number : List ℕ → ℕ
address_number octets = from_be_bytes w32 octets

-- the first bits of an address, of which there are 32
abbrev pub leading_bits : ℕ → List ℕ → ℕ
leading_bits prefix_length octets = address_number octets / 2 ^ (32 - prefix_length)

-- the bits of an address after its prefix
abbrev pub host_bits : ℕ → List ℕ → ℕ
host_bits prefix_length octets = address_number octets % 2 ^ (32 - prefix_length)

-- an address and the length of a prefix write a network: it has at most 32 bits, and those after it are zero
pub record IsNetwork (octets : List ℕ) (prefix_length : ℕ) : Type 0 where
  pub short : prefix_length ≤ 32
  pub no_host : host_bits prefix_length octets ≡ 0
