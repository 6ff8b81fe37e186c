-- Version 2 of the PROXY protocol (section 2.2): a header is a block of octets that says its own length.
use Rattle.std.specs.Prelude.{◌≡◌, ℕ, ◌<◌, ◌≤◌, ◌⊎◌, ◌==◌, List, [], ◌∷◌, ◌++◌, length, take, drop}
use Rattle.std.specs.Prelude.{Option, None, Some, MatchOption, if◌then◌else◌}
use Rattle.std.specs.Int.{w16, from_be_bytes}
use Rattle.std.specs.Net.Addr.{ipv4_octets}
use Rattle.std.specs.Net.Socket.{v4_ip, v4_port}
use Rattle.std.specs.declared.net.socket_addr.SocketAddrV4.{SocketAddrV4}
use Rattle.relay_proxy.specs.declared.source.Source.{Source}
use Rattle.relay_proxy.specs.declared.source.Source.TheVariants.{Own, Client, Other}

-- how each block begins: CR LF CR LF NUL CR LF "QUIT" LF
abbrev pub signature : List ℕ
signature = 13 ∷ 10 ∷ 13 ∷ 10 ∷ 0 ∷ 13 ∷ 10 ∷ 81 ∷ 85 ∷ 73 ∷ 84 ∷ 10 ∷ []

-- profile: the most octets after the first 16, so that a block has 536 at most: what the smallest segment of TCP that
-- each host must take has room for (section 2)
abbrev pub rest_limit : ℕ
rest_limit = 520

-- the number of two octets, the most significant first
abbrev pub two_octets : ℕ → ℕ → ℕ
two_octets high low = from_be_bytes w16 (high ∷ low ∷ [])

-- source address (4 octets), destination address (4), source port (2) and destination port (2), and this is the source;
-- what follows is ignored
pub record WritesIpv4 (rest : List ℕ) (client : SocketAddrV4) : Type 0 where
  pub whole : 12 ≤ length rest
  pub address_is : ipv4_octets (v4_ip client) ≡ take 4 rest
  pub port_is : v4_port client ≡ from_be_bytes w16 (take 2 (drop 8 rest))

-- there are fewer octets
abbrev pub lacks_addresses : List ℕ → Type 0
lacks_addresses rest = length rest < 12

-- the octets of the addresses of UDP over IPv4, TCP and UDP over IPv6, and streams and datagrams of UNIX
abbrev pub other_size : ℕ → Option ℕ
other_size family =
    if family == 0x12 then Some 12
    else if family == 0x21 then Some 36
    else if family == 0x22 then Some 36
    else if family == 0x31 then Some 216
    else if family == 0x32 then Some 216
    else None

-- version 2 and a command: the proxy speaks for itself (LOCAL), or passes a connection on (PROXY)
abbrev pub is_local : ℕ → Type 0
is_local command = command ≡ 0x20

abbrev pub is_proxy : ℕ → Type 0
is_proxy command = command ≡ 0x21

-- what a block says: of LOCAL the family is ignored, and of PROXY it is unknown, TCP over IPv4, or another with its
-- addresses
abbrev pub SaysOfBlock : ℕ → ℕ → List ℕ → Source → Type 0
SaysOfBlock command family rest Own = is_local command ⊎ (is_proxy command × (family ≡ 0x00))
SaysOfBlock command family rest (Client client) = is_proxy command × (family ≡ 0x11) × WritesIpv4 rest client
SaysOfBlock command family rest Other =
    is_proxy command × MatchOption (other_size family) ⊥ (λ size. size ≤ length rest)

-- it says nothing
pub record HasNoMeaning (command family : ℕ) (rest : List ℕ) : Type 0 where
  pub none : (source : Source) → ¬ SaysOfBlock command family rest source

-- the octets are a header of version 2: signature, version and command, family and protocol, the length of the rest,
-- and the rest, that say this
pub record IsBlock (header : List ℕ) (source : Source) : Type 0 where
  pub command : ℕ
  pub family : ℕ
  pub high : ℕ
  pub low : ℕ
  pub rest : List ℕ
  pub header_is : header ≡ signature ++ (command ∷ family ∷ high ∷ low ∷ rest)
  pub whole : length rest ≡ two_octets high low
  pub short : length rest ≤ rest_limit
  pub says : SaysOfBlock command family rest source
