-- Version 1 of the PROXY protocol (section 2.1): a header is a line of text.
use Rattle.std.specs.Prelude.{◌≡◌, ℕ, ◌≤◌, ◌⊎◌, List, ◌++◌, codes, length}
use Rattle.std.specs.Net.Socket.{v4_ip, v4_port}
use Rattle.std.specs.declared.net.ipv4_addr.Ipv4Addr.{Ipv4Addr}
use Rattle.std.specs.declared.net.socket_addr.SocketAddrV4.{SocketAddrV4}
use Rattle.relay_octets.specs.Line.{HasNoCrlf, crlf}
use Rattle.relay_proxy.specs.Word.{IsPort, ReadsAddress, ReadsPort}
use Rattle.relay_proxy.specs.declared.source.Source.{Source}
use Rattle.relay_proxy.specs.declared.source.Source.TheVariants.{Own, Client, Other}

-- how each line begins
abbrev pub line_word : List ℕ
line_word = codes "PROXY "

-- the most octets of a line, with its CR LF
abbrev pub line_limit : ℕ
line_limit = 107

-- the text writes source and destination address, source and destination port, and this is the source
pub record WritesClient (text : List ℕ) (client : SocketAddrV4) : Type 0 where
  pub after_source : List ℕ
  pub after_destination : List ℕ
  pub last : List ℕ
  pub destination : Ipv4Addr
  pub destination_port : ℕ
  pub source_is : ReadsAddress text (v4_ip client) after_source
  pub destination_is : ReadsAddress after_source destination after_destination
  pub port_is : ReadsPort after_destination (v4_port client) last
  pub last_is : IsPort last destination_port

-- the text writes no client
pub record HasNoClient (text : List ℕ) : Type 0 where
  pub none : (client : SocketAddrV4) → ¬ WritesClient text client

-- what a line says: TCP4 and its addresses and ports; UNKNOWN, of which the receiver ignores what follows; or TCP6
-- profile: what follows TCP6 isn't read, since no such client is taken
abbrev pub SaysOfLine : List ℕ → Source → Type 0
SaysOfLine line Own = (line ≡ codes "PROXY UNKNOWN") ⊎ ((ignored : List ℕ) × (line ≡ codes "PROXY UNKNOWN " ++ ignored))
SaysOfLine line (Client client) = (text : List ℕ) × (line ≡ codes "PROXY TCP4 " ++ text) × WritesClient text client
SaysOfLine line Other = (ignored : List ℕ) × (line ≡ codes "PROXY TCP6 " ++ ignored)

-- the line says nothing
pub record HasNoSource (line : List ℕ) : Type 0 where
  pub none : (source : Source) → ¬ SaysOfLine line source

-- the octets are a header of version 1: one line with its CR LF, at most 107 octets, that says this
pub record IsHeaderLine (header : List ℕ) (source : Source) : Type 0 where
  pub line : List ℕ
  pub header_is : header ≡ line ++ crlf
  pub one_line : HasNoCrlf line
  pub short : length header ≤ line_limit
  pub says : SaysOfLine line source
