-- Laws of headers, whoever reads them.
use Rattle.std.specs.Prelude.{◌≡◌, ℕ, ◌+◌, ◌<◌, ◌≤◌, ◌^◌, List, ◌∷◌, ◌++◌, codes, decimal, length}
use Rattle.std.specs.Int.{w16, to_be_bytes}
use Rattle.std.specs.List.{AllByRecursion}
use Rattle.std.specs.Net.Addr.{ipv4_octets}
use Rattle.std.specs.Net.Socket.{v4_ip, v4_port}
use Rattle.std.specs.Net.Text.{ipv4_text}
use Rattle.std.specs.declared.net.socket_addr.SocketAddrV4.{SocketAddrV4}
use Rattle.relay_octets.specs.Beginning.{Begins}
use Rattle.relay_octets.specs.Line.{crlf}
use Rattle.relay_proxy.specs.Block.{signature}
use Rattle.relay_proxy.specs.Header.{IsHeader, IsUnfinished, Reads}
use Rattle.relay_proxy.specs.declared.header.Reading.{Reading}
use Rattle.relay_proxy.specs.declared.header.Reading.TheVariants.{Found, Unfinished}
use Rattle.relay_proxy.specs.declared.source.Source.{Source}
use Rattle.relay_proxy.specs.declared.source.Source.TheVariants.{Client}

-- No header begins another one: of two with which the same octets begin, each is the other, and says the same.
abbrev pub HeaderIsOne : Type 0
HeaderIsOne =
    (header other rest more : List ℕ) (source another : Source) → IsHeader header source → IsHeader other another
    → header ++ rest ≡ other ++ more → (header ≡ other) × (source ≡ another)

-- A header has 13 to 536 octets.
abbrev pub HeaderIsBounded : Type 0
HeaderIsBounded = (header : List ℕ) (source : Source) → IsHeader header source
    → (13 ≤ length header) × (length header ≤ 536)

-- Where a header stands no more octets are waited for.
abbrev pub HeaderIsFinished : Type 0
HeaderIsFinished = (header rest : List ℕ) (source : Source) → IsHeader header source → ¬ IsUnfinished (header ++ rest)

-- Octets with which a header begins, and that lack some of it, are waited for.
abbrev pub FrontIsUnfinished : Type 0
FrontIsUnfinished =
    (front more : List ℕ) (octet : ℕ) (source : Source) → IsHeader (front ++ (octet ∷ more)) source → IsUnfinished front

-- A header is read, whatever follows it.
abbrev pub HeaderIsRead : Type 0
HeaderIsRead =
    (header rest : List ℕ) (source : Source) (reading : Reading) → IsHeader header source
    → Reads (header ++ rest) reading
    → reading ≡ Found (record { source = source; length = length header })

-- Where no more octets are read than are missing at least, a header that stands then is all that was read.
abbrev pub HeaderIsAll : Type 0
HeaderIsAll =
    (octets more header : List ℕ) (count : ℕ) (source : Source) → Reads octets (Unfinished count) → length more ≤ count
    → IsHeader header source → Begins header (octets ++ more) → header ≡ octets ++ more

-- an address has four octets, and a port of 16 bits
pub record IsAddress (address : SocketAddrV4) : Type 0 where
  pub four : length (ipv4_octets (v4_ip address)) ≡ 4
  pub octets : AllByRecursion (λ octet. octet < 2 ^ 8) (ipv4_octets (v4_ip address))
  pub port_fits : v4_port address < 2 ^ 16

-- what a proxy writes of TCP over IPv4 in version 1: "PROXY TCP4", both addresses, both ports
abbrev pub client_words : SocketAddrV4 → SocketAddrV4 → List ℕ
client_words client destination =
    ipv4_text (ipv4_octets (v4_ip client)) ++ (codes " " ++ (ipv4_text (ipv4_octets (v4_ip destination)) ++ (codes " "
    ++ (decimal (v4_port client) ++ (codes " " ++ decimal (v4_port destination))))))

abbrev pub client_line : SocketAddrV4 → SocketAddrV4 → List ℕ
client_line client destination = (codes "PROXY TCP4 " ++ client_words client destination) ++ crlf

-- and in version 2: the command PROXY, TCP over IPv4, both addresses, both ports, and what may follow them
abbrev pub client_fields : SocketAddrV4 → SocketAddrV4 → List ℕ → List ℕ
client_fields client destination more =
    ipv4_octets (v4_ip client) ++ (ipv4_octets (v4_ip destination) ++ (to_be_bytes w16 (v4_port client)
    ++ (to_be_bytes w16 (v4_port destination) ++ more)))

abbrev pub client_block : SocketAddrV4 → SocketAddrV4 → List ℕ → List ℕ
client_block client destination more =
    signature ++ (0x21 ∷ 0x11 ∷ (to_be_bytes w16 (12 + length more) ++ client_fields client destination more))

-- What a proxy writes is a header that says so.
abbrev pub ClientLineIsHeader : Type 0
ClientLineIsHeader =
    (client destination : SocketAddrV4) → IsAddress client → IsAddress destination
    → IsHeader (client_line client destination) (Client client)

abbrev pub ClientBlockIsHeader : Type 0
ClientBlockIsHeader =
    (client destination : SocketAddrV4) (more : List ℕ) → IsAddress client → IsAddress destination → length more ≤ 508
    → IsHeader (client_block client destination more) (Client client)
