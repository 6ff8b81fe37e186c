-- The first octets of a balancer's connection, which are read up to the end of its PROXY protocol header, and no
-- further.
use Rattle.std.specs.Prelude.{◌≡◌, ◌<◌, ◌≤◌, ℕ, List, ◌++◌, Option}
use Rattle.std.specs.Io.KnownBytes.{Consumes}
use Rattle.std.specs.declared.net.socket_addr.SocketAddrV4.{SocketAddrV4}
use Rattle.relay_octets.specs.Beginning.{Begins}
use Rattle.relay_proxy.specs.Header.{IsBegun, IsHeader, IsNone, IsUnfinished}
use Rattle.relay_proxy.specs.declared.header.Reading.{Reading}
use Rattle.relay_proxy.specs.declared.header.Reading.TheVariants.{Found, Unfinished, Missing}
use Rattle.relay_proxy.specs.declared.source.Source.{Source}
use Rattle.relay_proxy.specs.declared.source.Source.TheVariants.{Own, Client, Other}

-- if the octets begin with a header, it is all of them
abbrev pub HasNothingAfter : List ℕ → Type 0
HasNothingAfter octets =
    (header : List ℕ) (source : Source) → IsHeader header source → Begins header octets → header ≡ octets

-- the octets are a complete header, a prefix of one, or don't begin with one
abbrev pub ReadsWhole : List ℕ → Reading → Type 0
ReadsWhole octets (Found header) = IsHeader octets header.source
ReadsWhole octets (Unfinished count) = IsBegun octets count
ReadsWhole octets Missing = IsNone octets

-- octets arrived: they follow the earlier ones, and the stream doesn't have them any longer
pub record Comes (left later : Option (List ℕ)) (old new : List ℕ) : Type 0 where
  pub came : List ℕ
  pub octets : new ≡ old ++ came
  pub stream : Consumes left later came

-- the octets are no header
pub record IsNoHeader (octets : List ℕ) : Type 0 where
  pub none : (source : Source) → ¬ IsHeader octets source

-- the octets are a header
pub record IsSomeHeader (octets : List ℕ) : Type 0 where
  pub source : Source
  pub is : IsHeader octets source

-- more octets are needed, and there is time left
pub record IsWaiting (tick deadline : ℕ) (octets : List ℕ) : Type 0 where
  pub unfinished : IsUnfinished octets
  pub early : tick < deadline

-- more octets are needed, but there is no time left
pub record IsLate (tick deadline : ℕ) (octets : List ℕ) : Type 0 where
  pub unfinished : IsUnfinished octets
  pub late : deadline ≤ tick

-- a client's address and port according to its header, which may refer to the balancer's own
abbrev pub IsPeer : Source → SocketAddrV4 → SocketAddrV4 → Type 0
IsPeer Own balancer peer = peer ≡ balancer
IsPeer (Client client) balancer peer = peer ≡ client
IsPeer Other balancer peer = ⊥
