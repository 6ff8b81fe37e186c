-- Where mail goes: the routes of a relay, and the next hop of a path.
use Rattle.std.specs.Prelude.{◌≡◌, ◌≢◌, ℕ, ◌⊎◌, List, [], ◌∷◌, ◌++◌, map, codes, bytes_eq, Option, Some, None, IsSome}
use Rattle.std.specs.Prelude.{filter, find, not, option_map, unwrap_or, if◌then◌else◌}
use Rattle.std.specs.Char.{to_ascii_lowercase}
use Rattle.std.specs.List.{AllByRecursion}
use Rattle.std.specs.declared.net.socket_addr.SocketAddrV4.{SocketAddrV4}
use Rattle.relay_envelope.specs.Mailbox.{IsDomain}
use Rattle.relay_envelope.specs.Path.{Path, Null, Postmaster, Mailbox, IsPath, domain_in, path_text}
use Rattle.relay_routes.specs.declared.hop.Hop.{Hop}
use Rattle.relay_routes.specs.declared.fault.RouteFault.{RouteFault}
use Rattle.relay_routes.specs.declared.fault.RouteFault.TheVariants.{BadDomain, Repeated, SecondPlace, NoMemory}

-- a text with its letters in lower case
abbrev pub in_lower_case : List ℕ → List ℕ
in_lower_case text = map to_ascii_lowercase text

-- a domain in lower case, or `*` for each that has no route of its own, and where its mail goes
pub record Route : Type 0 where
  pub domain : List ℕ
  pub hop : Hop

-- the name of a relay, and its routes in the order in which they were added
pub record RouteTable : Type 0 where
  pub host : List ℕ
  pub routes : List Route

-- the hop of the route of this domain
abbrev pub entry_of : List Route → List ℕ → Option Hop
entry_of routes domain = option_map (λ route. route.hop) (find (λ route. bytes_eq domain route.domain) routes)

-- the first of two that is there
abbrev pub first_there : {X : Type 0} → Option X → Option X → Option X
first_there None other = other
first_there (Some x) other = Some x

-- the hop of a domain in any letter case: that of its own route, else that of `*`
abbrev pub hop_for : List Route → List ℕ → Option Hop
hop_for routes domain = first_there (entry_of routes (in_lower_case domain)) (entry_of routes (codes "*"))

-- the next hop of a path: `<>` has none, and the postmaster's is that of the relay's own name (RFC 5321, section 4.5.1)
abbrev pub hop_of : RouteTable → Path → Option Hop
hop_of table Null = None
hop_of table (Postmaster word) = hop_for table.routes table.host
hop_of table (Mailbox source_route local domain) = hop_for table.routes domain

-- the next hop of a path as it is stored: `<>` has none; else that of its domain, and where it has none that of the
-- relay's own name
abbrev pub hop_at : RouteTable → List ℕ → Option Hop
hop_at table path =
    if bytes_eq path (codes "<>") then None else hop_for table.routes (unwrap_or (domain_in path) table.host)

-- a route is for a domain, or for any
abbrev pub IsRouteDomain : List ℕ → Type 0
IsRouteDomain domain = (domain ≡ codes "*") ⊎ IsDomain domain

-- the routes of domains that are named: all but that of `*`
abbrev pub named_routes : List Route → List Route
named_routes routes = filter (λ route. not (bytes_eq route.domain (codes "*"))) routes

-- the table without its route for `*`
abbrev pub without_wildcard : RouteTable → RouteTable
without_wildcard table = record table { routes = named_routes table.routes }

-- two routes are for different domains, and go to one place where they go to one name
pub record Agrees (one other : Route) : Type 0 where
  pub domains : one.domain ≢ other.domain
  pub places : one.hop.name ≡ other.hop.name → one.hop.at ≡ other.hop.at

-- each two routes agree
abbrev pub AllAgree : List Route → Type 0
AllAgree [] = Unit {0}
AllAgree (route ∷ routes) = AllByRecursion (Agrees route) routes × AllAgree routes

-- where the first route to this name goes
abbrev pub place_of : List Route → List ℕ → Option SocketAddrV4
place_of routes name = option_map (λ route. route.hop.at) (find (λ route. bytes_eq name route.hop.name) routes)

-- no route to this hop's name goes to another place
abbrev pub HasNoOtherPlace : List Route → Hop → Type 0
HasNoOtherPlace routes hop = (place_of routes hop.name ≡ None) ⊎ (place_of routes hop.name ≡ Some hop.at)

-- a route may be added: it is for a domain or any, there is none for that domain, and its hop's name has no other place
pub record MayBeAdded (routes : List Route) (domain : List ℕ) (hop : Hop) : Type 0 where
  pub is_domain : IsRouteDomain domain
  pub is_new : entry_of routes (in_lower_case domain) ≡ None
  pub has_place : HasNoOtherPlace routes hop

-- the table with one route more, whose domain is in lower case
abbrev pub with_lowered : RouteTable → List ℕ → Hop → RouteTable
with_lowered table domain hop = record table { routes = table.routes ++ record { domain = domain; hop = hop } ∷ [] }

-- the table with one route more
abbrev pub with_route : RouteTable → List ℕ → Hop → RouteTable
with_route table domain hop = with_lowered table (in_lower_case domain) hop

-- there is a route to this hop's name, at another place
pub record HasOtherPlace (routes : List Route) (hop : Hop) : Type 0 where
  pub place : SocketAddrV4
  pub first : place_of routes hop.name ≡ Some place
  pub other : place ≢ hop.at

-- why a route is not added: the first of these, and memory may run out between them
abbrev pub RefusesRoute : RouteFault → List Route → List ℕ → Hop → Type 0
RefusesRoute BadDomain routes domain hop = ¬ IsRouteDomain domain
RefusesRoute Repeated routes domain hop = IsRouteDomain domain × IsSome (entry_of routes (in_lower_case domain))
RefusesRoute SecondPlace routes domain hop =
    IsRouteDomain domain × (entry_of routes (in_lower_case domain) ≡ None) × HasOtherPlace routes hop
RefusesRoute NoMemory routes domain hop = IsRouteDomain domain

-- The hop of a path as it is stored is the path's.
abbrev pub HopAtIsHopOf : Type 0
HopAtIsHopOf = (table : RouteTable) (path : Path) → IsPath path → hop_at table (path_text path) ≡ hop_of table path

-- One name has one place: that of each hop with this name.
abbrev pub HopHasItsPlace : Type 0
HopHasItsPlace =
    (table : RouteTable) (path : List ℕ) (hop : Hop) → AllAgree table.routes → hop_at table path ≡ Some hop
    → place_of table.routes hop.name ≡ Some hop.at
