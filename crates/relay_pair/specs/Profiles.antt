-- The configurations of the relays of a play.
use Rattle.std.specs.Prelude.{◌≡◌, ℕ, ◌+◌, ◌==◌, nat_lt, not, List, [], ◌∷◌, ◌++◌, codes, length, map, None, Some}
use Rattle.std.specs.Prelude.{slice_get}
use Rattle.std.specs.Prelude.{if◌then◌else◌}
use Rattle.std.specs.List.{filter, range_with_len}
use Rattle.std.specs.declared.net.socket_addr.SocketAddrV4.{SocketAddrV4}
use Rattle.relay_routes.specs.Routes.{Route}
use Rattle.relay_routes.specs.declared.bare_newlines.BareNewlines.TheVariants.{Pass}
use Rattle.relay_routes.specs.declared.routed_paths.RoutedPaths.TheVariants as routed
use Rattle.relay_routes.specs.declared.report_form.ReportForm.TheVariants.{Plain}
use Rattle.relay_routes.specs.declared.config.Config.{Config}
use Rattle.relay_events.specs.Step.{outside_address}

-- the SMTP port at an address
abbrev pub mail_at : List ℕ → SocketAddrV4
mail_at address = record { ip = record { octets = address }; port = 25 }

-- the address of the node at this index, from 10.0.0.1 on
abbrev pub address_of : ℕ → List ℕ
address_of place = 10 ∷ 0 ∷ 0 ∷ (place + 1) ∷ []

-- mail for this domain goes to the hop of this name, at this address
abbrev pub route_to : List ℕ → List ℕ → List ℕ → Route
route_to domain name address = record { domain = domain; hop = record { name = name; at = mail_at address } }

-- node a sends mail for `b.example`, `c.example` and `loop.example` to node b, and the rest outside
abbrev pub first_routes : List Route
first_routes =
    route_to (codes "b.example") (codes "b.example") (address_of 1)
    ∷ route_to (codes "c.example") (codes "b.example") (address_of 1)
    ∷ route_to (codes "loop.example") (codes "b.example") (address_of 1)
    ∷ route_to (codes "out.example") (codes "out.example") outside_address
    ∷ []

-- node b sends mail for `a.example` and `loop.example` to node a, and the rest outside
abbrev pub second_routes : List Route
second_routes =
    route_to (codes "a.example") (codes "a.example") (address_of 0)
    ∷ route_to (codes "loop.example") (codes "a.example") (address_of 0)
    ∷ route_to (codes "b.example") (codes "out.example") outside_address
    ∷ route_to (codes "c.example") (codes "out.example") outside_address
    ∷ route_to (codes "out.example") (codes "out.example") outside_address
    ∷ []

-- the host of the node at this index, from `a.example` on
abbrev pub host_of : ℕ → List ℕ
host_of place = (97 + place) ∷ codes ".example"

-- the route to the host of the node at this index
abbrev pub route_to_node : ℕ → Route
route_to_node place = route_to (host_of place) (host_of place) (address_of place)

-- the routes to all nodes of this many but one
abbrev pub routes_to_others : ℕ → ℕ → List Route
routes_to_others count node = map route_to_node (filter (λ other. not (other == node)) (range_with_len 0 count))

-- the node after this one, in a circle of this many
abbrev pub node_after : ℕ → ℕ → ℕ
node_after count node = if nat_lt (node + 1) count then node + 1 else 0

-- the routes for mail that isn't for another node: to the node after this one, and outside
abbrev pub routes_of_the_rest : ℕ → ℕ → List Route
routes_of_the_rest count node =
    route_to (codes "loop.example") (host_of (node_after count node)) (address_of (node_after count node))
    ∷ route_to (host_of node) (codes "out.example") outside_address
    ∷ route_to (codes "out.example") (codes "out.example") outside_address
    ∷ []

-- each of this many nodes sends mail for another node to it, mail for `loop.example` to the node after it, and mail for
-- itself and for `out.example` outside
abbrev pub routes_among : ℕ → ℕ → List Route
routes_among count node = routes_to_others count node ++ routes_of_the_rest count node

-- a relay of this name and address with these routes and default limits
pub record IsProfile (host address : List ℕ) (routes : List Route) (config : Config) : Type 0 where
  pub host_is : config.host ≡ host
  pub listen : config.listen ≡ mail_at address
  pub routes_are : config.routes.routes ≡ routes
  pub max_content : config.max_content ≡ 1048576
  pub spool_limit : config.spool_limit ≡ 67108864
  pub bare_newlines : config.bare_newlines ≡ Pass
  pub trusted_clients : config.trusted_clients ≡ None
  pub routed_paths : config.routed_paths ≡ routed.Pass
  pub reports : config.reports ≡ Plain

-- each is the configuration of the node at its index among this many
abbrev pub HaveProfiles : ℕ → List Config → Type 0
HaveProfiles count configs =
    (node : ℕ) (config : Config) → slice_get configs node ≡ Some config
    → IsProfile (host_of node) (address_of node) (routes_among count node) config

-- the configurations of this many nodes of a play
pub record AreProfiles (count : ℕ) (configs : List Config) : Type 0 where
  pub count_is : length configs ≡ count
  pub each : HaveProfiles count configs

-- a configuration with the address of the node at this index
abbrev pub at_place : ℕ → Config → Config
at_place place config = record config { listen = mail_at (address_of place) }
