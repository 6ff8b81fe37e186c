-- Trusted clients: who may send to every route.
use Rattle.std.specs.Prelude.{◌≡◌, ℕ, Bool, true, false, List, Option, Some, None}
use Rattle.std.specs.Option.{ForSome}
use Rattle.std.specs.List.{list_any}
use Rattle.relay_routes.specs.Network.{is_in}
use Rattle.relay_routes.specs.Routes.{RouteTable, without_wildcard}
use Rattle.relay_routes.specs.declared.network.Network.{Network}

-- the networks of trusted clients, and the routes to which all others may send
pub record Trusted : Type 0 where
  pub networks : List Network
  pub named : RouteTable

-- a client is trusted: it is in one of the networks, or none are named
abbrev pub is_trusted : List ℕ → Option Trusted → Bool
is_trusted client None = true
is_trusted client (Some trusted) = list_any (is_in client) trusted.networks

-- a client is listed: it is in one of the networks, and where none are named nobody is
abbrev pub is_listed : List ℕ → Option Trusted → Bool
is_listed client None = false
is_listed client (Some trusted) = list_any (is_in client) trusted.networks

-- clients that aren't trusted may send to the domains that the routes name
abbrev pub IsTrusting : RouteTable → Option Trusted → Type 0
IsTrusting routes found = ForSome found (λ trusted. trusted.named ≡ without_wildcard routes)
