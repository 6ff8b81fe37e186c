-- How a table keeps its routes: by domain, and the place of each name beside them.
use Rattle.std.specs.Prelude.{◌≡◌, ℕ, List, Option, map, Vec, bytes_eq}
use Rattle.std.specs.Map.{lookup}
use Rattle.std.specs.declared.alloc.Global.{Global}
use Rattle.std.specs.declared.net.socket_addr.SocketAddrV4.{SocketAddrV4}
use Rattle.relay_routes.specs.declared.hop.Hop.{Hop}
use Rattle.relay_routes.specs.Routes.{AllAgree, Route, place_of}

-- the routes that a map's entries are
abbrev pub routes_of : List (Vec ℕ Global × Hop) → List Route
routes_of entries = map (λ entry. record { domain = entry.0.items; hop = entry.1 }) entries

-- what a map has at these octets
abbrev pub value_at : {X : Type 0} → List ℕ → List (Vec ℕ Global × X) → Option X
value_at octets entries = lookup (λ key. bytes_eq octets key.items) entries

-- the routes agree, and the places are those of their names
pub record IsIndexed (routes : List Route) (places : List (Vec ℕ Global × SocketAddrV4)) : Type 0 where
  pub agree : AllAgree routes
  pub places_are : (name : List ℕ) → value_at name places ≡ place_of routes name
