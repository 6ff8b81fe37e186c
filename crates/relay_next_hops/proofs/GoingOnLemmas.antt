-- The name of the next hop of a path.
use Rattle.std.proofs.Common.{◌≡◌, ℕ, List, option_map, refl}
use Rattle.relay_routes.specs.Routes.{RouteTable, hop_at}
use Rattle.relay_attempts.specs.Hops.{hop_name}

pub name_of : (table : RouteTable) (path : List ℕ) → hop_name table path ≡ option_map (λ hop. hop.name) (hop_at table path)
unfolding hop_name
name_of table path = refl
