-- The routes to which a client may send, and what is done with its routed paths.
use Rattle.std.specs.Prelude.{ℕ, List, if◌then◌else◌}
use Rattle.relay_routes.specs.Routes.{RouteTable, without_wildcard}
use Rattle.relay_routes.specs.Trusted.{is_listed, is_trusted}
use Rattle.relay_routes.specs.declared.config.Config.{Config}
use Rattle.relay_routes.specs.declared.routed_paths.RoutedPaths.{RoutedPaths}
use Rattle.relay_routes.specs.declared.routed_paths.RoutedPaths.TheVariants.{Pass}

-- the table by which a client's recipients are accepted: all routes for one that is trusted, else the named domains
unfoldable pub accepted_table : Config → List ℕ → RouteTable
accepted_table config client =
    if is_trusted client config.trusted_clients then config.routes else without_wildcard config.routes

-- what is done with a client's routed paths: one that is listed may send them, and for all others the configuration
-- says it
unfoldable pub accepted_paths : Config → List ℕ → RoutedPaths
accepted_paths config client = if is_listed client config.trusted_clients then Pass else config.routed_paths
