-- Laws of the routes to which a client may send, and of its routed paths.
use Rattle.std.specs.Prelude.{◌≡◌, ℕ, List, None, Some}
use Rattle.relay_envelope.specs.Path.{Path}
use Rattle.relay_routes.specs.Routes.{hop_of}
use Rattle.relay_routes.specs.Accepted.{accepted_paths, accepted_table}
use Rattle.relay_routes.specs.declared.config.Config.{Config}
use Rattle.relay_routes.specs.declared.hop.Hop.{Hop}

-- Where no trusted clients are named, every client may send to every route.
abbrev pub AllAreTrusted : Type 0
AllAreTrusted =
    (config : Config) (client : List ℕ) → config.trusted_clients ≡ None → accepted_table config client ≡ config.routes

-- Where no trusted clients are named, what the configuration says of routed paths holds for every client.
abbrev pub NobodyIsListed : Type 0
NobodyIsListed =
    (config : Config) (client : List ℕ) → config.trusted_clients ≡ None
    → accepted_paths config client ≡ config.routed_paths

-- A path that is accepted of a client has its next hop in the whole table too, and it is the same.
abbrev pub AcceptedIsRouted : Type 0
AcceptedIsRouted =
    (config : Config) (client : List ℕ) (path : Path) (hop : Hop)
    → hop_of (accepted_table config client) path ≡ Some hop → hop_of config.routes path ≡ Some hop
