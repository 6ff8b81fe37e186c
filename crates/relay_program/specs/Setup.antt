-- The configuration of `relayd session`.
use Rattle.std.specs.Prelude.{◌≡◌, ℕ, List, [], ◌∷◌, codes}
use Rattle.std.specs.declared.net.socket_addr.SocketAddrV4.{SocketAddrV4}
use Rattle.relay_routes.specs.Routes.{Route}
use Rattle.relay_routes.specs.declared.bare_newlines.BareNewlines.TheVariants.{Pass}
use Rattle.relay_routes.specs.declared.routed_paths.RoutedPaths.TheVariants as routed
use Rattle.relay_routes.specs.declared.config.Config.{Config}
use Rattle.relay_server.specs.Setup.{Setup, setup_for}

-- the loopback address, and a port
abbrev pub loopback_at : ℕ → SocketAddrV4
loopback_at port = record { ip = record { octets = 127 ∷ 0 ∷ 0 ∷ 1 ∷ [] }; port = port }

-- the next hop `next.example` takes mail for `example.org`
abbrev pub only_route : Route
only_route =
    record {
      domain = codes "example.org";
      hop = record {
        name = codes "next.example";
        at =
            loopback_at 2526;
      };
    }

-- profile: the host `relay.example` takes mail data of up to 1,048,576 octets, for `example.org` only
abbrev pub session_setup : Setup
session_setup = record {
  host = codes "relay.example";
  max_content = 1048576;
  bare_newlines = Pass;
  routed_paths = routed.Pass;
  routes = record { host = codes "relay.example"; routes = only_route ∷ [] };
}

-- profile: the spool of `session` has at most 67,108,864 octets
abbrev pub session_limit : ℕ
session_limit = 67108864

-- profile: `session` has no peer, so its mail comes from 127.0.0.1
abbrev pub session_peer : List ℕ
session_peer = 127 ∷ 0 ∷ 0 ∷ 1 ∷ []

-- profile: `session` has no clock, so its mail is accepted at time 0
abbrev pub session_moment : ℕ
session_moment = 0

-- the configuration of `session`, as far as its dialogue depends on it
pub record IsProfile (config : Config) : Type 0 where
  pub setup : setup_for config session_peer ≡ session_setup
  pub limit : config.spool_limit ≡ session_limit
