-- What a server works with through a session.
use Rattle.std.specs.Prelude.{ℕ, List}
use Rattle.relay_routes.specs.Accepted.{accepted_paths, accepted_table}
use Rattle.relay_routes.specs.Routes.{RouteTable}
use Rattle.relay_routes.specs.declared.bare_newlines.BareNewlines.{BareNewlines}
use Rattle.relay_routes.specs.declared.config.Config.{Config}
use Rattle.relay_routes.specs.declared.routed_paths.RoutedPaths.{RoutedPaths}
use Rattle.relay_server.specs.declared.server.Server.{Server}

-- the server's name, the most octets of a content, what is done with one in which a CR or an LF stands alone and with a
-- recipient whose path is routed, and where mail goes; the table names a host too, in a configuration the same
pub record Setup : Type 0 where
  pub host : List ℕ
  pub max_content : ℕ
  pub bare_newlines : BareNewlines
  pub routed_paths : RoutedPaths
  pub routes : RouteTable

-- the name, the limit, the rules and the table that the code works with
abbrev pub setup_of : Server → RouteTable → Setup
setup_of server routes = record {
  host = server.host;
  max_content = server.max_content;
  bare_newlines = server.bare_newlines;
  routed_paths = server.routed_paths;
  routes = routes;
}

-- what a server with this configuration works with through a session of this client
abbrev pub setup_for : Config → List ℕ → Setup
setup_for config client = record {
  host = config.host;
  max_content = config.max_content;
  bare_newlines = config.bare_newlines;
  routed_paths = accepted_paths config client;
  routes = accepted_table config client;
}
