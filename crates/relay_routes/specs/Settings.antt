-- What a configuration's values are to each other.
use Rattle.std.specs.Prelude.{◌≡◌, ℕ, ◌≤◌, List}
use Rattle.relay_octets.specs.Line.{HasNoCrlf}
use Rattle.relay_lines.specs.Word.{IsHostWord}
use Rattle.relay_envelope.specs.HostName.{IsHostName}
use Rattle.relay_routes.specs.Routes.{RouteTable}

-- the host is named, sizes lie in their ranges, and the routes are those of the relay of this name
pub record IsConfig (host : List ℕ) (max_content spool_limit : ℕ) (routes : RouteTable) : Type 0 where
  pub named : IsHostName host
  pub some_content : 1 ≤ max_content
  pub few_content : max_content ≤ 16777216
  pub some_room : 1 ≤ spool_limit
  pub little_room : spool_limit ≤ 549755813888
  pub same_host : routes.host ≡ host

-- what a configuration says of its host: its routes have its name, and that is a word of HELO in which no CR LF stands
pub record IsNamed (host : List ℕ) (routes : RouteTable) : Type 0 where
  pub same_host : routes.host ≡ host
  pub is_name : IsHostName host
  pub is_word : IsHostWord host
  pub has_no_crlf : HasNoCrlf host

-- A configuration names its host.
abbrev pub ConfigIsNamed : Type 0
ConfigIsNamed =
    (host : List ℕ) (max_content spool_limit : ℕ) (routes : RouteTable) → IsConfig host max_content spool_limit routes
    → IsNamed host routes
