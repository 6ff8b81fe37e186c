-- What `check` writes for the mail of one address.
use Rattle.std.specs.Prelude.{◌≡◌, ◌≢◌, ◌⊎◌, ℕ, ◌==◌, Bool, false, List, [], ◌∷◌, ◌++◌, codes, Option, Some, None, Ok}
use Rattle.std.specs.Prelude.{is_some}
use Rattle.std.specs.Prelude.{if◌then◌else◌}
use Rattle.std.specs.Io.KnownBytes.{Appends}
use Rattle.std.specs.Net.Text.{socket_v4_text}
use Rattle.relay_envelope.specs.Mailbox.{in_brackets}
use Rattle.relay_envelope.specs.Path.{Path, IsPath, path_text}
use Rattle.relay_routes.specs.declared.config.Config.{Config}
use Rattle.relay_routes.specs.declared.hop.Hop.{Hop}
use Rattle.relay_routes.specs.Config.{ReadsConfig}
use Rattle.relay_routes.specs.Routes.{RouteTable, hop_of}

-- the address as a path is written: between brackets, which may be there already
abbrev pub bracketed : List ℕ → List ℕ
bracketed [] = in_brackets []
bracketed (octet ∷ octets) = if octet == 60 then octet ∷ octets else in_brackets (octet ∷ octets)

-- `NAME IP:PORT` of a next hop, if there is one
abbrev pub hop_text : Option Hop → List ℕ
hop_text None = codes "no route"
hop_text (Some hop) = hop.name ++ codes " " ++ socket_v4_text hop.at

-- `ADDRESS: NAME IP:PORT`
abbrev pub route_line : List ℕ → Option Hop → List ℕ
route_line address hop = address ++ codes ": " ++ hop_text hop ++ codes "\n"

-- the address is a path, and the line says where its mail goes by this table, if anywhere
pub record IsRouted (table : RouteTable) (address line : List ℕ) (found : Bool) : Type 0 where
  pub path : Path
  pub valid : IsPath path
  pub path_is : bracketed address ≡ path_text path
  pub line_is : line ≡ route_line address (hop_of table path)
  pub found_is : found ≡ is_some (hop_of table path)

-- the address is no path, and the line says so after the address, which may be escaped
pub record IsNoAddress (address line : List ℕ) (found : Bool) : Type 0 where
  pub none : (path : Path) → IsPath path → bracketed address ≢ path_text path
  pub shown : List ℕ
  pub line_is : line ≡ shown ++ codes ": no address\n"
  pub found_is : found ≡ false

-- the line of an address, and whether its mail has a next hop by this table
abbrev pub IsRouteLine : RouteTable → List ℕ → List ℕ → Bool → Type 0
IsRouteLine table address line found = IsRouted table address line found ⊎ IsNoAddress address line found

-- the line of the address by the routes of a configuration was written
pub record IsRouteShown (address : List ℕ) (found : Bool) (old new : Option (List ℕ)) : Type 0 where
  pub text : List ℕ
  pub config : Config
  pub reads : ReadsConfig text (Ok config)
  pub line : List ℕ
  pub line_is : IsRouteLine config.routes address line found
  pub written : Appends old new line
