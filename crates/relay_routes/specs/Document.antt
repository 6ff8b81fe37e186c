-- What the values of a configuration's document say.
use Rattle.std.specs.Prelude.{◌≡◌, ℕ, List, [], ◌∷◌, codes, Option, Some}
use Rattle.toml.specs.Data.{Data, Members, no_members, member, string, table, get_member}
use Rattle.relay_routes.specs.Value.{IsAddress, IsHostName, address_text}
use Rattle.relay_routes.specs.Routes.{AllAgree, IsRouteDomain, Route, in_lower_case}
use Rattle.relay_routes.specs.declared.hop.Hop.{Hop}
use Rattle.relay_routes.specs.declared.fault.ConfigFault.{ConfigFault}
use Rattle.relay_routes.specs.declared.fault.ConfigFault.TheVariants.{BadValue, NoMemory}
use Rattle.relay_routes.specs.declared.fault.RouteFault.{RouteFault}
use Rattle.relay_routes.specs.declared.fault.RouteFault.TheVariants.{BadDomain, Repeated, SecondPlace}
use Rattle.relay_routes.specs.declared.fault.RouteFault.TheVariants.{NoMemory as OutOfMemory}
use Rattle.relay_routes.specs.declared.key.Key.{Key}
use Rattle.relay_routes.specs.declared.key.Key.TheVariants.{Host, Listen, Spool, MaxContent, SpoolLimit, Routes}
use Rattle.relay_routes.specs.declared.key.Key.TheVariants.{BareNewlines, TrustedClients, RoutedPaths, Reports}

-- each key as a document has it
abbrev pub key_text : Key → List ℕ
key_text Host = codes "host"
key_text Listen = codes "listen"
key_text Spool = codes "spool"
key_text MaxContent = codes "max_content"
key_text SpoolLimit = codes "spool_limit"
key_text Routes = codes "routes"
key_text BareNewlines = codes "bare_newlines"
key_text TrustedClients = codes "trusted_clients"
key_text RoutedPaths = codes "routed_paths"
key_text Reports = codes "reports"

-- what a route that isn't added means for a configuration
abbrev pub fault_of_routes : RouteFault → ConfigFault
fault_of_routes BadDomain = BadValue Routes
fault_of_routes Repeated = BadValue Routes
fault_of_routes SecondPlace = BadValue Routes
fault_of_routes OutOfMemory = NoMemory

-- what a document has at a key
abbrev pub value_of : Key → Members → Option Data
value_of key document = get_member (key_text key) document

-- the value is a table with the name of this hop, and its place; other keys there are ignored
pub record GivesHop (value : Data) (hop : Hop) : Type 0 where
  pub members : Members
  pub value_is : value ≡ table members
  pub name : get_member (codes "name") members ≡ Some (string hop.name)
  pub is_name : IsHostName hop.name
  pub place : get_member (codes "at") members ≡ Some (string (address_text hop.at))
  pub is_place : IsAddress hop.at

-- a key and its value say this route
pub record GivesRoute (key : List ℕ) (value : Data) (route : Route) : Type 0 where
  pub is_domain : IsRouteDomain key
  pub domain : route.domain ≡ in_lower_case key
  pub hop : GivesHop value route.hop

-- the members say these routes, one after another
abbrev pub AreRoutes : Members → List Route → Type 0
AreRoutes no_members [] = Unit {0}
AreRoutes no_members (route ∷ routes) = ⊥
AreRoutes (member key value more) [] = ⊥
AreRoutes (member key value more) (route ∷ routes) = GivesRoute key value route × AreRoutes more routes

-- the value is a table of these routes, each two of which agree
pub record GivesRoutes (value : Data) (routes : List Route) : Type 0 where
  pub members : Members
  pub value_is : value ≡ table members
  pub are_routes : AreRoutes members routes
  pub agree : AllAgree routes
