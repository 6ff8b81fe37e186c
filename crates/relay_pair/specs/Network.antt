-- Which configurations make a network, and why others don't.
use Rattle.std.specs.Prelude.{◌≡◌, ℕ, ◌<◌, ◌≤◌, List, length, Some, slice_get}
use Rattle.std.specs.List.{Contains}
use Rattle.relay_routes.specs.Routes.{Route}
use Rattle.relay_routes.specs.declared.config.Config.{Config}
use Rattle.relay_pair.specs.declared.network.NetFault.{NetFault}
use Rattle.relay_pair.specs.declared.network.NetFault.TheVariants as net_fault

-- there are 2 to 16 configurations
pub record AreSome (configs : List Config) : Type 0 where
  pub two : 2 ≤ length configs
  pub within : length configs ≤ 16

-- a configuration before this index has the same host as the one there
pub record IsHostBefore (configs : List Config) (other : ℕ) : Type 0 where
  pub one : ℕ
  pub before : one < other
  pub first : Config
  pub first_at : slice_get configs one ≡ Some first
  pub second : Config
  pub second_at : slice_get configs other ≡ Some second
  pub same : first.host ≡ second.host

-- two configurations have the same host
abbrev pub HaveOneHost : List Config → Type 0
HaveOneHost configs = (other : ℕ) × IsHostBefore configs other

-- the routes of a configuration lead to its own host
pub record SendsHome (config : Config) : Type 0 where
  pub route : Route
  pub its : Contains config.routes.routes route
  pub own : route.hop.name ≡ config.host

-- the routes of one of the configurations do
pub record HasOwnHop (configs : List Config) : Type 0 where
  pub at : ℕ
  pub config : Config
  pub config_at : slice_get configs at ≡ Some config
  pub home : SendsHome config

-- The configurations make a network.
pub record AreNetwork (configs : List Config) : Type 0 where
  pub some : AreSome configs
  pub hosts : ¬ HaveOneHost configs
  pub hops : ¬ HasOwnHop configs

-- Why they don't: the first of these faults that holds, and lack of memory only if none does.
abbrev pub IsNoNetwork : List Config → NetFault → Type 0
IsNoNetwork configs net_fault.NoMemory = AreNetwork configs
IsNoNetwork configs net_fault.BadCount = ¬ AreSome configs
IsNoNetwork configs net_fault.SameHost = AreSome configs × HaveOneHost configs
IsNoNetwork configs net_fault.OwnHop = AreSome configs × (¬ HaveOneHost configs) × HasOwnHop configs
