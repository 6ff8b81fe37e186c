-- Networks of clients (RFC 4632): which clients are in one, and how a configuration writes it.
use Rattle.std.specs.Prelude.{◌≡◌, ℕ, Bool, ◌==◌, ◌⊎◌, List, [], ◌∷◌, ◌++◌, codes, decimal}
use Rattle.std.specs.Net.Addr.{ipv4_octets}
use Rattle.std.specs.Net.Grammar.{IsIpv4Text}
use Rattle.toml.specs.Data.{Data, Items, no_items, item, array, string}
use Rattle.relay_routes.specs.Prefix.{leading_bits}
use Rattle.relay_routes.specs.declared.network.Network.{Network}

-- a client is in a network: its address begins with the network's prefix
abbrev pub is_in : List ℕ → Network → Bool
is_in client network =
    leading_bits network.prefix_length client == leading_bits network.prefix_length (ipv4_octets network.first)

-- the text writes the network's first address, and its prefix has this length
pub record IsNetworkAt (address : List ℕ) (prefix_length : ℕ) (network : Network) : Type 0 where
  pub first : IsIpv4Text address network.first
  pub length_is : network.prefix_length ≡ prefix_length

-- an address, "/" and the length of a prefix, without leading zeros
pub record IsPrefixText (text : List ℕ) (network : Network) : Type 0 where
  pub address : List ℕ
  pub length : ℕ
  pub text_is : text ≡ address ++ codes "/" ++ decimal length
  pub is_at : IsNetworkAt address length network

-- the text writes this network: as a prefix, or as an address alone where the network has no other
abbrev pub IsNetworkText : List ℕ → Network → Type 0
IsNetworkText text network = IsPrefixText text network ⊎ IsNetworkAt text 32 network

-- the value is a text that writes this network
pub record GivesNetwork (value : Data) (network : Network) : Type 0 where
  pub text : List ℕ
  pub value_is : value ≡ string text
  pub is_text : IsNetworkText text network

-- the items give these networks, one after another
abbrev pub AreNetworks : Items → List Network → Type 0
AreNetworks no_items [] = Unit {0}
AreNetworks no_items (network ∷ networks) = ⊥
AreNetworks (item value more) [] = ⊥
AreNetworks (item value more) (network ∷ networks) = GivesNetwork value network × AreNetworks more networks

-- the value is an array of these networks
pub record GivesNetworks (value : Data) (networks : List Network) : Type 0 where
  pub items : Items
  pub value_is : value ≡ array items
  pub are_networks : AreNetworks items networks
