-- An array of which an item gives no network names no clients.
use Rattle.std.proofs.Common.{◌≡◌, List, Option, None, Some, sym, ◌∙◌, subst}
use Rattle.toml.specs.Data.{Data, Items, array}
use Rattle.relay_limits.specs.AllowedClients.{ReadsClients}
use Rattle.relay_routes.specs.Network.{AreNetworks}
use Rattle.relay_routes.specs.declared.network.Network.{Network}

same_items : (one other : Items) → array one ≡ array other → one ≡ other
same_items one other same = cc same

pub array_is_refused : (found : Option Data) (value : Data) (items : Items) → found ≡ Some value → value ≡ array items → ((networks : List Network) → ¬ AreNetworks items networks) → ReadsClients found None
array_is_refused found value items there is none =
    subst (λ (document : Option Data). ReadsClients document None) (sym there) (λ networks gives.
    none networks (subst (λ (list : Items). AreNetworks list networks) (same_items gives.items items (sym gives.value_is ∙ is)) gives.are_networks))
