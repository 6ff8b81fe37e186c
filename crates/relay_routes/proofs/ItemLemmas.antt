-- The networks of an array's items, one item after another.
use Rattle.std.proofs.Common.{◌≡◌, ℕ, ◌+◌, ◌<◌, List, [], ◌∷◌, ◌++◌, Option, None, Some, Err, length, take, get_or, zero, suc, refl, sym, ap, ◌∙◌, subst, arith}
use Rattle.std.proofs.lemmas.List.{take_more}
use Rattle.toml.specs.Data.{Data, Items, no_items, item, array}
use Rattle.toml.specs.View.{items_view, view}
use Rattle.toml.specs.declared.value.Value.{Value}
use Rattle.relay_routes.specs.Network.{AreNetworks, GivesNetwork, GivesNetworks}
use Rattle.relay_routes.specs.Config.{GivesTrusted, ReadsOptional}
use Rattle.relay_routes.specs.declared.fault.ConfigFault.TheVariants.{BadValue}
use Rattle.relay_routes.specs.declared.key.Key.TheVariants.{TrustedClients}
use Rattle.relay_routes.specs.declared.network.Network.{Network}
use Rattle.relay_routes.proofs.NetworkLemmas.{network_is_one}

-- one item more
networks-push : (values : List Value) (networks : List Network) (value : Value) (network : Network) → AreNetworks (items_view values) networks → GivesNetwork (view value) network → AreNetworks (items_view (values ++ value ∷ [])) (networks ++ network ∷ [])
networks-push [] [] value network are gives = (gives, tt)
networks-push [] (first ∷ networks) value network are gives = absurd are
networks-push (first ∷ values) [] value network are gives = absurd are
networks-push (first ∷ values) (one ∷ networks) value network are gives = (are.0, networks-push values networks value network are.1 gives)

-- each item gives a network
pub each_gives : (values : List Value) (place : ℕ) (value : Value) → place < length values → value ≡ get_or values place value → ((network : Network) → ¬ GivesNetwork (view value) network)
    → (networks : List Network) → ¬ AreNetworks (items_view values) networks
each_gives [] place value within is none networks are = absurd (omega arith)
each_gives (first ∷ values) place value within is none [] are = are
each_gives (first ∷ values) zero value within is none (network ∷ networks) are =
    none network (subst (λ (v : Value). GivesNetwork (view v) network) (sym is) are.0)
each_gives (first ∷ values) (suc place) value within is none (network ∷ networks) are = each_gives values place value (omega arith) is none networks are.1

pub networks_more : (values : List Value) (networks : List Network) (place : ℕ) (value : Value) (network : Network) → place < length values → value ≡ get_or values place value → AreNetworks (items_view (take place values)) networks
    → GivesNetwork (view value) network → AreNetworks (items_view (take (place + 1) values)) (networks ++ network ∷ [])
networks_more values networks place value network within is are gives =
    let longer : take (place + 1) values ≡ take place values ++ value ∷ [] = take_more values place value within ∙ ap (λ (v : Value). take place values ++ v ∷ []) (sym is) in
    subst (λ (vs : List Value). AreNetworks (items_view vs) (networks ++ network ∷ [])) (sym longer) (networks-push (take place values) networks value network are gives)

-- items give one list of networks
items_are_one : (items : Items) (one two : List Network) → AreNetworks items one → AreNetworks items two → one ≡ two
items_are_one no_items [] [] a b = refl
items_are_one no_items [] (network ∷ networks) a b = absurd b
items_are_one no_items (network ∷ networks) two a b = absurd a
items_are_one (item value more) [] two a b = absurd a
items_are_one (item value more) (network ∷ networks) [] a b = absurd b
items_are_one (item value more) (network ∷ networks) (other ∷ others) a b =
    let first = network_is_one value network other a.0 b.0 in
    let rest = items_are_one more networks others a.1 b.1 in
    λ j. first j ∷ rest j

same_items : (i j : Items) → array i ≡ array j → i ≡ j
same_items i j same = cc same

pub networks_are_one : (value : Data) (one two : List Network) → GivesNetworks value one → GivesNetworks value two → one ≡ two
networks_are_one value one two a b =
    let items : a.items ≡ b.items = same_items a.items b.items (sym a.value_is ∙ b.value_is) in
    items_are_one b.items one two (subst (λ (i : Items). AreNetworks i one) items a.are_networks) b.are_networks

-- an array of which an item gives no network names none
no_networks : (value : Data) (items : Items) → value ≡ array items → ((networks : List Network) → ¬ AreNetworks items networks) → (found : Option (List Network)) → ¬ GivesTrusted value found
no_networks value items is none None gives = gives
no_networks value items is none (Some networks) gives =
    none networks (subst (λ (i : Items). AreNetworks i networks) (same_items gives.items items (sym gives.value_is ∙ is)) gives.are_networks)

-- why such an array is refused
pub array_is_refused : (found : Option Data) (value : Data) (items : Items) → found ≡ Some value → value ≡ array items → ((networks : List Network) → ¬ AreNetworks items networks)
    → ReadsOptional TrustedClients None GivesTrusted found (Err (BadValue TrustedClients))
array_is_refused found value items there is none =
    subst (λ (f : Option Data). ReadsOptional TrustedClients None GivesTrusted f (Err (BadValue TrustedClients))) (sym there) (refl, no_networks value items is none)
