-- Which configurations make a network.
use Rattle.std.proofs.Common.{◌≡◌, ◌≢◌, ◌⊎◌, ◌<◌, ◌≤◌, ◌+◌, ℕ, zero, suc, Bool, true, false, Option, Some, List, [], ◌∷◌, length, inl, inr, refl, sym, ap, ◌∙◌, subst, arith, bytes_eq}
use Rattle.std.specs.Prelude.{find, option_map, slice_get, slice_index_or}
use Rattle.std.specs.List.{Contains}
use Rattle.std.specs.Option.{is_some}
use Rattle.std.proofs.lemmas.Bool.{cases_lt, cond-true, cond-false, false≢true, true≢false}
use Rattle.std.proofs.lemmas.Option.{same_Some, slice_get_read, slice_get_within}
use Rattle.std.proofs.lemmas.Slice.Eq.{bytes_eq-Decides}
use Rattle.relay_routes.specs.Routes.{Route, place_of}
use Rattle.relay_routes.specs.declared.config.Config.{Config}
use Rattle.relay_pair.specs.Network.{HasOwnHop, HaveOneHost, IsHostBefore, SendsHome}

below_or_is : (n m : ℕ) → n < m + 1 → (n < m) ⊎ (n ≡ m)
below_or_is n m less = elim (cases_lt n m) [
  | inl lower ↦ inl lower
  | inr above ↦ inr (omega (arith, less, above))
]

-- none of the places before this one has a host of an earlier one
abbrev pub NoneSoFar : List Config → ℕ → Type 0
NoneSoFar configs other = (place : ℕ) → place < other → ¬ IsHostBefore configs place

pub none_so_far : (configs : List Config) (other : ℕ) → other < 2 → NoneSoFar configs other
none_so_far configs other low place below has = let less = has.before in omega (arith, low, below, less)

pub none_more : (configs : List Config) (other : ℕ) → NoneSoFar configs other → ¬ IsHostBefore configs other
    → NoneSoFar configs (other + 1)
none_more configs other none not_there place below has =
    elim (below_or_is place other below) [
      | inl lower ↦ none place lower has
      | inr is ↦ not_there (subst (λ p. IsHostBefore configs p) is has)
    ]

pub no_one_host : (configs : List Config) (other : ℕ) → length configs ≤ other → NoneSoFar configs other
    → ¬ HaveOneHost configs
no_one_host configs other all none has =
    let within = slice_get_within configs has.0 has.1.second has.1.second_at in
    none has.0 (omega (arith, within, all)) has.1

-- none before this place has the host of the one at another
abbrev pub NoneBefore : List Config → ℕ → ℕ → Type 0
NoneBefore configs other place =
    (one : ℕ) (first second : Config) → one < place → slice_get configs one ≡ Some first
    → slice_get configs other ≡ Some second → first.host ≢ second.host

pub none_before_first : (configs : List Config) (other : ℕ) → NoneBefore configs other 0
none_before_first configs other one first second below first_at second_at same = omega (arith, below)

pub none_before_more : (configs : List Config) (other place : ℕ) (one second : Config) → NoneBefore configs other place
    → place < length configs → one ≡ slice_index_or configs place one → other < length configs
    → second ≡ slice_index_or configs other second → bytes_eq one.host second.host ≡ false
    → NoneBefore configs other (place + 1)
none_before_more configs other place one second none within one_is other_within second_is differ at first others below first_at others_at same =
    let one_at : slice_get configs place ≡ Some one = slice_get_read configs (length configs) place one refl within one_is in
    let second_at : slice_get configs other ≡ Some second =
    slice_get_read configs (length configs) other second refl other_within second_is in
    elim (below_or_is at place below) [
      | inl lower ↦ none at first others lower first_at others_at same
      | inr is ↦
          let firsts : first ≡ one = same_Some first one (sym first_at ∙ ap (λ n. slice_get configs n) is ∙ one_at) in
          let seconds : others ≡ second = same_Some others second (sym others_at ∙ second_at) in
          let hosts : one.host ≡ second.host =
          sym (ap (λ (c : Config). c.host) firsts) ∙ same ∙ ap (λ (c : Config). c.host) seconds in
          true≢false (sym ((bytes_eq-Decides one.host second.host).1 hosts) ∙ differ)
    ]

-- the one at this place has the host
pub host_found : (configs : List Config) (other place : ℕ) (one second : Config) → place < other → other < length configs
    → one ≡ slice_index_or configs place one → second ≡ slice_index_or configs other second
    → bytes_eq one.host second.host ≡ true → IsHostBefore configs other
host_found configs other place one second before within one_is second_is same = record {
  one = place;
  before = before;
  first = one;
  first_at = slice_get_read configs (length configs) place one refl (omega (arith, before, within)) one_is;
  second = second;
  second_at = slice_get_read configs (length configs) other second refl within second_is;
  same = (bytes_eq-Decides one.host second.host).0 same;
}

pub no_host_before : (configs : List Config) (other place : ℕ) → other ≤ place → NoneBefore configs other place
    → ¬ IsHostBefore configs other
no_host_before configs other place all none has =
    let less = has.before in none has.one has.first has.second (omega (arith, less, all)) has.first_at has.second_at has.same

-- a name is found among the hops of routes, or no route goes to it
pub found_route : (routes : List Route) (name : List ℕ) → is_some (place_of routes name) ≡ true
    → (route : Route) × Contains routes route × (route.hop.name ≡ name)
found_route [] name is = absurd (false≢true is)
found_route (route ∷ routes) name is = by (found_route routes name) (bytes_eq name route.hop.name) refl
  where
    by : (is_some (place_of routes name) ≡ true → (r : Route) × Contains routes r × (r.hop.name ≡ name))
        → (b : Bool) → bytes_eq name route.hop.name ≡ b → (r : Route) × Contains (route ∷ routes) r × (r.hop.name ≡ name)
    by further true same = (route, (0, omega arith, refl), sym ((bytes_eq-Decides name route.hop.name).0 same))
    by further false other =
        let later = further
        (sym (ap (λ (o : Option Route). is_some (option_map (λ r. r.hop.at) o))
        (cond-false (bytes_eq name route.hop.name) (Some route) (find (λ r. bytes_eq name r.hop.name) routes) other)) ∙ is) in
        let at = later.1 in
        (later.0, (suc at.0, (let less = at.1 in omega (arith, less)), at.2), later.2)

pub no_route : (routes : List Route) (name : List ℕ) → is_some (place_of routes name) ≡ false → (route : Route)
    → Contains routes route → route.hop.name ≢ name
no_route [] name is route has own = let less = has.1 in omega (arith, less)
no_route (first ∷ routes) name is route has own =
    by (λ rest after. no_route routes name rest route after own) (bytes_eq name first.hop.name) refl
  where
    by : (is_some (place_of routes name) ≡ false → Contains routes route → ⊥)
        → (b : Bool) → bytes_eq name first.hop.name ≡ b → ⊥
    by further true same =
        true≢false (sym (ap (λ (o : Option Route). is_some (option_map (λ r. r.hop.at) o))
        (cond-true (bytes_eq name first.hop.name) (Some first) (find (λ r. bytes_eq name r.hop.name) routes) same)) ∙ is)
    by further false other =
        let rest : is_some (place_of routes name) ≡ false =
        sym (ap (λ (o : Option Route). is_some (option_map (λ r. r.hop.at) o))
        (cond-false (bytes_eq name first.hop.name) (Some first) (find (λ r. bytes_eq name r.hop.name) routes) other)) ∙ is in
        at_place (further rest) has
      where
        at_place : (Contains routes route → ⊥) → Contains (first ∷ routes) route → ⊥
        at_place after (zero, within, here) =
            true≢false (sym ((bytes_eq-Decides name first.hop.name).1 (sym own ∙ ap (λ (r : Route). r.hop.name) (sym here)))
            ∙ other)
        at_place after (suc k, within, here) = after (k, omega (arith, within), here)

pub sends_home : (config : Config) → is_some (place_of config.routes.routes config.host) ≡ true → SendsHome config
sends_home config is = let found = found_route config.routes.routes config.host is in
    record { route = found.0; its = found.1; own = found.2 }

pub sends_elsewhere : (config : Config) → is_some (place_of config.routes.routes config.host) ≡ false → ¬ SendsHome config
sends_elsewhere config is home = no_route config.routes.routes config.host is home.route home.its home.own

-- no table before this place sends home
abbrev pub NoneSendsHome : List Config → ℕ → Type 0
NoneSendsHome configs place = (at : ℕ) (config : Config) → at < place → slice_get configs at ≡ Some config → ¬ SendsHome config

pub none_sends_home : (configs : List Config) → NoneSendsHome configs 0
none_sends_home configs at config below there home = omega (arith, below)

pub none_sends_more : (configs : List Config) (place : ℕ) (one : Config) → NoneSendsHome configs place
    → place < length configs → one ≡ slice_index_or configs place one → ¬ SendsHome one → NoneSendsHome configs (place + 1)
none_sends_more configs place one none within one_is not_one at config below there home =
    elim (below_or_is at place below) [
      | inl lower ↦ none at config lower there home
      | inr is ↦
          let here : slice_get configs place ≡ Some one = slice_get_read configs (length configs) place one refl within one_is in
          let same : config ≡ one = same_Some config one (sym there ∙ ap (λ n. slice_get configs n) is ∙ here) in
          not_one (subst SendsHome same home)
    ]

-- the one at this place sends home
pub own_hop_found : (configs : List Config) (place : ℕ) (one : Config) → place < length configs
    → one ≡ slice_index_or configs place one → SendsHome one → HasOwnHop configs
own_hop_found configs place one within one_is home = record {
  at = place;
  config = one;
  config_at = slice_get_read configs (length configs) place one refl within one_is;
  home = home;
}

pub no_own_hop : (configs : List Config) (place : ℕ) → length configs ≤ place → NoneSendsHome configs place
    → ¬ HasOwnHop configs
no_own_hop configs place all none has =
    let within = slice_get_within configs has.at has.config has.config_at in
    none has.at has.config (omega (arith, within, all)) has.config_at has.home
