-- The table by which a client's recipients are accepted, and what it says of the whole table; what is done with its
-- routed paths.
use Rattle.std.proofs.Common.{◌≡◌, ℕ, Bool, true, false, List, [], ◌∷◌, codes, bytes_eq, Option, None, Some, if◌then◌else◌, inl, inr, refl, sym, ap, ◌∙◌}
use Rattle.std.specs.List.{list_any}
use Rattle.std.proofs.lemmas.Bool.{cases_Bool, false_from_ne_true, false≢true}
use Rattle.std.proofs.lemmas.Option.{none-some}
use Rattle.relay_envelope.specs.Path.{Path}
use Rattle.relay_envelope.specs.Path.Path.{Null, Postmaster, Mailbox}
use Rattle.relay_routes.specs.Network.{is_in}
use Rattle.relay_routes.specs.Routes.{Route, RouteTable, entry_of, first_there, hop_for, hop_of, in_lower_case, named_routes, without_wildcard}
use Rattle.relay_routes.specs.Trusted.{Trusted, is_listed, is_trusted}
use Rattle.relay_routes.specs.Accepted.{accepted_paths, accepted_table}
use Rattle.relay_routes.specs.AcceptedLaws.{AcceptedIsRouted, AllAreTrusted, NobodyIsListed}
use Rattle.relay_routes.specs.declared.config.Config.{Config}
use Rattle.relay_routes.specs.declared.routed_paths.RoutedPaths.TheVariants.{Pass}
use Rattle.relay_routes.specs.declared.hop.Hop.{Hop}
use Rattle.relay_routes.proofs.RouteLemmas.{bytes_are, bytes_same}

-- a client that is trusted has the whole table
trusted_by : (config : Config) (client : List ℕ) → is_trusted client config.trusted_clients ≡ true → config.routes ≡ accepted_table config client
unfolding accepted_table
trusted_by config client is = sym (ap (λ b. if b then config.routes else without_wildcard config.routes) is)

-- and any other that of the domains that are named
stranger_by : (config : Config) (client : List ℕ) → is_trusted client config.trusted_clients ≡ false → without_wildcard config.routes ≡ accepted_table config client
unfolding accepted_table
stranger_by config client is = sym (ap (λ b. if b then config.routes else without_wildcard config.routes) is)

pub accepted_of_all : (config : Config) (client : List ℕ) → config.trusted_clients ≡ None → config.routes ≡ accepted_table config client
accepted_of_all config client none = trusted_by config client (ap (is_trusted client) none)

pub accepted_of_trusted : (config : Config) (client : List ℕ) (trusted : Trusted) → config.trusted_clients ≡ Some trusted → list_any (is_in client) trusted.networks ≡ true → config.routes ≡ accepted_table config client
accepted_of_trusted config client trusted some inside = trusted_by config client (ap (is_trusted client) some ∙ inside)

pub accepted_of_stranger : (config : Config) (client : List ℕ) (trusted : Trusted) → config.trusted_clients ≡ Some trusted → list_any (is_in client) trusted.networks ≡ false → trusted.named ≡ accepted_table config client
accepted_of_stranger config client trusted some outside = config.trusting trusted some ∙ stranger_by config client (ap (is_trusted client) some ∙ outside)

pub all_are_trusted : AllAreTrusted
all_are_trusted config client none = sym (accepted_of_all config client none)

-- a client that is listed may send routed paths
pub paths_of_listed : (config : Config) (client : List ℕ) → is_listed client config.trusted_clients ≡ true → Pass ≡ accepted_paths config client
unfolding accepted_paths
paths_of_listed config client is = sym (ap (λ b. if b then Pass else config.routed_paths) is)

-- and for any other the configuration says it
pub paths_of_stranger : (config : Config) (client : List ℕ) → is_listed client config.trusted_clients ≡ false → config.routed_paths ≡ accepted_paths config client
unfolding accepted_paths
paths_of_stranger config client is = sym (ap (λ b. if b then Pass else config.routed_paths) is)

pub nobody_is_listed : NobodyIsListed
nobody_is_listed config client none = sym (paths_of_stranger config client (ap (is_listed client) none))

-- of the routes of named domains none is for `*`
no_wildcard : (routes : List Route) (key : List ℕ) → key ≡ codes "*" → entry_of (named_routes routes) key ≡ None
no_wildcard [] key is = refl
no_wildcard (route ∷ routes) key is =
    elim (cases_Bool (bytes_eq route.domain (codes "*"))) [
      | inl any ↦ rw any (no_wildcard routes key is)
      | inr named ↦
          let other : bytes_eq key route.domain ≡ false = false_from_ne_true (bytes_eq key route.domain)
          (λ here. false≢true (sym named ∙ bytes_are route.domain (codes "*") (sym (bytes_same key route.domain here) ∙ is))) in
          rw (named, other) (no_wildcard routes key is)
    ]

-- what they have at a domain all routes have
entry_of_named : (routes : List Route) (key : List ℕ) (hop : Hop) → entry_of (named_routes routes) key ≡ Some hop → entry_of routes key ≡ Some hop
entry_of_named [] key hop found = found
entry_of_named (route ∷ routes) key hop found =
    elim (cases_Bool (bytes_eq route.domain (codes "*"))) [
      | inl any ↦
          let rest : entry_of (named_routes routes) key ≡ Some hop = rw any at found in
          elim (cases_Bool (bytes_eq key route.domain)) [
            | inl here ↦
                let wild = bytes_same key route.domain here ∙ bytes_same route.domain (codes "*") any in
                absurd (none-some hop (sym (no_wildcard routes key wild) ∙ rest))
            | inr elsewhere ↦ rw elsewhere (entry_of_named routes key hop rest)
          ]
      | inr named ↦
          elim (cases_Bool (bytes_eq key route.domain)) [
            | inl here ↦ rw here (rw (named, here) at found)
            | inr elsewhere ↦ rw elsewhere (entry_of_named routes key hop (rw (named, elsewhere) at found))
          ]
    ]

first_of_named : (hop : Hop) (own any whole other : Option Hop) → any ≡ None → (own ≡ Some hop → whole ≡ Some hop) → first_there own any ≡ Some hop → first_there whole other ≡ Some hop
first_of_named hop None any whole other none by found = absurd (none-some hop (sym none ∙ found))
first_of_named hop (Some own) any whole other none by found = ap (λ w. first_there w other) (by found)

hop_of_named : (routes : List Route) (domain : List ℕ) (hop : Hop) → hop_for (named_routes routes) domain ≡ Some hop → hop_for routes domain ≡ Some hop
hop_of_named routes domain hop found =
    first_of_named hop (entry_of (named_routes routes) (in_lower_case domain)) (entry_of (named_routes routes) (codes "*")) (entry_of routes (in_lower_case domain)) (entry_of routes (codes "*"))
    (no_wildcard routes (codes "*") refl) (entry_of_named routes (in_lower_case domain) hop) found

named_is_routed : (table : RouteTable) (path : Path) (hop : Hop) → hop_of (without_wildcard table) path ≡ Some hop → hop_of table path ≡ Some hop
named_is_routed table Null hop found = found
named_is_routed table (Postmaster word) hop found = hop_of_named table.routes table.host hop found
named_is_routed table (Mailbox route local domain) hop found = hop_of_named table.routes domain hop found

by_trust : (trusted : Bool) (table : RouteTable) (path : Path) (hop : Hop) → hop_of (if trusted then table else without_wildcard table) path ≡ Some hop → hop_of table path ≡ Some hop
by_trust true table path hop found = found
by_trust false table path hop found = named_is_routed table path hop found

pub accepted_is_routed : AcceptedIsRouted
unfolding accepted_table
accepted_is_routed config client path hop found = by_trust (is_trusted client config.trusted_clients) config.routes path hop found
