-- Hops of paths as they are stored, the places of their names, and what a configuration says of its host.
use Rattle.std.proofs.Common.{◌≡◌, ℕ, Bool, true, false, List, [], ◌∷◌, codes, Option, None, Some, bytes_eq, unwrap_or, if◌then◌else◌, refl, sym, ap, ◌∙◌, inl, inr}
use Rattle.std.specs.List.{AllByRecursion}
use Rattle.std.proofs.lemmas.Bool.{cases_Bool, false_from_ne_true}
use Rattle.std.proofs.lemmas.Option.{none-some, same_Some}
use Rattle.relay_envelope.specs.Path.{Path, IsPath, domain_in, path_text}
use Rattle.relay_envelope.specs.Path.Path.{Null, Postmaster, Mailbox}
use Rattle.relay_envelope.proofs.Theorems.{domain_in_is_domain_of, host_name_is_host_word, host_word_has_no_crlf, same_path}
use Rattle.relay_routes.specs.declared.hop.Hop.{Hop}
use Rattle.relay_routes.specs.Routes.{Agrees, AllAgree, Route, RouteTable, entry_of, first_there, hop_for, in_lower_case, place_of, HopAtIsHopOf, HopHasItsPlace}
use Rattle.relay_routes.specs.Settings.{ConfigIsNamed}
use Rattle.relay_routes.proofs.RouteLemmas.{bytes_are, bytes_same, place_after, place_here}

-- another path's text is not that of the null path
is_no_null : (path : Path) → IsPath path → (path ≡ Null → ⊥) → bytes_eq (path_text path) (codes "<>") ≡ false
is_no_null path valid other =
    false_from_ne_true (bytes_eq (path_text path) (codes "<>")) (λ same.
    other (same_path (path_text path) path Null valid refl tt (bytes_same (path_text path) (codes "<>") same)))

-- the hop of a text that isn't `<>`, by its domain
at_domain : (table : RouteTable) (path : Path) (domain : Option (List ℕ)) → bytes_eq (path_text path) (codes "<>") ≡ false → domain_in (path_text path) ≡ domain
    → (if bytes_eq (path_text path) (codes "<>") then None else hop_for table.routes (unwrap_or (domain_in (path_text path)) table.host)) ≡ hop_for table.routes (unwrap_or domain table.host)
at_domain table path domain some is =
    ap (λ b. if b then None else hop_for table.routes (unwrap_or (domain_in (path_text path)) table.host)) some
    ∙ ap (λ d. hop_for table.routes (unwrap_or d table.host)) is

pub hop_at_is_hop_of : HopAtIsHopOf
hop_at_is_hop_of table Null valid = refl
hop_at_is_hop_of table (Postmaster word) valid =
    at_domain table (Postmaster word) None (is_no_null (Postmaster word) valid (λ e. let no : ⊥ = cc in no)) (domain_in_is_domain_of (Postmaster word) valid)
hop_at_is_hop_of table (Mailbox route local domain) valid =
    at_domain table (Mailbox route local domain) (Some domain) (is_no_null (Mailbox route local domain) valid (λ e. let no : ⊥ = cc in no)) (domain_in_is_domain_of (Mailbox route local domain) valid)

-- of routes that agree with one, that of a domain goes to one place with it where both go to one name
entry_agrees : (one : Route) (routes : List Route) (domain : List ℕ) (hop : Hop) → AllByRecursion (Agrees one) routes → entry_of routes domain ≡ Some hop → one.hop.name ≡ hop.name → one.hop.at ≡ hop.at
entry_agrees one [] domain hop agree found same = absurd (none-some hop found)
entry_agrees one (route ∷ routes) domain hop agree found same =
    elim (cases_Bool (bytes_eq domain route.domain)) [
      | inl here ↦
          let is : route.hop ≡ hop = same_Some route.hop hop (rw here at found) in
          agree.0.places (same ∙ ap (λ h. h.name) (sym is)) ∙ ap (λ h. h.at) is
      | inr elsewhere ↦ entry_agrees one routes domain hop agree.1 (rw elsewhere at found) same
    ]

-- the hop of a route has its name's place
entry_placed : (routes : List Route) (domain : List ℕ) (hop : Hop) → AllAgree routes → entry_of routes domain ≡ Some hop → place_of routes hop.name ≡ Some hop.at
entry_placed [] domain hop agree found = absurd (none-some hop found)
entry_placed (route ∷ routes) domain hop agree found =
    elim (cases_Bool (bytes_eq domain route.domain)) [
      | inl here ↦
          let is : route.hop ≡ hop = same_Some route.hop hop (rw here at found) in
          place_here route routes hop.name (bytes_are hop.name route.hop.name (ap (λ h. h.name) (sym is))) ∙ ap (λ h. Some h.at) is
      | inr elsewhere ↦
          let after : entry_of routes domain ≡ Some hop = rw elsewhere at found in
          elim (cases_Bool (bytes_eq hop.name route.hop.name)) [
            | inl named ↦
                place_here route routes hop.name named
                ∙ ap Some (entry_agrees route routes domain hop agree.0 after (sym (bytes_same hop.name route.hop.name named)))
            | inr other ↦ place_after route routes hop.name other ∙ entry_placed routes domain hop agree.1 after
          ]
    ]

first_placed : (routes : List Route) (hop : Hop) (own any : Option Hop) → (own ≡ Some hop → place_of routes hop.name ≡ Some hop.at) → (any ≡ Some hop → place_of routes hop.name ≡ Some hop.at) → first_there own any ≡ Some hop → place_of routes hop.name ≡ Some hop.at
first_placed routes hop None any by_own by_any found = by_any found
first_placed routes hop (Some own) any by_own by_any found = by_own found

chosen_placed : (routes : List Route) (hop : Hop) (null : Bool) (other : Option Hop) → (other ≡ Some hop → place_of routes hop.name ≡ Some hop.at) → (if null then None else other) ≡ Some hop → place_of routes hop.name ≡ Some hop.at
chosen_placed routes hop true other by_other found = absurd (none-some hop found)
chosen_placed routes hop false other by_other found = by_other found

pub hop_has_its_place : HopHasItsPlace
hop_has_its_place table path hop agree found =
    let domain = unwrap_or (domain_in path) table.host in
    let placed : (key : List ℕ) → entry_of table.routes key ≡ Some hop → place_of table.routes hop.name ≡ Some hop.at = λ key. entry_placed table.routes key hop agree in
    chosen_placed table.routes hop (bytes_eq path (codes "<>")) (hop_for table.routes domain)
    (first_placed table.routes hop (entry_of table.routes (in_lower_case domain)) (entry_of table.routes (codes "*")) (placed (in_lower_case domain)) (placed (codes "*"))) found

pub config_is_named : ConfigIsNamed
config_is_named host max_content spool_limit routes config =
    let word = host_name_is_host_word host config.named in
    record { same_host = config.same_host; is_name = config.named; is_word = word; has_no_crlf = host_word_has_no_crlf host word }
