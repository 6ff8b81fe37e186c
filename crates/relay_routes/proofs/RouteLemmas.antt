-- What a table's maps have is what its routes say, and routes agree as one more comes.
use Rattle.std.proofs.Common.{◌≡◌, ◌≢◌, ◌⊎◌, inl, inr, ℕ, Bool, true, false, cond, List, [], ◌∷◌, ◌++◌, Option, None, Some, Vec, Global, bytes_eq, find, option_map, refl, sym, ap, ◌∙◌}
use Rattle.std.specs.List.{AllByRecursion}
use Rattle.std.specs.declared.net.socket_addr.SocketAddrV4.{SocketAddrV4}
use Rattle.std.proofs.lemmas.Bool.{cases_Bool, false≢true}
use Rattle.std.proofs.lemmas.List.{map-append}
use Rattle.std.proofs.lemmas.Option.{none-some, same_Some}
use Rattle.std.proofs.lemmas.Slice.Eq.{bytes_eq-Decides}
use Rattle.indexmap.specs.IndexMap.{insert_entry}
use Rattle.relay_routes.specs.declared.hop.Hop.{Hop}
use Rattle.relay_routes.specs.Routes.{Agrees, AllAgree, HasNoOtherPlace, Route, entry_of, first_there, place_of}
use Rattle.relay_routes.specs.Indexed.{IsIndexed, routes_of, value_at}

entry_or : (here : Bool) (hop : Hop) (route : Route) (rest : Option Hop) (found : Option Route) → route.hop ≡ hop → rest ≡ option_map (λ r. r.hop) found → cond here (Some hop) rest ≡ option_map (λ r. r.hop) (cond here (Some route) found)
entry_or true hop route rest found same more = ap Some (sym same)
entry_or false hop route rest found same more = more

-- what the map of the hops has for a domain
pub entry_is : (domain : List ℕ) (entries : List (Vec ℕ Global × Hop)) → value_at domain entries ≡ entry_of (routes_of entries) domain
entry_is domain [] = refl
entry_is domain (entry ∷ entries) = entry_or (bytes_eq domain entry.0.items) entry.1 _ _ _ refl (entry_is domain entries)

-- one entry more is one route more
pub routes_of-push : (entries : List (Vec ℕ Global × Hop)) (domain : Vec ℕ Global) (hop : Hop) → routes_of (entries ++ (domain, hop) ∷ []) ≡ routes_of entries ++ record { domain = domain.items; hop = hop } ∷ []
routes_of-push entries domain hop = map-append _ entries ((domain, hop) ∷ [])

all-push : {A : Type 0} (P : A → Type 0) (xs : List A) (x : A) → AllByRecursion P xs → P x → AllByRecursion P (xs ++ x ∷ [])
all-push P [] x all last = (last, tt)
all-push P (y ∷ xs) x all last = (all.0, all-push P xs x all.1 last)

-- routes agree with one more that each agrees with
pub all_agree-push : (routes : List Route) (route : Route) → AllAgree routes → AllByRecursion (λ one. Agrees one route) routes → AllAgree (routes ++ route ∷ [])
all_agree-push [] route agree each = (tt, tt)
all_agree-push (one ∷ routes) route agree each =
    (all-push (Agrees one) routes route agree.0 each.0, all_agree-push routes route agree.1 each.1)

pub bytes_same : (xs ys : List ℕ) → bytes_eq xs ys ≡ true → xs ≡ ys
bytes_same xs ys = (bytes_eq-Decides xs ys).0

bytes_differ : (xs ys : List ℕ) → bytes_eq xs ys ≡ false → xs ≢ ys
bytes_differ xs ys differ same = false≢true (sym differ ∙ (bytes_eq-Decides xs ys).1 same)

pub bytes_are : (xs ys : List ℕ) → xs ≡ ys → bytes_eq xs ys ≡ true
bytes_are xs ys = (bytes_eq-Decides xs ys).1

differs : (octets key other : List ℕ) → bytes_eq octets key ≡ true → bytes_eq key other ≡ false → bytes_eq octets other ≡ false
differs octets key other here apart = rw (bytes_same octets key here) apart

-- where no entry is found, the first route is for another domain, and none is found after it
entry_absent : (route : Route) (routes : List Route) (domain : List ℕ) → entry_of (route ∷ routes) domain ≡ None → (bytes_eq domain route.domain ≡ false) × (entry_of routes domain ≡ None)
entry_absent route routes domain absent =
    elim (cases_Bool (bytes_eq domain route.domain)) [
      | inl here ↦ let e = absent in absurd (none-some route.hop (sym (rw here at e)))
      | inr elsewhere ↦ let e = absent in (elsewhere, rw elsewhere at e)
    ]

-- the place of the first name that is this one
pub place_here : (route : Route) (routes : List Route) (name : List ℕ) → bytes_eq name route.hop.name ≡ true → place_of (route ∷ routes) name ≡ Some route.hop.at
place_here route routes name here = rw here

pub place_after : (route : Route) (routes : List Route) (name : List ℕ) → bytes_eq name route.hop.name ≡ false → place_of (route ∷ routes) name ≡ place_of routes name
place_after route routes name elsewhere = rw elsewhere

-- each route to this name goes to this place
abbrev GoesTo : List ℕ → SocketAddrV4 → Route → Type 0
GoesTo name place route = route.hop.name ≡ name → route.hop.at ≡ place

goes_with : (one : Route) (name : List ℕ) (place : SocketAddrV4) (routes : List Route) → one.hop.name ≡ name → one.hop.at ≡ place → AllByRecursion (Agrees one) routes → AllByRecursion (GoesTo name place) routes
goes_with one name place [] named at agree = tt
goes_with one name place (other ∷ routes) named at agree =
    (λ same. sym (agree.0.places (named ∙ sym same)) ∙ at, goes_with one name place routes named at agree.1)

goes_to : (routes : List Route) (name : List ℕ) (place : SocketAddrV4) → AllAgree routes → (place_of routes name ≡ None) ⊎ (place_of routes name ≡ Some place) → AllByRecursion (GoesTo name place) routes
goes_to [] name place agree known = tt
goes_to (route ∷ routes) name place agree known =
    elim (cases_Bool (bytes_eq name route.hop.name)) [
      | inl here ↦
          let is = place_here route routes name here in
          let at : route.hop.at ≡ place = elim known [
            | inl none ↦ absurd (none-some route.hop.at (sym none ∙ is))
            | inr some ↦ same_Some route.hop.at place (sym is ∙ some)
          ] in
          (λ same. at, goes_with route name place routes (sym (bytes_same name route.hop.name here)) at agree.0)
      | inr elsewhere ↦
          let after = place_after route routes name elsewhere in
          let rest : (place_of routes name ≡ None) ⊎ (place_of routes name ≡ Some place) = elim known [
            | inl none ↦ inl (sym after ∙ none)
            | inr some ↦ inr (sym after ∙ some)
          ] in
          (λ same. absurd (bytes_differ name route.hop.name elsewhere (sym same)), goes_to routes name place agree.1 rest)
    ]

each_agrees : (routes : List Route) (domain : List ℕ) (hop : Hop) → entry_of routes domain ≡ None → AllByRecursion (GoesTo hop.name hop.at) routes → AllByRecursion (λ one. Agrees one (record { domain = domain; hop = hop })) routes
each_agrees [] domain hop absent goes = tt
each_agrees (route ∷ routes) domain hop absent goes =
    let (elsewhere, after) = entry_absent route routes domain absent in (
      record { domains = λ same. bytes_differ domain route.domain elsewhere (sym same); places = goes.0 },
      each_agrees routes domain hop after goes.1,
    )

-- routes agree with one more for another domain, whose name has no other place
pub agree_with_one_more : (routes : List Route) (domain : List ℕ) (hop : Hop) → AllAgree routes → entry_of routes domain ≡ None → HasNoOtherPlace routes hop → AllAgree (routes ++ record { domain = domain; hop = hop } ∷ [])
agree_with_one_more routes domain hop agree absent known =
    all_agree-push routes _ agree (each_agrees routes domain hop absent (goes_to routes hop.name hop.at agree known))

-- the place of a name, where one route more stands after
place-push : (routes : List Route) (route : Route) (name : List ℕ) → place_of (routes ++ route ∷ []) name ≡ first_there (place_of routes name) (cond (bytes_eq name route.hop.name) (Some route.hop.at) None)
place-push [] route name = by (bytes_eq name route.hop.name)
  where
    by : (here : Bool) → option_map (λ r. r.hop.at) (cond here (Some route) None) ≡ cond here (Some route.hop.at) None
    by true = refl
    by false = refl
place-push (one ∷ routes) route name = by (bytes_eq name one.hop.name) (place-push routes route name)
  where
    by : (here : Bool) → place_of (routes ++ route ∷ []) name ≡ first_there (place_of routes name) (cond (bytes_eq name route.hop.name) (Some route.hop.at) None)
        → option_map (λ r. r.hop.at) (cond here (Some one) (find (λ r. bytes_eq name r.hop.name) (routes ++ route ∷ [])))
        ≡ first_there (option_map (λ r. r.hop.at) (cond here (Some one) (find (λ r. bytes_eq name r.hop.name) routes))) (cond (bytes_eq name route.hop.name) (Some route.hop.at) None)
    by true more = refl
    by false more = more

-- what a map has after an insert
value-insert : (octets : List ℕ) (places : List (Vec ℕ Global × SocketAddrV4)) (key : Vec ℕ Global) (place : SocketAddrV4)
    → value_at octets (insert_entry (λ x y. bytes_eq x.items y.items) places key place) ≡ cond (bytes_eq octets key.items) (Some place) (value_at octets places)
value-insert octets [] key place = refl
value-insert octets (entry ∷ places) key place =
    elim (cases_Bool (bytes_eq key.items entry.0.items)) [
      | inl same ↦
          let is = bytes_same key.items entry.0.items same in
          rw (same, ← is) (by_key (bytes_eq octets key.items) entry.1 (value_at octets places))
      | inr other ↦
          rw other (ap (λ rest. cond (bytes_eq octets entry.0.items) (Some entry.1) rest) (value-insert octets places key place)
          ∙ elim (cases_Bool (bytes_eq octets key.items)) [
            | inl here ↦
                let apart : bytes_eq octets entry.0.items ≡ false = differs octets key.items entry.0.items here other in
                rw (here, apart)
            | inr elsewhere ↦ rw elsewhere
          ])
    ]
  where
    by_key : (here : Bool) (old : SocketAddrV4) (rest : Option SocketAddrV4) → cond here (Some place) rest ≡ cond here (Some place) (cond here (Some old) rest)
    by_key true old rest = refl
    by_key false old rest = refl

-- the places after one route more are those of its routes
pub indexed_with_one_more : (routes : List Route) (places : List (Vec ℕ Global × SocketAddrV4)) (domain : List ℕ) (hop : Hop) (name : Vec ℕ Global)
    → IsIndexed routes places → entry_of routes domain ≡ None → HasNoOtherPlace routes hop → name.items ≡ hop.name
    → IsIndexed (routes ++ record { domain = domain; hop = hop } ∷ []) (insert_entry (λ x y. bytes_eq x.items y.items) places name hop.at)
indexed_with_one_more routes places domain hop name indexed absent known named = record {
  agree = agree_with_one_more routes domain hop indexed.agree absent known;
  places_are = λ other.
      value-insert other places name hop.at
      ∙ ap (λ rest. cond (bytes_eq other name.items) (Some hop.at) rest) (indexed.places_are other)
      ∙ elim (cases_Bool (bytes_eq other hop.name)) [
        | inl here ↦
            let is = bytes_same other hop.name here in
            let found : first_there (place_of routes other) (Some hop.at) ≡ Some hop.at = elim known [
              | inl none ↦ rw (is, none)
              | inr some ↦ rw (is, some)
            ] in
            rw (place-push routes (record { domain = domain; hop = hop }) other, named, here) (sym found)
        | inr elsewhere ↦ rw (place-push routes (record { domain = domain; hop = hop }) other, named, elsewhere) (alone (place_of routes other))
      ];
}
  where
    alone : {A : Type 0} (o : Option A) → o ≡ first_there o None
    alone None = refl
    alone (Some x) = refl

-- what the map of the places has, where it has none or one
pub place_known : (routes : List Route) (places : List (Vec ℕ Global × SocketAddrV4)) (name : List ℕ) (found : Option SocketAddrV4) → IsIndexed routes places → found ≡ value_at name places → place_of routes name ≡ found
place_known routes places name found indexed is = sym (indexed.places_are name) ∙ sym is
