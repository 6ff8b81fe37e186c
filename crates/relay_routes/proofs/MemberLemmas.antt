-- The routes of a table's members, one member after another.
use Rattle.std.proofs.Common.{◌≡◌, ◌⊎◌, inl, inr, ℕ, List, [], ◌∷◌, ◌++◌, ◌≤◌, Option, None, Some, Ok, IsSome, bytes_eq, refl, sym, ap, ◌∙◌, append_assoc, append-nil, arith}
use Rattle.std.specs.List.{AllByRecursion}
use Rattle.std.specs.declared.net.socket_addr.SocketAddrV4.{SocketAddrV4}
use Rattle.std.proofs.lemmas.Bool.{cases_Bool, false≢true}
use Rattle.std.proofs.lemmas.Option.{none-some, same_Some}
use Rattle.toml.specs.Data.{Data, Members, no_members, member, string}
use Rattle.relay_routes.specs.declared.hop.Hop.{Hop}
use Rattle.relay_envelope.specs.HostName.{IsHostName}
use Rattle.relay_routes.specs.Value.{GivesHost, GivesSize, address_text}
use Rattle.relay_routes.specs.Routes.{Agrees, AllAgree, HasOtherPlace, MayBeAdded, RefusesRoute, Route, RouteTable, entry_of, in_lower_case, place_of, with_route}
use Rattle.relay_routes.specs.Document.{AreRoutes, GivesHop, GivesRoute, fault_of_routes}
use Rattle.relay_routes.specs.Config.{ReadsOptional, ReadsRequired}
use Rattle.relay_routes.specs.declared.fault.ConfigFault.TheVariants.{BadValue, NoMemory}
use Rattle.relay_routes.specs.declared.fault.RouteFault.{RouteFault}
use Rattle.relay_routes.specs.declared.fault.RouteFault.TheVariants.{BadDomain, Repeated, SecondPlace, NoMemory as OutOfMemory}
use Rattle.relay_routes.specs.declared.key.Key.{Key}
use Rattle.relay_routes.specs.declared.key.Key.TheVariants.{Host, Routes}
use Rattle.relay_routes.proofs.AddressLemmas.{address_is_one}
use Rattle.relay_routes.proofs.RouteLemmas.{agree_with_one_more, bytes_same, place_here, place_after}

-- a value gives one hop
pub hop_is_one : (value : Data) (one two : Hop) → GivesHop value one → GivesHop value two → one ≡ two
hop_is_one value one two a b =
    let members : a.members ≡ b.members = cc (a.value_is, b.value_is) in
    let same_name : Some (string one.name) ≡ Some (string two.name) = cc (a.name, b.name, members) in
    let same_place : Some (string (address_text one.at)) ≡ Some (string (address_text two.at)) = cc (a.place, b.place, members) in
    let name : one.name ≡ two.name = cc same_name in
    let text : address_text one.at ≡ address_text two.at = cc same_place in
    let place = address_is_one one.at two.at a.is_place b.is_place text in
    λ j. record { name = name j; at = place j }

-- a key and its value give one route
pub route_is_one : (key : List ℕ) (value : Data) (one two : Route) → GivesRoute key value one → GivesRoute key value two → one ≡ two
route_is_one key value one two a b =
    let domain : one.domain ≡ two.domain = a.domain ∙ sym b.domain in
    let hop = hop_is_one value one.hop two.hop a.hop b.hop in
    λ j. record { domain = domain j; hop = hop j }

-- what stands after the routes of the members so far
pub record After (rest : Members) (routes whole : List Route) : Type 0 where
  pub tail : List Route
  pub whole_is : whole ≡ routes ++ tail
  pub are_routes : AreRoutes rest tail

-- these routes are those of the members before the rest, and they agree
pub record Walked (all rest : Members) (routes : List Route) : Type 0 where
  pub sound : (tail : List Route) → AreRoutes rest tail → AreRoutes all (routes ++ tail)
  pub complete : (whole : List Route) → AreRoutes all whole → After rest routes whole
  pub agree : AllAgree routes

pub walked_none : (all : Members) → Walked all all []
walked_none all = record {
  sound = λ tail are. are;
  complete = λ whole are. record { tail = whole; whole_is = refl; are_routes = are };
  agree = tt;
}

-- the routes of members that begin with one begin with its route
after_step : (key : List ℕ) (value : Data) (rest : Members) (route : Route) (routes whole : List Route) → GivesRoute key value route → After (member key value rest) routes whole → After rest (routes ++ route ∷ []) whole
after_step key value rest route routes whole gives after = by after.tail after.whole_is after.are_routes
  where
    by : (tail : List Route) → whole ≡ routes ++ tail → AreRoutes (member key value rest) tail → After rest (routes ++ route ∷ []) whole
    by [] whole_is are = absurd are
    by (first ∷ tail) whole_is are = record {
      tail = tail;
      whole_is = whole_is ∙ ap (λ r. routes ++ r ∷ tail) (route_is_one key value first route are.0 gives) ∙ sym (append_assoc routes (route ∷ []) tail);
      are_routes = are.1;
    }

pub walked_more : (all : Members) (key : List ℕ) (value : Data) (rest : Members) (routes : List Route) (route : Route) → Walked all (member key value rest) routes → GivesRoute key value route → AllAgree (routes ++ route ∷ []) → Walked all rest (routes ++ route ∷ [])
walked_more all key value rest routes route walked gives agree = record {
  sound = λ tail are. rw append_assoc (walked.sound (route ∷ tail) (gives, are));
  complete = λ whole are. after_step key value rest route routes whole gives (walked.complete whole are);
  agree = agree;
}

pub walked_all : (all : Members) (routes : List Route) → Walked all no_members routes → AreRoutes all routes × AllAgree routes
walked_all all routes walked =
    let are = walked.sound [] tt in
    (rw append-nil at are, walked.agree)

-- where a member gives no route, the members say none
pub no_route : (all : Members) (key : List ℕ) (value : Data) (rest : Members) (routes whole : List Route) → Walked all (member key value rest) routes → ((route : Route) → ¬ GivesRoute key value route) → AreRoutes all whole → ⊥
no_route all key value rest routes whole walked none are = by (walked.complete whole are).tail (walked.complete whole are).are_routes
  where
    by : (tail : List Route) → AreRoutes (member key value rest) tail → ⊥
    by [] are = are
    by (route ∷ tail) are = none route are.0

-- the routes before one that agrees with all agree with it
pub agree_before : (routes : List Route) (route : Route) (tail : List Route) → AllAgree (routes ++ route ∷ tail) → AllByRecursion (λ one. Agrees one route) routes
agree_before [] route tail agree = tt
agree_before (one ∷ routes) route tail agree = (at_place routes agree.0, agree_before routes route tail agree.1)
  where
    at_place : (rest : List Route) → AllByRecursion (Agrees one) (rest ++ route ∷ tail) → Agrees one route
    at_place [] all = all.0
    at_place (other ∷ rest) all = at_place rest all.1

-- a route that agrees with others is for a domain of which there is no entry
pub entry_is_new : (routes : List Route) (route : Route) → AllByRecursion (λ one. Agrees one route) routes → ¬ IsSome (entry_of routes route.domain)
entry_is_new [] route agree some = false≢true some
entry_is_new (one ∷ routes) route agree some =
    elim (cases_Bool (bytes_eq route.domain one.domain)) [
      | inl here ↦ agree.0.domains (sym (bytes_same route.domain one.domain here))
      | inr elsewhere ↦ entry_is_new routes route agree.1 (rw elsewhere at some)
    ]

-- and the place of its name is its own
pub place_is_own : (routes : List Route) (route : Route) (place : SocketAddrV4) → AllByRecursion (λ one. Agrees one route) routes → place_of routes route.hop.name ≡ Some place → place ≡ route.hop.at
place_is_own [] route place agree found = absurd (none-some place found)
place_is_own (one ∷ routes) route place agree found =
    elim (cases_Bool (bytes_eq route.hop.name one.hop.name)) [
      | inl here ↦
          same_Some place one.hop.at (sym found ∙ place_here one routes route.hop.name here)
          ∙ agree.0.places (sym (bytes_same route.hop.name one.hop.name here))
      | inr elsewhere ↦ place_is_own routes route place agree.1 (sym (place_after one routes route.hop.name elsewhere) ∙ found)
    ]

-- where a member's route doesn't agree with those before it, the members say no routes that agree
pub disagreeing : (all : Members) (key : List ℕ) (value : Data) (rest : Members) (routes whole : List Route) (route : Route) → Walked all (member key value rest) routes → GivesRoute key value route
    → (IsSome (entry_of routes route.domain) ⊎ HasOtherPlace routes route.hop) → AreRoutes all whole → AllAgree whole → ⊥
disagreeing all key value rest routes whole route walked gives fault are agree =
    let after = after_step key value rest route routes whole gives (walked.complete whole are) in
    let whole_is = after.whole_is ∙ append_assoc routes (route ∷ []) after.tail in
    let each = agree_before routes route after.tail (rw whole_is at agree) in
    elim fault [
      | inl some ↦ entry_is_new routes route each some
      | inr other ↦ other.other (place_is_own routes route other.place each other.first)
    ]

-- one member more, whose route was added
pub walked_added : (all : Members) (key : List ℕ) (value : Data) (rest : Members) (before new : RouteTable) (hop : Hop) → Walked all (member key value rest) before.routes → GivesHop value hop
    → MayBeAdded before.routes key hop → new ≡ with_route before key hop → Walked all rest new.routes
walked_added all key value rest before new hop walked gives may added =
    let agree = agree_with_one_more before.routes (in_lower_case key) hop walked.agree may.is_new may.has_place in
    rw added (walked_more all key value rest before.routes _ walked (record { is_domain = may.is_domain; domain = refl; hop = gives }) agree)

-- why the routes of the members are refused where one is
pub walked_refused : (all : Members) (key : List ℕ) (value : Data) (rest : Members) (routes : List Route) (hop : Hop) (fault : RouteFault) → Walked all (member key value rest) routes → GivesHop value hop
    → RefusesRoute fault routes key hop
    → (fault_of_routes fault ≡ NoMemory) ⊎ ((fault_of_routes fault ≡ BadValue Routes) × ((whole : List Route) → AreRoutes all whole → ¬ AllAgree whole))
walked_refused all key value rest routes hop BadDomain walked gives bad =
    inr (refl, λ whole are agree. no_route all key value rest routes whole walked (λ route is. bad is.is_domain) are)
walked_refused all key value rest routes hop Repeated walked gives (is_domain, some) =
    inr (
      refl,
      λ whole are agree. disagreeing all key value rest routes whole (record { domain = in_lower_case key; hop = hop }) walked
          (record { is_domain = is_domain; domain = refl; hop = gives }) (inl some) are agree,
    )
walked_refused all key value rest routes hop SecondPlace walked gives (is_domain, none, other) =
    inr (
      refl,
      λ whole are agree. disagreeing all key value rest routes whole (record { domain = in_lower_case key; hop = hop }) walked
          (record { is_domain = is_domain; domain = refl; hop = gives }) (inr other) are agree,
    )
walked_refused all key value rest routes hop OutOfMemory walked gives is_domain = inl refl

-- a size that was read lies in its range
pub size_in_range : (key : Key) (default limit size : ℕ) (found : Option Data) → 1 ≤ default → default ≤ limit → ReadsOptional key default (GivesSize limit) found (Ok size) → (1 ≤ size) × (size ≤ limit)
size_in_range key default limit size None low high is =
    let same : size ≡ default = cc is in
    (omega arith, omega arith)
size_in_range key default limit size (Some value) low high is = (is.1, is.2)

-- a host that was read is a name
pub host_is_name : (host : List ℕ) (found : Option Data) → ReadsRequired Host GivesHost found (Ok host) → IsHostName host
host_is_name host None is = let no : ⊥ = cc in absurd no
host_is_name host (Some value) is = is.1
