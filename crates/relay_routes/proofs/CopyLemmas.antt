-- The routes of named domains, copied one after another.
use Rattle.std.proofs.Common.{◌≡◌, inl, inr, Bool, true, false, not, cond, List, [], ◌∷◌, ◌++◌, codes, Option, None, Some, IsSome, bytes_eq, refl, sym, ap, ◌∙◌, append_assoc, append-nil, subst}
use Rattle.std.specs.List.{AllByRecursion}
use Rattle.std.specs.declared.net.socket_addr.SocketAddrV4.{SocketAddrV4}
use Rattle.relay_routes.specs.Routes.{Agrees, AllAgree, HasNoOtherPlace, Route, entry_of, named_routes, place_of}
use Rattle.relay_routes.proofs.MemberLemmas.{agree_before, entry_is_new, place_is_own}

-- the table has the named routes of those before the rest
pub record Copied (all rest table : List Route) : Type 0 where
  pub before : List Route
  pub all_is : all ≡ before ++ rest
  pub table_is : table ≡ named_routes before

pub copied_none : (all : List Route) → Copied all all []
copied_none all = record { before = []; all_is = refl; table_is = refl }

named-append : (front back : List Route) → named_routes (front ++ back) ≡ named_routes front ++ named_routes back
named-append [] back = refl
named-append (route ∷ front) back = by (bytes_eq route.domain (codes "*")) (named-append front back)
  where
    by : (any : Bool) → named_routes (front ++ back) ≡ named_routes front ++ named_routes back → cond (not any) (route ∷ named_routes (front ++ back)) (named_routes (front ++ back)) ≡ cond (not any) (route ∷ named_routes front) (named_routes front) ++ named_routes back
    by true more = more
    by false more = ap (λ routes. route ∷ routes) more

-- the route for `*` is left out
pub copied_past : (all rest table : List Route) (route : Route) → bytes_eq route.domain (codes "*") ≡ true → Copied all (route ∷ rest) table → Copied all rest table
copied_past all rest table route any copied = record {
  before = copied.before ++ route ∷ [];
  all_is = copied.all_is ∙ sym (append_assoc copied.before (route ∷ []) rest);
  table_is = copied.table_is ∙ sym (named-append copied.before (route ∷ []) ∙ ap (λ b. named_routes copied.before ++ cond (not b) (route ∷ []) []) any ∙ append-nil (named_routes copied.before));
}

-- and each other is copied
pub copied_more : (all rest table : List Route) (route : Route) → bytes_eq route.domain (codes "*") ≡ false → Copied all (route ∷ rest) table → Copied all rest (table ++ route ∷ [])
copied_more all rest table route named copied = record {
  before = copied.before ++ route ∷ [];
  all_is = copied.all_is ∙ sym (append_assoc copied.before (route ∷ []) rest);
  table_is = ap (λ t. t ++ route ∷ []) copied.table_is ∙ sym (named-append copied.before (route ∷ []) ∙ ap (λ b. named_routes copied.before ++ cond (not b) (route ∷ []) []) named);
}

pub copied_all : (all table : List Route) → Copied all [] table → table ≡ named_routes all
copied_all all table copied = copied.table_is ∙ ap named_routes (sym (copied.all_is ∙ append-nil copied.before))

-- what holds of each route holds of each that is named
all_named : (P : Route → Type 0) (routes : List Route) → AllByRecursion P routes → AllByRecursion P (named_routes routes)
all_named P [] all = tt
all_named P (route ∷ routes) all = by (bytes_eq route.domain (codes "*")) (all_named P routes all.1)
  where
    by : (any : Bool) → AllByRecursion P (named_routes routes) → AllByRecursion P (cond (not any) (route ∷ named_routes routes) (named_routes routes))
    by true more = more
    by false more = (all.0, more)

agree_with_next : (all rest table : List Route) (route : Route) → AllAgree all → Copied all (route ∷ rest) table → AllByRecursion (λ one. Agrees one route) table
agree_with_next all rest table route agree copied =
    let before = agree_before copied.before route rest (subst (λ (routes : List Route). AllAgree routes) copied.all_is agree) in
    subst (λ (routes : List Route). AllByRecursion (λ one. Agrees one route) routes) (sym copied.table_is) (all_named (λ one. Agrees one route) copied.before before)

none_unless : {A : Type 0} (found : Option A) → ¬ IsSome found → found ≡ None
none_unless None other = refl
none_unless (Some x) other = absurd (other refl)

-- the next route is new, and its place is its name's
pub next_is_new : (all rest table : List Route) (route : Route) → AllAgree all → Copied all (route ∷ rest) table → entry_of table route.domain ≡ None
next_is_new all rest table route agree copied =
    none_unless (entry_of table route.domain) (entry_is_new table route (agree_with_next all rest table route agree copied))

pub next_has_place : (all rest table : List Route) (route : Route) → AllAgree all → Copied all (route ∷ rest) table → HasNoOtherPlace table route.hop
next_has_place all rest table route agree copied = by (place_of table route.hop.name) refl
  where
    by : (place : Option SocketAddrV4) → place_of table route.hop.name ≡ place → HasNoOtherPlace table route.hop
    by None is = inl is
    by (Some place) is = inr (is ∙ ap Some (place_is_own table route place (agree_with_next all rest table route agree copied) is))
