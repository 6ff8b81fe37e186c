-- The hosts of the nodes of a play, and the routes among them.
use Rattle.std.specs.Prelude.{codes, slice_get, Some}
use Rattle.std.proofs.Common.{◌≡◌, ◌≢◌, ℕ, zero, suc, ◌+◌, ◌<◌, ◌==◌, true, false, not, cond, List, [], ◌∷◌, ◌++◌, map, length, inl, inr, refl, subst, sym, ap, ◌∙◌, arith}
use Rattle.std.specs.Char.{to_ascii_lowercase}
use Rattle.std.specs.List.{filter, list_all, range_with_len}
use Rattle.std.proofs.lemmas.Bool.{and_from, cases_lt, cond-false, cond-true}
use Rattle.std.proofs.lemmas.Bool.Decides.{nat_tests}
use Rattle.std.proofs.lemmas.List.{append-nil, append_assoc, length_push, map-append, map-id}
use Rattle.std.proofs.lemmas.Option.{same_Some, slice_get_within}
use Rattle.std.proofs.lemmas.List.FromFn.{filter_of_map_range_with_len_more}
use Rattle.std.proofs.lemmas.List.Sums.{AllPass-from_list_all}
use Rattle.std.proofs.lemmas.Str.Ascii.{lowercase_is}
use Rattle.relay_envelope.specs.HostName.{IsHostName, is_host_octet}
use Rattle.relay_routes.specs.declared.config.Config.{Config}
use Rattle.relay_routes.specs.Routes.{Route, in_lower_case}
use Rattle.relay_pair.specs.Profiles.{HaveProfiles, IsProfile, address_of, host_of, route_to_node, routes_among, routes_to_others}

letter_lower : (place : ℕ) → to_ascii_lowercase (97 + place) ≡ 97 + place
letter_lower place = (lowercase_is (97 + place)).2 (omega arith)

pub host_in_lower_case : (place : ℕ) → in_lower_case (host_of place) ≡ host_of place
host_in_lower_case place = ap (λ c. c ∷ codes ".example") (letter_lower place)

letter_is_host_octet : (place : ℕ) → place < 16 → is_host_octet (97 + place) ≡ true
letter_is_host_octet place below = grind (arith, nat_tests)

pub is_host_name : (place : ℕ) → place < 16 → IsHostName (host_of place)
is_host_name place below = record {
  some_octet = omega arith;
  few_octets = omega arith;
  octets = AllPass-from_list_all is_host_octet (host_of place)
      (and_from (is_host_octet (97 + place)) (list_all is_host_octet (codes ".example")) (letter_is_host_octet place below) refl);
}

-- one node more
others_more : (count node : ℕ) → filter (λ other. not (other == node)) (range_with_len 0 (count + 1))
    ≡ filter (λ other. not (other == node)) (range_with_len 0 count) ++ cond (not (count == node)) (count ∷ []) []
others_more count node =
    let p = λ (other : ℕ). not (other == node) in
    ap (filter p) (sym (map-id (range_with_len 0 (count + 1))))
    ∙ filter_of_map_range_with_len_more p (λ x. x) 0 count count (omega arith)
    ∙ ap (λ (l : List ℕ). filter p l ++ cond (p count) (count ∷ []) []) (map-id (range_with_len 0 count))

-- the test of a node with itself, and with another
same_test : (one other : ℕ) → one ≡ other → not (one == other) ≡ false
same_test one other same = grind (arith, nat_tests)

other_test : (one other : ℕ) → one ≢ other → not (one == other) ≡ true
other_test one other differ = grind (arith, nat_tests)

-- the node itself has no route
pub own_left_out : (count node : ℕ) → count ≡ node → routes_to_others (count + 1) node ≡ routes_to_others count node
own_left_out count node same =
    ap (map route_to_node) (others_more count node
    ∙ ap (λ l. filter (λ other. not (other == node)) (range_with_len 0 count) ++ l)
    (cond-false (not (count == node)) (count ∷ []) [] (same_test count node same))
    ∙ append-nil (filter (λ other. not (other == node)) (range_with_len 0 count)))

-- each other has one
pub other_added : (count node : ℕ) → count ≢ node
    → routes_to_others (count + 1) node ≡ routes_to_others count node ++ route_to_node count ∷ []
other_added count node differ =
    ap (map route_to_node) (others_more count node
    ∙ ap (λ l. filter (λ other. not (other == node)) (range_with_len 0 count) ++ l)
    (cond-true (not (count == node)) (count ∷ []) [] (other_test count node differ)))
    ∙ map-append route_to_node (filter (λ other. not (other == node)) (range_with_len 0 count)) (count ∷ [])

-- three routes more
pub three_more : (start one two three : List Route) (a b c : Route) → one ≡ start ++ a ∷ [] → two ≡ one ++ b ∷ []
    → three ≡ two ++ c ∷ [] → three ≡ start ++ a ∷ b ∷ c ∷ []
three_more start one two three a b c first second third =
    third ∙ ap (λ (l : List Route). l ++ c ∷ []) (second ∙ ap (λ (l : List Route). l ++ b ∷ []) first)
    ∙ ap (λ (l : List Route). l ++ c ∷ []) (append_assoc start (a ∷ []) (b ∷ []))
    ∙ append_assoc start (a ∷ b ∷ []) (c ∷ [])

get_left : {A : Type 0} (xs ys : List A) (n : ℕ) → n < length xs → slice_get (xs ++ ys) n ≡ slice_get xs n
get_left [] ys n below = absurd (omega (arith, below))
get_left (x ∷ xs) ys zero below = refl
get_left (x ∷ xs) ys (suc n) below = get_left xs ys n (omega (arith, below))

get_last : {A : Type 0} (xs : List A) (x : A) → slice_get (xs ++ x ∷ []) (length xs) ≡ Some x
get_last [] x = refl
get_last (y ∷ xs) x = get_last xs x

-- one configuration more
pub one_profile_more : (count : ℕ) (configs : List Config) (config : Config) → HaveProfiles count configs
    → IsProfile (host_of (length configs)) (address_of (length configs)) (routes_among count (length configs)) config
    → HaveProfiles count (configs ++ config ∷ [])
one_profile_more count configs config each is node other at =
    elim (cases_lt node (length configs)) [
      | inl below ↦ each node other (sym (get_left configs (config ∷ []) node below) ∙ at)
      | inr from ↦
          let within = slice_get_within (configs ++ config ∷ []) node other at in
          let last : node ≡ length configs = omega (arith, from, within, length_push configs config) in
          let same : config ≡ other =
          same_Some config other (sym (get_last configs config) ∙ ap (slice_get (configs ++ config ∷ [])) (sym last) ∙ at) in
          subst (λ (c : Config). IsProfile (host_of node) (address_of node) (routes_among count node) c) same
          (subst (λ n. IsProfile (host_of n) (address_of n) (routes_among count n) config) (sym last) is)
    ]

-- three routes to one host, whose name is spelled in lower case
pub ruleset three_routes = (is_host_name, host_in_lower_case, three_more)
