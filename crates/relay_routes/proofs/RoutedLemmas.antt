-- Routed paths: what a search of the octets before a path's domain finds.
use Rattle.std.proofs.Common.{◌≡◌, ◌⊎◌, inl, inr, ℕ, ◌+◌, ◌-◌, ◌≤◌, true, false, ◌||◌, List, [], ◌∷◌, ◌++◌, Option, None, Some, get_or, length, take, sym, ap, ◌∙◌, arith, append_assoc}
use Rattle.std.specs.Option.{is_some}
use Rattle.std.proofs.Math.Bool.{or-true}
use Rattle.std.proofs.Math.Seq.{take-append_seam}
use Rattle.std.proofs.lemmas.Bool.{false_from_ne_true}
use Rattle.std.proofs.lemmas.List.{length-append}
use Rattle.std.proofs.lemmas.List.Elements.{All-from_get_or}
use Rattle.std.proofs.lemmas.List.Folds.{list_any-append, list_any_at, list_any_none}
use Rattle.std.proofs.lemmas.Option.{none-some, same_Some}
use Rattle.memchr.specs.Find.{IsFirstByte, is_byte3}
use Rattle.relay_envelope.specs.Mailbox.{IsRoute, IsSourceRoute, address_text}
use Rattle.relay_envelope.specs.Path.{Path, domain_of, path_text}
use Rattle.relay_envelope.specs.Path.Path.{Null, Postmaster, Mailbox}
use Rattle.relay_routes.specs.RoutedPath.{RoutedIsNamed, is_routed, is_routing_octet, names_host}

-- a path that has a domain is a mailbox of it, in brackets
length_of : (route local domain : List ℕ) → length (path_text (Mailbox route local domain)) ≡ length route + length local + length domain + 3
length_of route local domain =
    let body = length-append (route ++ address_text local domain) (62 ∷ []) in
    let parts = length-append route (address_text local domain) in
    let address = length-append local (64 ∷ domain) in
    omega (arith, body, parts, address)

has_room : (path : Path) (domain : List ℕ) → Some domain ≡ domain_of path → length domain + 2 ≤ length (path_text path)
has_room Null domain is = absurd (none-some domain (sym is))
has_room (Postmaster word) domain is = absurd (none-some domain (sym is))
has_room (Mailbox route local other) domain is =
    let whole = length_of route local other in
    let same = ap length (same_Some domain other is) in
    omega (arith, whole, same)

-- before its `@` stand a bracket, the route and the local part
text_is : (route local domain : List ℕ) → path_text (Mailbox route local domain) ≡ (60 ∷ (route ++ local)) ++ ((64 ∷ domain) ++ (62 ∷ []))
text_is route local domain =
    ap (λ (l : List ℕ). 60 ∷ l)
    (append_assoc route (address_text local domain) (62 ∷ []) ∙ ap (λ (l : List ℕ). route ++ l) (append_assoc local (64 ∷ domain) (62 ∷ []))
    ∙ sym (append_assoc route local ((64 ∷ domain) ++ (62 ∷ []))))

front_of : (route local domain : List ℕ) (end : ℕ) → end + length domain + 2 ≡ length (path_text (Mailbox route local domain))
    → take end (path_text (Mailbox route local domain)) ≡ 60 ∷ (route ++ local)
front_of route local domain end is =
    let whole = length_of route local domain in
    let front = length-append route local in
    let at : end ≡ length (60 ∷ (route ++ local)) = omega (arith, is, whole, front) in
    ap (λ n. take n (path_text (Mailbox route local domain))) at ∙ ap (take (length (60 ∷ (route ++ local)))) (text_is route local domain)
    ∙ take-append_seam (60 ∷ (route ++ local)) ((64 ∷ domain) ++ (62 ∷ []))

-- what the octets before it name, the path does
front_names : (path : Path) (domain : List ℕ) (end : ℕ) → Some domain ≡ domain_of path → end + length domain + 2 ≡ length (path_text path)
    → names_host (take end (path_text path)) ≡ is_routed path
front_names Null domain end has is = absurd (none-some domain (sym has))
front_names (Postmaster word) domain end has is = absurd (none-some domain (sym has))
front_names (Mailbox route local other) domain end has is =
    let same = ap length (same_Some domain other has) in
    ap names_host (front_of route local other end (omega (arith, is, same))) ∙ list_any-append is_routing_octet route local

-- a search finds one of the octets exactly where they name a further host
found_names : (octets : List ℕ) (found : Option ℕ) → IsFirstByte (is_byte3 37 33 64) octets found → is_some found ≡ names_host octets
found_names octets None nowhere =
    sym
    (list_any_none is_routing_octet octets
    (All-from_get_or (λ octet. is_routing_octet octet ≡ false) octets 0
    (λ k within. false_from_ne_true (is_routing_octet (get_or octets k 0)) (λ is. nowhere k (omega arith) within is))))
found_names octets (Some place) first = sym (list_any_at is_routing_octet octets place 0 first.0.high first.1)

pub found_is_routed : (path : Path) (domain text front : List ℕ) (found : Option ℕ) → Some domain ≡ domain_of path → text ≡ path_text path
    → front ≡ take (length text - length domain - 2) text → IsFirstByte (is_byte3 37 33 64) front found → is_some found ≡ is_routed path
found_is_routed path domain text front found has text_is front_is first =
    let room = has_room path domain has in
    let end = length (path_text path) - length domain - 2 in
    let whole : end + length domain + 2 ≡ length (path_text path) = omega (arith, room) in
    found_names front found first ∙ ap names_host (front_is ∙ ap (λ l. take (length l - length domain - 2) l) text_is)
    ∙ front_names path domain end has whole

-- a source route names a host by the `@` that it begins with
source_names : (route : List ℕ) → IsSourceRoute route → names_host route ≡ true
source_names route source = ap names_host source.text_is

routed_by : (route address local : List ℕ) → IsRoute route address → (names_host route || names_host local) ≡ true → IsSourceRoute route ⊎ (names_host local ≡ true)
routed_by route address local (inl source) is = inl source
routed_by route address local (inr none) is = inr (sym (ap (λ r. names_host r || names_host local) none.0) ∙ is)

by_either : (route local : List ℕ) → IsSourceRoute route ⊎ (names_host local ≡ true) → (names_host route || names_host local) ≡ true
by_either route local (inl source) = ap (λ b. b || names_host local) (source_names route source)
by_either route local (inr named) = ap (λ b. names_host route || b) named ∙ or-true (names_host route)

pub routed_is_named : RoutedIsNamed
routed_is_named route local domain valid = (routed_by route (address_text local domain) local valid.is_route, by_either route local)
