-- The Host fields of a request.
use Rattle.std.proofs.Common.{◌≡◌, ℕ, ◌+◌, ◌<◌, true, List, [], ◌∷◌, ◌++◌, Option, None, Some, Bor, length, take, drop, map, filter, cond, is_some, ap, sym, refl, ◌∙◌}
use Rattle.std.specs.Option.{option_copied}
use Rattle.std.proofs.Common.{get_or}
use Rattle.std.proofs.lemmas.Bool.{false≢true}
use Rattle.std.proofs.lemmas.List.{take-append-drop, at_drop_more, map-append}
use Rattle.std.proofs.lemmas.List.Elements.{filter-append}
use Rattle.httparse.specs.declared.spans.HeaderSpan.{HeaderSpan}
use Rattle.relay_page.specs.Request.{hosts_among, is_host_field, only}

-- a list of what is there
abbrev pub list_of : {X : Type 0} → Option X → List X
list_of None = []
list_of (Some x) = x ∷ []

-- the hosts of fields one after another
hosts-append : (front back : List (List ℕ × List ℕ)) → hosts_among (front ++ back) ≡ hosts_among front ++ hosts_among back
hosts-append front back =
    ap (map (λ field. field.1)) (filter-append is_host_field front back) ∙ map-append (λ field. field.1) (filter is_host_field front) (filter is_host_field back)

-- one that was found, and another
two : (found : Option (Bor (List ℕ))) (host : List ℕ) (rest : List (List ℕ)) → is_some found ≡ true → only (list_of (option_copied found) ++ host ∷ rest) ≡ None
two None host rest is = absurd (false≢true is)
two (Some first) host rest is = refl

pub two_hosts : (bytes : HeaderSpan → List ℕ × List ℕ) (headers : List HeaderSpan) (i : ℕ) (default : HeaderSpan) (found : Option (Bor (List ℕ)))
    → i < length headers → hosts_among (map bytes (take i headers)) ≡ list_of (option_copied found) → is_some found ≡ true
    → is_host_field (bytes (get_or headers i default)) ≡ true → None ≡ only (hosts_among (map bytes headers))
two_hosts bytes headers i default found within so_far is_found is_host =
    let front = hosts_among (map bytes (take i headers)) in
    let field = bytes (get_or headers i default) in
    let after = map bytes (drop (i + 1) headers) in
    let whole : hosts_among (map bytes headers) ≡ front ++ hosts_among (field ∷ after) =
    ap (λ l. hosts_among (map bytes l)) (sym (take-append-drop i headers)) ∙ ap hosts_among (map-append bytes (take i headers) (drop i headers))
    ∙ hosts-append (map bytes (take i headers)) (map bytes (drop i headers)) ∙ at_drop_more (λ l. front ++ hosts_among (map bytes l)) headers i default within in
    sym (
    ap only whole ∙ ap (λ (l : List (List ℕ)). only (l ++ hosts_among (field ∷ after))) so_far
    ∙ ap (λ b. only (list_of (option_copied found) ++ map (λ field. field.1) (cond b (field ∷ filter is_host_field after) (filter is_host_field after)))) is_host
    ∙ two found field.1 (hosts_among after) is_found)
