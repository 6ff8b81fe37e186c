-- The hops of a message's places, place by place.
use Rattle.std.proofs.Common.{◌≡◌, ℕ, zero, suc, ◌+◌, Bool, true, false, List, [], ◌∷◌, ◌++◌, take, slice_get, Option, None, Some, refl, sym, ap, ◌∙◌, arith, if◌then◌else◌, append_assoc, append-nil}
use Rattle.std.specs.List.{cons_option, filter_map}
use Rattle.std.proofs.lemmas.List.Elements.{filter_map-append}
use Rattle.relay_envelope.specs.declared.envelope.Recipient.{Recipient}
use Rattle.relay_routes.specs.Routes.{RouteTable}
use Rattle.relay_book.specs.declared.message.Place.{Place}
use Rattle.relay_book.specs.Queue.{is_due_at}
use Rattle.relay_attempts.specs.Hops.{due_hop, due_hops, hop_of_place, places_where}

-- a row of one, or of none
abbrev pub row_of : {A : Type 0} → Option A → List A
row_of None = []
row_of (Some x) = x ∷ []

abbrev pub row_if : Bool → ℕ → List ℕ
row_if test n = if test then n ∷ [] else []

-- the places up to the next one
pub places_more : (test : ℕ → Place → Bool) (n i k : ℕ) (places : List Place) (place : Place) → slice_get places i ≡ Some place → n + i ≡ k
    → places_where test n (take (suc i) places) ≡ places_where test n (take i places) ++ row_if (test k place) k
places_more test n i k [] place at is = absurd (cc)
places_more test n zero k (first ∷ places) place at is =
    let same : first ≡ place = cc in
    let here : n ≡ k = omega (arith, is) in
    append-nil (row_if (test n first) n) ∙ ap (λ (p : Place). row_if (test n p) n) same ∙ ap (λ m. row_if (test m place) m) here
places_more test n (suc i) k (first ∷ places) place at is =
    ap (λ (l : List ℕ). row_if (test n first) n ++ l) (places_more test (suc n) i k places place at (omega (arith, is)))
    ∙ sym (append_assoc (row_if (test n first) n) (places_where test (suc n) (take i places)) (row_if (test k place) k))

-- the hops of the due places up to the next one
pub due_hops_more : (table : RouteTable) (now : ℕ) (recipients : List Recipient) (places : List Place) (i : ℕ) (place : Place) → slice_get places i ≡ Some place
    → due_hops table now recipients (take (i + 1) places) ≡ due_hops table now recipients (take i places) ++ row_of (due_hop table now recipients i place)
due_hops_more table now recipients places i place at =
    let here : 0 + i ≡ i = omega arith in
    let next : i + 1 ≡ suc i = omega arith in
    let more : take (i + 1) places ≡ take (suc i) places = ap (λ n. take n places) next in
    ap (due_hops table now recipients) more
    ∙ ap (filter_map (hop_of_place table recipients)) (places_more (λ n place. is_due_at now place) 0 i i places place at here)
    ∙ filter_map-append (hop_of_place table recipients) (places_where (λ n place. is_due_at now place) 0 (take i places)) (row_if (is_due_at now place) i)
    ∙ ap (λ (l : List (List ℕ)). due_hops table now recipients (take i places) ++ l) (by (is_due_at now place) (hop_of_place table recipients i))
  where
    by : (test : Bool) (hop : Option (List ℕ)) → filter_map (hop_of_place table recipients) (row_if test i) ≡ row_of (if test then hop_of_place table recipients i else None)
    by true hop = of (hop_of_place table recipients i)
      where
        of : (hop : Option (List ℕ)) → cons_option hop [] ≡ row_of hop
        of None = refl
        of (Some name) = refl
    by false hop = refl
