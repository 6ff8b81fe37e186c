-- The tries of a message, hop by hop.
use Rattle.std.proofs.Common.{◌≡◌, ◌≢◌, ℕ, ◌+◌, Bool, true, false, cond, not, ◌||◌, ◌&&◌, List, [], ◌∷◌, ◌++◌, length, drop, map, filter, slice_get, take, Option, None, Some, bytes_eq, refl, sym, ap, ◌∙◌, if◌then◌else◌, append_assoc, append-nil}
use Rattle.std.specs.List.{list_any}
use Rattle.std.specs.Option.{option_map_or}
use Rattle.std.proofs.lemmas.Bool.{false≢true}
use Rattle.std.proofs.lemmas.List.{drop_at}
use Rattle.std.proofs.lemmas.List.Elements.{filter-append}
use Rattle.relay_envelope.specs.declared.envelope.Recipient.{Recipient}
use Rattle.relay_routes.specs.Routes.{RouteTable}
use Rattle.relay_book.specs.declared.message.Place.{Place}
use Rattle.relay_attempts.specs.declared.runs.Run.{Run}
use Rattle.relay_attempts.specs.declared.work.Work.{Work}
use Rattle.relay_attempts.specs.declared.work.Work.TheVariants.{Try}
use Rattle.relay_attempts.specs.Hops.{due_hop, due_hops, each_once}
use Rattle.relay_attempts.specs.Runs.{is_running}
use Rattle.relay_attempts.specs.Work.{is_try_of, one_try, tries}
use Rattle.relay_attempts.proofs.HopLemmas.{due_hops_more, row_of}
use Rattle.relay_attempts.proofs.NameLemmas.{same_name}

-- all names but this one
abbrev others : List ℕ → List (List ℕ) → List (List ℕ)
others name names = filter (λ other. not (bytes_eq name other)) names

-- the name is among these
abbrev pub is_among : List ℕ → List (List ℕ) → Bool
is_among name names = list_any (λ other. bytes_eq other name) names

-- the name, unless it is among these
abbrev new_name : List (List ℕ) → List ℕ → List (List ℕ)
new_name names name = if is_among name names then [] else name ∷ []

others_of_new : (name new : List ℕ) (names : List (List ℕ)) → others name (new_name names new) ≡ new_name (name ∷ names) new
others_of_new name new names = by (is_among new names) (bytes_eq name new) refl
  where
    by : (among same : Bool) → bytes_eq name new ≡ same → others name (if among then [] else new ∷ []) ≡ (if same || among then [] else new ∷ [])
    by true true is = refl
    by true false is = refl
    by false true is = ap (λ (b : Bool). cond (not b) (new ∷ []) []) is
    by false false is = ap (λ (b : Bool). cond (not b) (new ∷ []) []) is

map_append : {A B : Type 0} (f : A → B) (xs ys : List A) → map f (xs ++ ys) ≡ map f xs ++ map f ys
map_append f [] ys = refl
map_append {A} {B} f (x ∷ xs) ys = ap (λ (l : List B). f x ∷ l) (map_append f xs ys)

-- one name more
once_more : (names : List (List ℕ)) (name : List ℕ) → each_once (names ++ name ∷ []) ≡ each_once names ++ new_name names name
once_more [] name = refl
once_more (first ∷ names) name =
    ap (λ (l : List (List ℕ)). first ∷ others first l) (once_more names name)
    ∙ ap (λ (l : List (List ℕ)). first ∷ l) (filter-append (λ other. not (bytes_eq first other)) (each_once names) (new_name names name))
    ∙ ap (λ (l : List (List ℕ)). first ∷ (others first (each_once names) ++ l)) (others_of_new first name names)

-- a name that is kept is among those that are where it was among all
among_kept : (keep : List ℕ → Bool) (name : List ℕ) (names : List (List ℕ)) → keep name ≡ true → is_among name (filter keep names) ≡ is_among name names
among_kept keep name [] kept = refl
among_kept keep name (other ∷ names) kept = by (among_kept keep name names kept) (keep other) (bytes_eq other name) refl refl
  where
    by : is_among name (filter keep names) ≡ is_among name names
        → (keeps same : Bool) → keep other ≡ keeps → bytes_eq other name ≡ same → is_among name (cond keeps (other ∷ filter keep names) (filter keep names)) ≡ (bytes_eq other name || is_among name names)
    by rest true same is e = ap (λ (b : Bool). bytes_eq other name || b) rest
    by rest false true is e = absurd (false≢true (sym is ∙ ap keep (same_name other name e) ∙ kept))
    by rest false false is e = rest ∙ ap (λ (b : Bool). b || is_among name names) (sym e)

among_once : (name : List ℕ) (names : List (List ℕ)) → is_among name (each_once names) ≡ is_among name names
among_once name [] = refl
among_once name (first ∷ names) = by (among_once name names) (bytes_eq first name) refl
  where
    by : is_among name (each_once names) ≡ is_among name names → (same : Bool) → bytes_eq first name ≡ same → (bytes_eq first name || is_among name (others first (each_once names))) ≡ (bytes_eq first name || is_among name names)
    by rest true e = ap (λ (b : Bool). b || is_among name (others first (each_once names))) e ∙ sym (ap (λ (b : Bool). b || is_among name names) e)
    by rest false e =
        ap (λ (b : Bool). bytes_eq first name || b)
        (among_kept (λ other. not (bytes_eq first other)) name (each_once names) (ap not e) ∙ rest)

-- the tries of names are tries of these names
tries_among : (number : ℕ) (name : List ℕ) (names : List (List ℕ)) → list_any (is_try_of name) (map (Try number) names) ≡ is_among name names
tries_among number name [] = refl
tries_among number name (first ∷ names) = ap (λ (b : Bool). bytes_eq first name || b) (tries_among number name names)

module _ (runs : List (Option Run)) (number : ℕ) where
  -- no attempt is running for the hop
  abbrev is_free : List ℕ → Bool
  is_free hop = not (is_running runs number hop)

  tried_of : (names : List (List ℕ)) → List Work
  tried_of names = map (Try number) (filter is_free names)

  -- the try of one hop more
  one_more : (hops : List (List ℕ)) (hop : List ℕ) → map (Try number) (filter is_free (new_name hops hop)) ≡ one_try runs number (tries runs number hops) hop
  one_more hops hop = by (is_running runs number hop) refl
    where
      there : is_running runs number hop ≡ false → list_any (is_try_of hop) (tries runs number hops) ≡ is_among hop hops
      there free = tries_among number hop (filter is_free (each_once hops)) ∙ among_kept is_free hop (each_once hops) (ap not free) ∙ among_once hop hops

      row : (runs_for among : Bool) → is_running runs number hop ≡ runs_for → map (Try number) (filter is_free (if among then [] else hop ∷ [])) ≡ (if not runs_for && not among then Try number hop ∷ [] else [])
      row true true is = refl
      row true false is = ap (λ (b : Bool). map (Try number) (cond (not b) (hop ∷ []) [])) is
      row false true is = refl
      row false false is = ap (λ (b : Bool). map (Try number) (cond (not b) (hop ∷ []) [])) is

      by : (runs_for : Bool) → is_running runs number hop ≡ runs_for → map (Try number) (filter is_free (new_name hops hop)) ≡ one_try runs number (tries runs number hops) hop
      by true is =
          row true (is_among hop hops) is
          ∙ sym (ap (λ (b : Bool). if not b && not (list_any (is_try_of hop) (tries runs number hops)) then Try number hop ∷ [] else []) is)
      by false is =
          row false (is_among hop hops) is
          ∙ ap (λ (b : Bool). if not b then Try number hop ∷ [] else []) (sym (there is))
          ∙ sym (ap (λ (b : Bool). if not b && not (list_any (is_try_of hop) (tries runs number hops)) then Try number hop ∷ [] else []) is)

  -- a hop that no attempt is running for is tried
  pub free_is_tried : (hops : List (List ℕ)) (hop : List ℕ) → is_running runs number hop ≡ false → is_among hop hops ≡ true → tries runs number hops ≢ []
  free_is_tried hops hop free among none =
      false≢true
      (sym (ap (list_any (is_try_of hop)) none)
      ∙ tries_among number hop (filter is_free (each_once hops))
      ∙ among_kept is_free hop (each_once hops) (ap not free)
      ∙ among_once hop hops
      ∙ among)

  tries_more : (hops : List (List ℕ)) (hop : List ℕ) → tries runs number (hops ++ hop ∷ []) ≡ tries runs number hops ++ one_try runs number (tries runs number hops) hop
  tries_more hops hop =
      ap (λ (l : List (List ℕ)). map (Try number) (filter is_free l)) (once_more hops hop)
      ∙ ap (map (Try number)) (filter-append is_free (each_once hops) (new_name hops hop))
      ∙ map_append (Try number) (filter is_free (each_once hops)) (filter is_free (new_name hops hop))
      ∙ ap (λ (l : List Work). tries runs number hops ++ l) (one_more hops hop)

  tries_with : (hops : List (List ℕ)) (hop : Option (List ℕ)) → tries runs number (hops ++ row_of hop) ≡ tries runs number hops ++ option_map_or (one_try runs number (tries runs number hops)) hop []
  tries_with hops None = ap (tries runs number) (append-nil hops) ∙ sym (append-nil (tries runs number hops))
  tries_with hops (Some hop) = tries_more hops hop

  -- the tries for the places up to the next one
  pub tries_step : (table : RouteTable) (now : ℕ) (recipients : List Recipient) (places : List Place) (i first : ℕ) (place : Place) (hop : Option (List ℕ)) (start works new : List Work)
      → hop ≡ due_hop table now recipients i place → slice_get places i ≡ Some place → first ≡ length start
      → works ≡ start ++ tries runs number (due_hops table now recipients (take i places))
      → new ≡ works ++ option_map_or (one_try runs number (drop first works)) hop []
      → new ≡ start ++ tries runs number (due_hops table now recipients (take (i + 1) places))
  tries_step table now recipients places i first place hop start works new hop_is at first_is works_is new_is =
      let so_far = due_hops table now recipients (take i places) in
      let after = ap (drop first) works_is ∙ drop_at start (tries runs number so_far) first (sym first_is) in
      new_is
      ∙ ap (λ (l : List Work). works ++ option_map_or (one_try runs number l) hop []) after
      ∙ ap (λ (l : List Work). l ++ option_map_or (one_try runs number (tries runs number so_far)) hop []) works_is
      ∙ append_assoc start (tries runs number so_far) (option_map_or (one_try runs number (tries runs number so_far)) hop [])
      ∙ ap (λ (l : List Work). start ++ l) (sym (tries_with so_far hop))
      ∙ ap (λ (l : List (List ℕ)). start ++ tries runs number l)
      (ap (λ (o : Option (List ℕ)). so_far ++ row_of o) hop_is ∙ sym (due_hops_more table now recipients places i place at))
