-- Lines of recipients, one after another: each key with a text that its line has from elsewhere.
use Rattle.std.proofs.Common.{◌≡◌, ℕ, ◌+◌, ◌<◌, List, [], ◌∷◌, ◌++◌, length, map, take, get_or, sym, ap, ◌∙◌, refl}
use Rattle.std.specs.List.{flat_map}
use Rattle.std.proofs.lemmas.List.{flat_map_more, take_more}

abbrev Key : Type 0
Key = ℕ × ℕ × ℕ

-- the lines of these keys follow what stood before them
abbrev pub AreRows : (Key × List ℕ → List ℕ) → List Key → List ℕ → List ℕ → Type 0
AreRows line keys before now =
    (rows : List (Key × List ℕ)) × (map (λ row. row.0) rows ≡ keys) × (now ≡ before ++ flat_map line rows)

keys_more : (rows : List (Key × List ℕ)) (row : Key × List ℕ) → map (λ row. row.0) (rows ++ row ∷ []) ≡ map (λ row. row.0) rows ++ row.0 ∷ []
keys_more [] row = refl
keys_more (first ∷ rows) row = ap (λ l. first.0 ∷ l) (keys_more rows row)

pub rows_more : (line : Key × List ℕ → List ℕ) (keys : List Key) (i : ℕ) (d : Key) (before now new text : List ℕ) → i < length keys
    → AreRows line (take i keys) before now → new ≡ now ++ line (get_or keys i d, text) → AreRows line (take (i + 1) keys) before new
rows_more line keys i d before now new text more so_far is = (
  so_far.0 ++ (get_or keys i d, text) ∷ [],
  keys_more so_far.0 (get_or keys i d, text) ∙ ap (λ l. l ++ get_or keys i d ∷ []) so_far.1 ∙ sym (take_more keys i d more),
  is ∙ ap (λ l. l ++ line (get_or keys i d, text)) so_far.2 ∙ flat_map_more line before so_far.0 (get_or keys i d, text),
)
