-- The loads of a map's entries, with one recipient more.
use Rattle.std.proofs.Common.{◌≡◌, ℕ, Bool, true, false, cond, List, [], ◌∷◌, ◌++◌, None, Some, Vec, Global, bytes_eq, sym, ap}
use Rattle.std.specs.Map.{lookup, set_value}
use Rattle.std.proofs.lemmas.Option.{none-some, same_Some}
use Rattle.relay_listing.specs.Row.{Queued}
use Rattle.relay_listing.specs.Load.{hop_of, load_of, load_with, loads_in, loads_with}
use Rattle.relay_listing.specs.declared.load.Load.{Load}

abbrev Entries : Type 0
Entries = List (Vec ℕ Global × Load)

-- a key is the name of a recipient's next hop
abbrev pub names : Queued → Vec ℕ Global → Bool
names queued key = bytes_eq (hop_of queued) key.items

-- the load of a next hop that has one takes the recipient
pub counted_there : (queued : Queued) (load : Load) (entries : Entries) → lookup (names queued) entries ≡ Some load
    → loads_in (set_value (names queued) entries (load_with load queued)) ≡ loads_with (loads_in entries) queued
counted_there queued load [] found = absurd (none-some load found)
counted_there queued load (entry ∷ entries) found =
    by (counted_there queued load entries) (names queued entry.0) found
  where
    by : (lookup (names queued) entries ≡ Some load
        → loads_in (set_value (names queued) entries (load_with load queued)) ≡ loads_with (loads_in entries) queued)
        → (here : Bool) → cond here (Some entry.1) (lookup (names queued) entries) ≡ Some load
        → loads_in (cond here ((entry.0, load_with load queued) ∷ entries) (entry ∷ set_value (names queued) entries (load_with load queued)))
        ≡ cond here ((entry.0.items, load_with entry.1 queued) ∷ loads_in entries) ((entry.0.items, entry.1) ∷ loads_with (loads_in entries) queued)
    by more true found = ap (λ (l : Load). (entry.0.items, load_with l queued) ∷ loads_in entries) (sym (same_Some entry.1 load found))
    by more false found = ap (λ (l : List (List ℕ × Load)). (entry.0.items, entry.1) ∷ l) (more found)

-- a further next hop comes last
pub counted_last : (queued : Queued) (key : Vec ℕ Global) (entries : Entries) → key.items ≡ hop_of queued → lookup (names queued) entries ≡ None
    → loads_in (entries ++ (key, load_of queued) ∷ []) ≡ loads_with (loads_in entries) queued
counted_last queued key [] named absent = ap (λ (name : List ℕ). (name, load_of queued) ∷ []) named
counted_last queued key (entry ∷ entries) named absent =
    by (counted_last queued key entries named) (names queued entry.0) absent
  where
    by : (lookup (names queued) entries ≡ None
        → loads_in (entries ++ (key, load_of queued) ∷ []) ≡ loads_with (loads_in entries) queued)
        → (here : Bool) → cond here (Some entry.1) (lookup (names queued) entries) ≡ None
        → (entry.0.items, entry.1) ∷ loads_in (entries ++ (key, load_of queued) ∷ [])
        ≡ cond here ((entry.0.items, load_with entry.1 queued) ∷ loads_in entries) ((entry.0.items, entry.1) ∷ loads_with (loads_in entries) queued)
    by more true absent = absurd (none-some entry.1 (sym absent))
    by more false absent = ap (λ (l : List (List ℕ × Load)). (entry.0.items, entry.1) ∷ l) (more absent)
