-- Which queued recipients are listed.
use Rattle.std.specs.Prelude.{ℕ, ◌-◌, nat_le, Bool, true, false, ◌&&◌, ◌||◌, List, length, take, drop}
use Rattle.std.specs.Prelude.{Option, None, Some}
use Rattle.std.specs.Option.{option_copied, option_map_or}
use Rattle.relay_lines.specs.Word.{is_word}
use Rattle.relay_queue.specs.declared.filter.Filter.{Filter}
use Rattle.relay_listing.specs.Row.{Queued}

-- a path without its brackets
abbrev pub within_brackets : List ℕ → List ℕ
within_brackets path = take (length path - 2) (drop 1 path)

-- the path is this one, with its brackets or without them, in any letter case
abbrev pub is_path : List ℕ → List ℕ → Bool
is_path path asked = is_word path asked || is_word (within_brackets path) asked

-- there is a next hop, and its name is this one, in any letter case
abbrev pub is_hop : Option (List ℕ) → List ℕ → Bool
is_hop hop asked = option_map_or (λ name. is_word name asked) hop false

-- a field that isn't set matches everything
abbrev pub passes_if : {X : Type 0} → (X → Bool) → Option X → Bool
passes_if test None = true
passes_if test (Some asked) = test asked

-- The recipient is listed at this time: its next hop, its message's reverse path and its own path match the filter, and
-- its message is old enough.
abbrev pub passes : Filter → ℕ → Queued → Bool
passes filter now queued =
    passes_if (is_hop queued.hop) (option_copied filter.hop)
    && passes_if (is_path queued.reverse_path) (option_copied filter.reverse_path)
    && passes_if (is_path queued.path) (option_copied filter.path)
    && passes_if (λ age. nat_le age (now - queued.accepted)) filter.age
