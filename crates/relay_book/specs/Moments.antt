-- When the held places of messages are due of which something holds, and the first of these times.
use Rattle.std.specs.Prelude.{◌≡◌, ℕ, suc, ◌≤◌, Bool, false, ◌&&◌, ◌||◌, List, [], ◌∷◌, ◌++◌, Option, None, Some}
use Rattle.std.specs.Prelude.{if◌then◌else◌}
use Rattle.std.specs.List.{Contains, flat_map}
use Rattle.relay_book.specs.declared.message.Place.{Place}
use Rattle.relay_book.specs.declared.message.Message.{Message}
use Rattle.relay_book.specs.Book.{is_held_until}

-- when the held places are due that pass a test on their number, where the first has this number, in order
abbrev pub moments_from : (ℕ → Bool) → ℕ → List Place → List ℕ
moments_from test n [] = []
moments_from test n (place ∷ places) =
    (if place.held && test n then place.due ∷ [] else []) ++ moments_from test (suc n) places

-- the same of all messages, by a test on the number of a message, on the message and on the number of its place
abbrev pub moments_of : (ℕ → Message → ℕ → Bool) → List (ℕ × Message) → List ℕ
moments_of test entries = flat_map (λ entry. moments_from (test entry.0 entry.1) 0 entry.1.places) entries

-- a held place that passes is due then
abbrev pub waits_from : (ℕ → Bool) → ℕ → ℕ → List Place → Bool
waits_from test due n [] = false
waits_from test due n (place ∷ places) = (is_held_until due place && test n) || waits_from test due (suc n) places

-- the same, of a message that is there
abbrev pub waits_of : (ℕ → Message → ℕ → Bool) → ℕ → ℕ → Option Message → Bool
waits_of test due number None = false
waits_of test due number (Some message) = waits_from (test number message) due 0 message.places

-- the least of these numbers, and none if there is none
abbrev pub IsLeastOf : List ℕ → Option ℕ → Type 0
IsLeastOf numbers None = numbers ≡ []
IsLeastOf numbers (Some least) = Contains numbers least × ((other : ℕ) → Contains numbers other → least ≤ other)
