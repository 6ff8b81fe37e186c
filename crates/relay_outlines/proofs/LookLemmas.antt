-- What an outline shows of a queue.
use Rattle.std.proofs.Common.{◌≡◌, ℕ, ◌==◌, Bool, true, false, List, [], ◌∷◌, ◌++◌, map, Option, Some, refl, ap}
use Rattle.std.proofs.Common.{if◌then◌else◌}
use Rattle.std.specs.Prelude.{option_map}
use Rattle.std.specs.List.{flat_map}
use Rattle.std.specs.Option.{option_and_then}
use Rattle.relay_book.specs.declared.message.Message.{Message}
use Rattle.relay_book.specs.Queue.{Queue, held_of, is_held, marks_of_entry, message_of}
use Rattle.relay_records.specs.HeldPlace.{waiting_in}
use Rattle.relay_outlines.specs.Laws.{BlankTextsHold, BlankTextsWait}
use Rattle.relay_outlines.specs.Look.{blank, blank_as_told, blank_entry, entry_as_told, texts_as_told}

held_in : (entries : List (ℕ × Message)) → flat_map (marks_of_entry is_held) entries ≡ flat_map (marks_of_entry is_held)
    (map entry_as_told entries)
held_in [] = refl
held_in (entry ∷ entries) = ap (λ (marks : List (ℕ × ℕ)). marks_of_entry is_held entry ++ marks) (held_in entries)

-- the same places are held
pub held_as_told : (outline : Queue) → held_of outline ≡ held_of (texts_as_told outline)
held_as_told outline = held_in outline.messages

found_if : (here : Bool) (message : Message) (rest found : Option Message) → option_map blank_as_told rest ≡ found
    → option_map blank_as_told (if here then Some message else rest) ≡
    (if here then Some (blank_as_told message) else found)
found_if true message rest found is = refl
found_if false message rest found is = is

found_in : (entries : List (ℕ × Message)) (number : ℕ)
    → option_map blank_as_told (message_of entries number) ≡ message_of (map entry_as_told entries) number
found_in [] number = refl
found_in (entry ∷ entries) number =
    found_if (entry.0 == number) entry.1 (message_of entries number) (message_of (map entry_as_told entries) number)
    (found_in entries number)

-- the same messages are found
pub found_as_told : (outline : Queue) (number : ℕ)
    → option_map blank_as_told (message_of outline.messages number) ≡ message_of (texts_as_told outline).messages number
found_as_told outline number = found_in outline.messages number

-- a queue with blank texts

hold_in : (entries : List (ℕ × Message)) → flat_map (marks_of_entry is_held) (map blank_entry entries) ≡ flat_map
    (marks_of_entry is_held) entries
hold_in [] = refl
hold_in (entry ∷ entries) = ap (λ (marks : List (ℕ × ℕ)). marks_of_entry is_held entry ++ marks) (hold_in entries)

pub blank_texts_hold : BlankTextsHold
blank_texts_hold queue = hold_in queue.messages

wait_if : (place : ℕ) (here : Bool) (message : Message) (rest found : Option Message)
    → option_and_then (waiting_in place) found ≡ option_and_then (waiting_in place) rest
    → option_and_then (waiting_in place) (if here then Some (blank message) else found)
    ≡ option_and_then (waiting_in place) (if here then Some message else rest)
wait_if place true message rest found is = refl
wait_if place false message rest found is = is

wait_in : (entries : List (ℕ × Message)) (number place : ℕ)
    → option_and_then (waiting_in place) (message_of (map blank_entry entries) number) ≡ option_and_then
    (waiting_in place) (message_of entries number)
wait_in [] number place = refl
wait_in (entry ∷ entries) number place =
    wait_if place (entry.0 == number) entry.1 (message_of entries number) (message_of (map blank_entry entries) number)
    (wait_in entries number place)

pub blank_texts_wait : BlankTextsWait
blank_texts_wait queue number place = wait_in queue.messages number place
