-- A queue with blank texts holds what the queue holds.
use Rattle.std.specs.Prelude.{◌≡◌, ℕ}
use Rattle.relay_book.specs.Queue.{Queue, held_of}
use Rattle.relay_records.specs.HeldPlace.{waiting_at}
use Rattle.relay_outlines.specs.Look.{blank_texts}

-- The same places are held.
abbrev pub BlankTextsHold : Type 0
BlankTextsHold = (queue : Queue) → held_of (blank_texts queue) ≡ held_of queue

-- The recipient of each held place has the same path, and is due at the same time.
abbrev pub BlankTextsWait : Type 0
BlankTextsWait =
    (queue : Queue) (number place : ℕ) → waiting_at (blank_texts queue) number place ≡ waiting_at queue number place
