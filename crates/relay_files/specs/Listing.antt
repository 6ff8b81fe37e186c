-- What `list` writes: a line for each held recipient, in the order of the queue.
use Rattle.std.specs.Prelude.{ℕ, List, [], ◌∷◌, ◌++◌, decimal, Option}
use Rattle.std.specs.List.{flat_map}
use Rattle.std.specs.Option.{option_map_or}
use Rattle.std.specs.Io.KnownBytes.{Appends}
use Rattle.relay_book.specs.Queue.{Queue, held_of}
use Rattle.relay_records.specs.HeldPlace.{waiting_at}
use Rattle.relay_outlines.specs.Look.{Seen}
use Rattle.relay_files.specs.Opening.{IsLook}

-- the number of the message, the recipient's place in it, its path, and when it is due, in seconds since 1970,
-- separated by spaces
abbrev pub listed_line : ℕ → ℕ → List ℕ × ℕ → List ℕ
listed_line number place waiting =
    decimal number ++ 32 ∷ decimal place ++ 32 ∷ waiting.0 ++ 32 ∷ decimal waiting.1 ++ 10 ∷ []

-- the line of a place, if it is held
abbrev pub line_at : Queue → ℕ × ℕ → List ℕ
line_at queue mark = option_map_or (listed_line mark.0 mark.1) (waiting_at queue mark.0 mark.1) []

-- the lines of all held places
abbrev pub listing_of : Queue → List ℕ
listing_of queue = flat_map (line_at queue) (held_of queue)

-- what was written are the lines of the queue that the files were opened to
pub record IsListed (old new : Option (List ℕ)) : Type 0 where
  pub look : Seen
  pub queue : Queue
  pub opened : IsLook look queue
  pub written : Appends old new (listing_of queue)
