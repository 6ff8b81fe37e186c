-- The queue as JSON objects, a line each.
use Rattle.std.specs.Prelude.{ℕ, nat_lt, List, [], ◌∷◌, ◌++◌, codes, decimal, length, take, if◌then◌else◌}
use Rattle.std.specs.List.{flat_map}
use Rattle.relay_routes.specs.Routes.{RouteTable}
use Rattle.relay_book.specs.Queue.{Queue}
use Rattle.relay_listing.specs.Object.{object_at}
use Rattle.relay_listing.specs.Pieces.{joined}

-- the last line of a list of the first recipients: how many they are, and how many are queued
abbrev pub cut_line : ℕ → ℕ → List ℕ
cut_line listed queued = joined (
    codes "{\"cut\":true,\"listed\":" ∷ decimal listed ∷ codes ",\"queued\":" ∷ decimal queued ∷ codes "}\n" ∷ [])

-- the lines of the recipients at these places, in their order, as far as they are queued
abbrev pub lines_of : ℕ → RouteTable → Queue → List (ℕ × ℕ) → List ℕ
lines_of now table queue marks = flat_map (object_at now table queue) marks

-- profile: the lines of the first 500 of these recipients, and a last line if they are more
abbrev pub listing : ℕ → RouteTable → Queue → List (ℕ × ℕ) → List ℕ
listing now table queue marks =
    lines_of now table queue (take 500 marks) ++ (if nat_lt 500 (length marks) then cut_line 500 (length marks) else [])
