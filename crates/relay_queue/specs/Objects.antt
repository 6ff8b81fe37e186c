-- A list of queued recipients as JSON objects, a line each.
use Rattle.std.specs.Prelude.{ℕ, List}
use Rattle.std.specs.List.{flat_map}
use Rattle.relay_routes.specs.Routes.{RouteTable}
use Rattle.relay_book.specs.Queue.{Queue}
use Rattle.relay_listing.specs.Object.{object_at}

-- the lines of the recipients with these keys, in their order
abbrev pub objects_text : ℕ → RouteTable → Queue → List (ℕ × ℕ × ℕ) → List ℕ
objects_text now table queue keys = flat_map (λ key. object_at now table queue (key.1, key.2)) keys
