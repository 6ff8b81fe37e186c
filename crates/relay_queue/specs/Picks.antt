-- What is listed: the recipients that are queued and pass the filter, by when their messages were accepted.
use Rattle.std.specs.Prelude.{ℕ, Bool, List, [], ◌∷◌, Option, None, Some, if◌then◌else◌}
use Rattle.std.specs.List.{flat_map}
use Rattle.std.specs.List.Sorted.{IsPermutation, IsSorted}
use Rattle.std.specs.Ordering.{nat_cmp, ordering_then}
use Rattle.std.specs.declared.cmp.Ordering.{Ordering}
use Rattle.relay_routes.specs.Routes.{RouteTable}
use Rattle.relay_book.specs.Queue.{Queue, held_of}
use Rattle.relay_queue.specs.declared.filter.Filter.{Filter}
use Rattle.relay_queue.specs.Filter.{passes}
use Rattle.relay_listing.specs.Row.{Queued, queued_at}

-- the sort key of a recipient: when its message was accepted, the message's number, and its place
abbrev pub key_of : Queued → ℕ × ℕ × ℕ
key_of queued = (queued.accepted, queued.number, queued.place)

abbrev pub keys_if : (Queued → Bool) → Option Queued → List (ℕ × ℕ × ℕ)
keys_if test None = []
keys_if test (Some queued) = if test queued then key_of queued ∷ [] else []

-- the key of a held place, if its recipient passes the filter
abbrev pub keys_at : Filter → ℕ → RouteTable → Queue → ℕ × ℕ → List (ℕ × ℕ × ℕ)
keys_at filter now table queue mark = keys_if (passes filter now) (queued_at table queue mark)

-- the keys of all held places
abbrev pub keys_of : Filter → ℕ → RouteTable → Queue → List (ℕ × ℕ × ℕ)
keys_of filter now table queue = flat_map (keys_at filter now table queue) (held_of queue)

-- how two of them are ordered: by when the messages were accepted, then by their numbers, then by the places
abbrev pub key_order : ℕ × ℕ × ℕ → ℕ × ℕ × ℕ → Ordering
key_order one other =
    ordering_then (ordering_then (nat_cmp one.0 other.0) (nat_cmp one.1 other.1)) (nat_cmp one.2 other.2)

-- the keys of the queued recipients that pass the filter, in the order of the list
pub record AreListed (filter : Filter) (now : ℕ) (table : RouteTable) (queue : Queue) (keys : List (ℕ × ℕ × ℕ)) : Type 0
  where
    pub all : IsPermutation (keys_of filter now table queue) keys
    pub sorted : IsSorted key_order keys
