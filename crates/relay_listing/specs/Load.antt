-- What is queued for each next hop: how much, since when, and when it is tried next.
use Rattle.std.specs.Prelude.{ℕ, ◌+◌, ◌-◌, ◌^◌, ◌==◌, min, List, [], ◌∷◌, bytes_eq, fold, map, unwrap_or, Vec}
use Rattle.std.specs.Prelude.{Option, None, Some, if◌then◌else◌}
use Rattle.std.specs.Global.{Global}
use Rattle.relay_routes.specs.Routes.{RouteTable}
use Rattle.relay_book.specs.Queue.{Queue, held_of}
use Rattle.relay_listing.specs.Row.{Queued, queued_at}
use Rattle.relay_listing.specs.declared.load.Load.{Load}

-- a count with some more, up to the greatest that is counted
abbrev pub counted : ℕ → ℕ → ℕ
counted count more = min (count + more) (2 ^ 64 - 1)

-- one recipient
abbrev pub load_of : Queued → Load
load_of queued = record {
  messages = 1;
  recipients = 1;
  octets = queued.size;
  oldest = queued.accepted;
  due = queued.due;
  last = queued.number;
}

-- one recipient more, of a message that is counted
abbrev pub with_recipient : Load → Queued → Load
with_recipient load queued = record load {
  recipients = counted load.recipients 1;
  oldest = min load.oldest queued.accepted;
  due = min load.due queued.due;
  last = queued.number;
}

-- one recipient more, of the message that was counted last or of another
abbrev pub load_with : Load → Queued → Load
load_with load queued =
    if load.last == queued.number then with_recipient load queued
    else record (with_recipient load queued)
    { messages = counted load.messages 1; octets = counted load.octets queued.size }

-- the name of a recipient's next hop; profile: the empty one if it has none
abbrev pub hop_of : Queued → List ℕ
hop_of queued = unwrap_or queued.hop []

-- the loads by name with one recipient more: a further next hop comes last
abbrev pub loads_with : List (List ℕ × Load) → Queued → List (List ℕ × Load)
loads_with [] queued = (hop_of queued, load_of queued) ∷ []
loads_with (first ∷ rest) queued =
    if bytes_eq (hop_of queued) first.0 then (first.0, load_with first.1 queued) ∷ rest
    else first ∷ loads_with rest queued

-- the loads with the recipient at one place more, if that is held
abbrev pub loads_if : List (List ℕ × Load) → Option Queued → List (List ℕ × Load)
loads_if loads None = loads
loads_if loads (Some queued) = loads_with loads queued

-- the loads of these places, in the order in which they first name their next hops
abbrev pub loads_at : RouteTable → Queue → List (ℕ × ℕ) → List (List ℕ × Load)
loads_at table queue marks = fold (λ loads mark. loads_if loads (queued_at table queue mark)) [] marks

-- the queue by next hop, by the routes of a table
abbrev pub queue_by_hop : RouteTable → Queue → List (List ℕ × Load)
queue_by_hop table queue = loads_at table queue (held_of queue)

-- the loads of a map, by name
abbrev pub loads_in : List (Vec ℕ Global × Load) → List (List ℕ × Load)
loads_in entries = map (λ entry. (entry.0.items, entry.1)) entries
