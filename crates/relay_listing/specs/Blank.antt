-- What views show of a queue with blank texts is what they show of the queue.
use Rattle.std.specs.Prelude.{◌≡◌, ℕ}
use Rattle.relay_routes.specs.Routes.{RouteTable}
use Rattle.relay_book.specs.Queue.{Queue}
use Rattle.relay_outlines.specs.Look.{blank_texts}
use Rattle.relay_listing.specs.Row.{queued_at}

-- The same recipient stands at each place, with the size of its message.
abbrev pub BlankTextsShow : Type 0
BlankTextsShow =
    (table : RouteTable) (queue : Queue) (mark : ℕ × ℕ)
    → queued_at table (blank_texts queue) mark ≡ queued_at table queue mark
