-- How many recipients of a message an attempt has at most.
use Rattle.std.specs.Prelude.{ℕ, ◌==◌, ◌/◌, ◌%◌, max, List, Option, None, Some, replicate, slice_get, slice_set}
use Rattle.std.specs.Prelude.{if◌then◌else◌}
use Rattle.relay_lanes.specs.declared.portions.Halved.{Halved}

-- how many a message has of which no attempt was cut off; and the others, each at the place that its number gives
pub record Shares : Type 0 where
  pub usual : ℕ
  pub halved : List Halved

-- profile: 1,024 messages whose attempts were cut off are known, by the remainder of their numbers
abbrev pub place_in : ℕ → ℕ
place_in message = message % 1024

-- what is known at the place of a message says how many it has, if it is of that message
abbrev pub portion_by : ℕ → ℕ → Option Halved → ℕ
portion_by usual message None = usual
portion_by usual message (Some halved) = if halved.message == message then halved.most else usual

-- the most recipients of a message in an attempt
abbrev pub portion_of : Shares → ℕ → ℕ
portion_of shares message = portion_by shares.usual message (slice_get shares.halved (place_in message))

-- no attempt of any message was cut off
abbrev pub fresh : ℕ → Shares
fresh usual = record { usual = usual; halved = replicate 1024 (record { message = 0; most = usual }) }

-- half as many, one at least
abbrev pub half_of : ℕ → ℕ
half_of most = max (most / 2) 1

-- an attempt of this message was cut off, and of no other
abbrev pub halved_for : ℕ → Shares → Shares
halved_for message shares = record shares {
  halved = slice_set shares.halved (place_in message) (record {
    message = message;
    most = half_of (portion_of shares message);
  });
}
