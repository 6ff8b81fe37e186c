-- Room on a disk, and a ballast: a file of zeros beside a spool, whose octets are given up where outcomes need room.
use Rattle.std.specs.Prelude.{ℕ, ◌+◌, ◌*◌, ◌^◌, ◌≤◌, nat_le, max, List, length, if◌then◌else◌}
use Rattle.relay_disk.specs.Device.{DiskWords}

-- profile: 64 outcomes with reports that return headers, of 32 KiB each, and one with a report that returns a message
-- of the greatest size, with 128 KiB beside it; and no fewer than 4 MiB
abbrev pub ballast_of : ℕ → ℕ
ballast_of max_content = max (max_content + (2 ^ 21 + 2 ^ 17)) (2 ^ 22)

-- Since the old disk a stop might have left this many octets or more: the device has had the room for them.
pub record HasHeld {D : Type 0} (words : DiskWords D) (old new : D) (room : ℕ) : Type 0 where
  pub image : List ℕ
  pub left : words.left_since new (words.moment old) image
  pub long : room ≤ length image

-- Time goes on: what a stop since some time might have left stays so.
pub record Lasts {D : Type 0} (words : DiskWords D) (old new : D) : Type 0 where
  pub later : words.moment old ≤ words.moment new
  pub keeps : (moment : ℕ) (image : List ℕ) → moment ≤ words.moment old → words.left_since old moment image
      → words.left_since new moment image

-- what stays after a test that found so much room: the ballast, if there is as much again beside it
abbrev pub kept_of : ℕ → ℕ → ℕ
kept_of room size = if nat_le (size * 2) room then size else 0
