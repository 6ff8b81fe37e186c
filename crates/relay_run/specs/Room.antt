-- Room on the disk of a spool, and what a running relay may begin with it.
use Rattle.std.specs.Prelude.{◌≡◌, ℕ, ◌-◌, ◌^◌}
use Rattle.relay_room.specs.Standing.{MayBegin, standing_at_test}
use Rattle.relay_room.specs.declared.standing.Standing.{Standing}
use Rattle.relay_room.specs.declared.standing.Standing.TheVariants.{Roomy, Short}
use Rattle.relay_run.specs.declared.room.Room.{Room}

-- by how many octets a spool of this size has grown since the last test of the room
abbrev pub grown_since : {F : Type 0} → Room F → ℕ → ℕ
grown_since room size = size - room.tested_size

-- Attempts may begin: the tested room holds their outcomes, and the spool isn't about to be opened again.
pub record MayStart {F : Type 0} (room : Room F) (size : ℕ) : Type 0 where
  pub stays : room.renewal ≡ 2 ^ 64 - 1
  pub holds : MayBegin room.standing (grown_since room size)

-- the room was tested, unless the ballast is there, and the relay's state follows from what was found
abbrev pub IsTested : {F : Type 0} → Room F → Room F → Type 0
IsTested old new =
    (room : ℕ) × (new.standing ≡ standing_at_test old.standing room old.size)

-- the tick at which the room is looked at again: that of the next test while the relay is short of room, else that at
-- which the spool is opened with its configured limit
abbrev pub next_look : {F : Type 0} → Standing → Room F → ℕ
next_look Roomy room = room.renewal
next_look (Short found need) room = room.next_test
