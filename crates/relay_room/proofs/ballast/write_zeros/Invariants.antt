use Rattle.std.proofs.Common.{◌≡◌, ◌≤◌, ◌-◌, ℕ, length}
use Rattle.relay_disk.specs.Device.{DiskWords, FailsNot}
use Rattle.relay_room.specs.Room.{Lasts}
use Rattle.relay_room.proofs.ballast.write_zeros.Given as goal

-- So many zeros are there, and no write has failed.
pub record Writing {D : Type 0} (honest : Type 0) (words : DiskWords D) (old new : D) (room most : ℕ) : Type 0 where
  pub there : honest → length (words.seen new) ≡ room
  pub time : honest → Lasts words old new
  pub within : room ≤ most
  pub failures : FailsNot words old new

abbrev pub invariant-loop-room : goal.invariant-loop-room
invariant-loop-room g l = Writing g.D.Disk.honest g.D.Disk.words l.fn.disk l.disk l.room l.most

abbrev pub decreases-loop-room : goal.decreases-loop-room
decreases-loop-room g l = l.most - l.room
