-- Laws of relays between two events.
use Rattle.relay_disk.specs.Device.{DiskWords}
use Rattle.relay_world.specs.Leaks.{NothingLeaks}
use Rattle.relay_events.specs.declared.relays.Relays.{Relays}
use Rattle.relay_events.specs.Relays.{AreInOrder, world_of}

-- The relays are in order, and nothing leaks: each occupied seat of a node that is up has a link, and each attempt
-- number in use an attempt.
pub record IsSound {D : Type 0} (honest : Type 0) (words : DiskWords D) (relays : Relays D) : Type 0 where
  pub order : AreInOrder honest words relays
  pub leaks : NothingLeaks (world_of relays)
