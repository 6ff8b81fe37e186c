-- The effect of a stop between two calls.
use Rattle.std.specs.Prelude.{◌≡◌, ◌⊎◌, ℕ, Some, slice_get, slice_set}
use Rattle.relay_disk.specs.Device.{DiskWords}
use Rattle.relay_world.specs.Crashes.{let_go}
use Rattle.relay_world.specs.World.{Host, World}
use Rattle.relay_hosts.specs.Crash.{StopsAgain, StopsAtRest}

module _ {D : Type 0} (honest : Type 0) (words : DiskWords D) where
  -- A node that was up has stopped between two calls, and has let go of its ends of links; or one that was down has
  -- stopped again.
  pub record IsTakenDown (old new : World D) (node : ℕ) : Type 0 where
    pub was : Host D
    pub was_at : slice_get old.hosts node ≡ Some was
    pub now : Host D
    pub stops : (StopsAtRest honest words was now
        × (new ≡ let_go node (record old { hosts = slice_set old.hosts node now })))
        ⊎ (StopsAgain honest words was now × (new ≡ record old { hosts = slice_set old.hosts node now }))
