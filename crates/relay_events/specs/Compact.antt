-- Calling a node to compact its spool.
use Rattle.std.specs.Prelude.{◌≡◌, ℕ, Some, slice_get, slice_set}
use Rattle.relay_disk.specs.Device.{DiskWords}
use Rattle.relay_world.specs.World.{Host, World}
use Rattle.relay_hosts.specs.declared.compact.Compacted.{Compacted}
use Rattle.relay_hosts.specs.Compact.{RewritesOrNot}

module _ {D : Type 0} (honest : Type 0) (words : DiskWords D) where
  -- A node was called to compact its spool. Nothing else has changed yet.
  pub record IsCalledToCompact (old new : World D) (node : ℕ) (result : Compacted) : Type 0 where
    pub was : Host D
    pub was_at : slice_get old.hosts node ≡ Some was
    pub now : Host D
    pub rewrites : RewritesOrNot honest words was now result
    pub new_is : new ≡ record old { hosts = slice_set old.hosts node now }
