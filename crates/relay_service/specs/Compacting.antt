-- The effect on a node of compacting its spool while clients are served.
use Rattle.std.specs.Prelude.{◌≡◌, ◌⊎◌, ◌+◌, ◌-◌, ◌^◌, min, Bool, length, Result, OnOk}
use Rattle.relay_disk.specs.Device.{DiskWords}
use Rattle.relay_book.specs.Snapshot.{snapshot}
use Rattle.relay_records.specs.Records.{Compacts}
use Rattle.relay_files.specs.declared.fault.Fault.{Fault}
use Rattle.relay_limits.specs.Compacting.{IsWorthIt}
use Rattle.relay_node.specs.Node.{NodeState}

-- Compacting a node's spool is worth it.
abbrev pub MayShrink : {D : Type 0} → NodeState D → Bool → Type 0
MayShrink node was_full =
    IsWorthIt node.records.spool.size (min (23 + length (snapshot node.records.queue)) (2 ^ 64 - 1))
    node.config.spool_limit was_full

-- The spool of a node was compacted, or nothing was done; nothing was done if it isn't worth it. The queue, the note,
-- the configuration, the sessions and the attempts are the same.
pub record Shrinks {D : Type 0} (words : DiskWords D) (old new : NodeState D) (was_full : Bool)
    (result : Result (Unit {0}) Fault) : Type 0 where
  pub stays : (MayShrink old was_full → ⊥) → new ≡ old
  pub shrinks : OnOk result ((new ≡ old) ⊎ Compacts ⊥ words old.records new.records)
  pub queue : new.records.queue ≡ old.records.queue
  pub noted : new.records.noted ≡ old.records.noted
  pub config : new.config ≡ old.config
  pub seats : new.seats ≡ old.seats
  pub attempts : new.attempts ≡ old.attempts
