-- Compaction of a spool while the relay serves: only if it is worth it, and nothing but the spool's files changes.
use Rattle.std.specs.Prelude.{◌≡◌, ◌+◌, ◌-◌, ◌^◌, ℕ, min, Bool, length}
use Rattle.relay_disk.specs.Device.{DiskWords}
use Rattle.relay_book.specs.Snapshot.{snapshot}
use Rattle.relay_records.specs.Records.{Compacts}
use Rattle.relay_spool.specs.Trim.{IsTrimmed}
use Rattle.relay_limits.specs.Compacting.{IsWorthIt}
use Rattle.relay_loop.specs.Relay.{RelayState}

-- the size of the spool after a compaction, in octets, at most 2^64 - 1
abbrev pub compacted_size_of : {D : Type 0} → RelayState D → ℕ
compacted_size_of relay = min (23 + length (snapshot relay.node.records.queue)) (2 ^ 64 - 1)

-- compacting the spool is worth it, given whether mail was refused because it was full
abbrev pub MayShrink : {D : Type 0} → Bool → RelayState D → Type 0
MayShrink was_full relay =
    IsWorthIt relay.node.records.spool.size (compacted_size_of relay) relay.node.config.spool_limit was_full

-- the queue, the note, the configuration, the sessions, the attempts and all connections are the same
pub record KeepsRest {D : Type 0} (old new : RelayState D) : Type 0 where
  pub queue : new.node.records.queue ≡ old.node.records.queue
  pub noted : new.node.records.noted ≡ old.node.records.noted
  pub config : new.node.config ≡ old.node.config
  pub seats : new.node.seats ≡ old.node.seats
  pub attempts : new.node.attempts ≡ old.node.attempts
  pub clients : new.clients ≡ old.clients
  pub hops : new.hops ≡ old.hops

-- the spool was compacted, which was worth it, and nothing else has changed
pub record IsCompacted {D : Type 0} (honest : Type 0) (words : DiskWords D) (was_full : Bool) (old new : RelayState D)
    : Type 0 where
  pub worth : MayShrink was_full old
  pub compacts : Compacts honest words old.node.records new.node.records
  pub rest : KeepsRest old new

-- one turn made the other file shorter, by at most this many octets, and nothing else has changed
pub record MayBeTrimmed {D : Type 0} (honest : Type 0) (words : DiskWords D) (old new : RelayState D) : Type 0 where
  pub most : ℕ
  pub more : Bool
  pub trimmed : IsTrimmed honest words most old.node.records.spool new.node.records.spool more
  pub rest : KeepsRest old new

-- compacting it was worth it, but failed; nothing else has changed
pub record FailsToCompact {D : Type 0} (was_full : Bool) (old new : RelayState D) : Type 0 where
  pub worth : MayShrink was_full old
  pub rest : KeepsRest old new
