-- What a compaction of a node leaves where it is refused, and when it is.
use Rattle.std.specs.Prelude.{◌≡◌, ◌≢◌, ◌↔◌, true, false, None, length, Result, Err, IfErr}
use Rattle.relay_disk.specs.Device.{DiskWords}
use Rattle.relay_book.specs.Snapshot.{snapshot}
use Rattle.relay_spool.specs.Head.{renewal_calls}
use Rattle.relay_spool.specs.Pair.{IsTooMuch}
use Rattle.relay_records.specs.declared.fault.NodeFault.{NodeFault}
use Rattle.relay_records.specs.declared.fault.NodeFault.TheVariants.{NoMemory, Stopped, Full, NoSecond}
use Rattle.relay_records.specs.Records.{IsStopped}
use Rattle.relay_node.specs.Node.{NodeState}

-- what a compaction leaves that a live node refuses: all is as it was, unless the device failed
abbrev pub LeavesUncompacted : {D : Type 0} → DiskWords D → NodeState D → NodeState D → NodeFault → Type 0
LeavesUncompacted words old new NoMemory = new ≡ old
LeavesUncompacted words old new Stopped =
    IsStopped words (renewal_calls old.records.spool.taken.other) old.records new.records
LeavesUncompacted words old new Full = new ≡ old
LeavesUncompacted words old new NoSecond = new ≡ old
LeavesUncompacted words old new other = ⊥

-- By a stopped node it is refused always, and nothing changes. A live one refuses for lack of a second disk exactly if
-- that has no head, and as full exactly if it has one and the snapshot of what is held is too much.
pub record RefusesToCompact {D T : Type 0} (words : DiskWords D) (old new : NodeState D) (result : Result T NodeFault)
    : Type 0 where
  pub stopped : old.records.spool.live ≡ false → (result ≡ Err Stopped) × (new ≡ old)
  pub refused : old.records.spool.live ≡ true → IfErr result (LeavesUncompacted words old new)
  pub no_second : old.records.spool.live ≡ true → (result ≡ Err NoSecond) ↔ (old.records.spool.taken.other ≡ None)
  pub full : old.records.spool.live ≡ true → (result ≡ Err Full)
      ↔ ((old.records.spool.taken.other ≢ None)
      × IsTooMuch old.records.spool.taken (length (snapshot old.records.queue)))
