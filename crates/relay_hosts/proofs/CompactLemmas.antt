-- A node that writes its spool anew, refuses to, or stops in that.
use Rattle.std.proofs.Common.{inl, inr, ◌≡◌, ◌≤◌, ℕ, true, false, List, length, Option, None, refl, ap, arith}
use Rattle.std.proofs.lemmas.Bool.{true≢false}
use Rattle.relay_disk.specs.Device.{DiskWords}
use Rattle.relay_spool.specs.Head.{renewal_calls}
use Rattle.relay_spool.specs.Pair.{IsTooMuch}
use Rattle.relay_book.specs.declared.change.Change.{Change}
use Rattle.relay_book.specs.Snapshot.{snapshot}
use Rattle.relay_records.specs.declared.fault.NodeFault.{NodeFault}
use Rattle.relay_records.specs.declared.fault.NodeFault.TheVariants.{NoMemory, Stopped, Unknown, TooMany, NotDue, Busy, Open, Full, NoSecond}
use Rattle.relay_records.specs.Records.{Compacts, Halted, IsStopped, Keeps}
use Rattle.relay_attempts.specs.declared.runs.Run.{Run}
use Rattle.relay_node.specs.Compaction.{LeavesUncompacted}
use Rattle.relay_node.specs.Node.{NodeState}
use Rattle.relay_world.specs.Stops.{IsLeftBy}
use Rattle.relay_hosts.specs.declared.host.DownNode.{DownNode}
use Rattle.relay_hosts.specs.declared.host.HostState.{HostState}
use Rattle.relay_hosts.specs.declared.host.HostState.TheVariants.{Down, Up}
use Rattle.relay_hosts.specs.Call.{is_stop}
use Rattle.relay_hosts.specs.Compact.{HaltsRewriting, IsWhyNotCompacted, KnowsNow, RewritesSpool}
use Rattle.relay_hosts.specs.Host.{count_some, host_in, host_of, notes_of}
use Rattle.relay_hosts.specs.Work.{HasChanges}
use Rattle.relay_hosts.proofs.CallLemmas.{owed_live, runs_on}
use Rattle.relay_hosts.proofs.StopLemmas.{same_down}

module _ {D : Type 0} (honest : Type 0) (words : DiskWords D) (before after : NodeState D) (records : List (List ℕ)) where
  -- a node that has written its spool anew
  pub rewrote : (size : ℕ)
      → (after.config ≡ before.config) × (after.seats ≡ before.seats) × (after.attempts ≡ before.attempts)
      × (after.records.queue ≡ before.records.queue) × (after.records.noted ≡ before.records.noted)
      → Compacts honest words before.records after.records
      → ((changes : List Change) → Keeps honest words before.records changes → Keeps honest words after.records changes)
      → size ≡ after.records.spool.size → RewritesSpool honest words (host_of before records) (host_of after records) size
  rewrote size rest compacts keeps is = record {
    before = before;
    after = after;
    runs = runs_on before after records rest.0;
    compacts = compacts;
    keeps = keeps;
    queue = rest.3;
    noted = rest.4;
    seats = rest.1;
    attempts = rest.2;
    size_is = is;
  }

  -- one that has stopped in that, and gone down
  pub halts_down : (down : DownNode D) → down.config ≡ before.config → down.undecided ≡ None
      → IsStopped words (renewal_calls before.records.spool.taken.other) before.records after.records
      → ((changes : List Change) → Keeps honest words before.records changes
      → Halted honest words after.records changes None)
      → IsLeftBy honest words after.records down.disk
      → HaltsRewriting honest words (host_of before records) (host_in (Down down) records)
  halts_down down config none failed halts left = record {
    before = before;
    up = refl;
    stopped = after.records;
    failed = failed;
    halts = halts;
    disk = down.disk;
    left = left;
    new_is = same_down honest words before down records None config none;
  }

  -- a node that keeps changes, and keeps changes after a call, owes no more than before
  pub owes_no_more : before.records.spool.live ≡ true → after.records.spool.live ≡ true → after.attempts ≡ before.attempts
      → notes_of after ≤ notes_of before
  owes_no_more was is attempts =
      let one = owed_live before was in
      let other = owed_live after is in
      let same = ap (λ (a : List (Option Run)). count_some a) attempts in
      omega (arith, one, other, same)

-- the parts of a host that keeps changes
pub knows_now : {D : Type 0} (honest : Type 0) (words : DiskWords D) (state : HostState D) (records : List (List ℕ))
    → HasChanges honest words (host_in state records) → KnowsNow honest words state
knows_now honest words (Up node) records has = has
knows_now honest words (Down down) records has = absurd has

-- a node that refuses is as it was, unless it has stopped
pub uncompacted_same : {D : Type 0} (words : DiskWords D) (before after : NodeState D) (fault : NodeFault)
    → is_stop fault ≡ false → LeavesUncompacted words before after fault → after ≡ before
uncompacted_same words before after NoMemory ok leaves = leaves
uncompacted_same words before after Stopped ok leaves = absurd (true≢false ok)
uncompacted_same words before after Unknown ok leaves = absurd leaves
uncompacted_same words before after TooMany ok leaves = absurd leaves
uncompacted_same words before after NotDue ok leaves = absurd leaves
uncompacted_same words before after Busy ok leaves = absurd leaves
uncompacted_same words before after (Open cause) ok leaves = absurd leaves
uncompacted_same words before after Full ok leaves = leaves
uncompacted_same words before after NoSecond ok leaves = leaves

-- and it says why
pub uncompacted_why : {D : Type 0} (words : DiskWords D) (before after : NodeState D) (records : List (List ℕ))
    (fault : NodeFault) → is_stop fault ≡ false → LeavesUncompacted words before after fault
    → ((fault ≡ NoSecond) → before.records.spool.taken.other ≡ None)
    → ((fault ≡ Full) → IsTooMuch before.records.spool.taken (length (snapshot before.records.queue)))
    → IsWhyNotCompacted (host_of before records) fault
uncompacted_why words before after records NoMemory ok leaves second full = inl refl
uncompacted_why words before after records Stopped ok leaves second full = absurd (true≢false ok)
uncompacted_why words before after records Unknown ok leaves second full = absurd leaves
uncompacted_why words before after records TooMany ok leaves second full = absurd leaves
uncompacted_why words before after records NotDue ok leaves second full = absurd leaves
uncompacted_why words before after records Busy ok leaves second full = absurd leaves
uncompacted_why words before after records (Open cause) ok leaves second full = absurd leaves
uncompacted_why words before after records Full ok leaves second full = inr (inr (refl, full refl))
uncompacted_why words before after records NoSecond ok leaves second full = inr (inl (refl, second refl))
