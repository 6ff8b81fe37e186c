-- A node compacts its spool, onto the other of its two disks.
use Rattle.std.specs.Prelude.{◌≡◌, ◌⊎◌, ℕ, List, length, None}
use Rattle.relay_disk.specs.Device.{DiskWords}
use Rattle.relay_disk.specs.declared.disks.Disks.{Disks}
use Rattle.relay_spool.specs.Pair.{IsTooMuch}
use Rattle.relay_book.specs.declared.change.Change.{Change}
use Rattle.relay_book.specs.Snapshot.{snapshot}
use Rattle.relay_records.specs.declared.fault.NodeFault.{NodeFault}
use Rattle.relay_records.specs.declared.fault.NodeFault.TheVariants as node_fault
use Rattle.relay_spool.specs.Head.{renewal_calls}
use Rattle.relay_records.specs.Records.{Compacts, Halted, IsStopped, Keeps, Kept}
use Rattle.relay_node.specs.Node.{NodeState}
use Rattle.relay_world.specs.Stops.{IsLeftBy}
use Rattle.relay_world.specs.World.{Down, HostState, Host, Up}
use Rattle.relay_hosts.specs.declared.compact.Compacted.{Compacted}
use Rattle.relay_hosts.specs.declared.compact.Compacted.TheVariants as compacted
use Rattle.relay_hosts.specs.declared.host.HostState.{HostState as HostParts}
use Rattle.relay_hosts.specs.declared.host.HostState.TheVariants as parts
use Rattle.relay_hosts.specs.Call.{Runs}
use Rattle.relay_hosts.specs.Work.{KnowsChanges}

-- the node of a host has no second disk for its spool
abbrev pub LacksSecond : {D : Type 0} → HostState D → Type 0
LacksSecond (Up node) = node.records.spool.taken.other ≡ None
LacksSecond (Down disk undecided) = ⊥

-- what the node holds doesn't fit into one record, or its spool has no generation left
abbrev pub HoldsTooMuch : {D : Type 0} → HostState D → Type 0
HoldsTooMuch (Up node) = IsTooMuch node.records.spool.taken (length (snapshot node.records.queue))
HoldsTooMuch (Down disk undecided) = ⊥

-- why a node may refuse to compact its spool: too little memory, no second disk, or no room for the record
abbrev pub IsWhyNotCompacted : {D : Type 0} → Host D → NodeFault → Type 0
IsWhyNotCompacted host why =
    (why ≡ node_fault.NoMemory)
    ⊎ (((why ≡ node_fault.NoSecond) × LacksSecond host.state) ⊎ ((why ≡ node_fault.Full) × HoldsTooMuch host.state))

module _ {D : Type 0} (honest : Type 0) (words : DiskWords D) where
  -- the parts of a host are up, and their node keeps a list of changes
  abbrev pub KnowsNow : HostParts D → Type 0
  KnowsNow (parts.Up node) = KnowsChanges honest words node
  KnowsNow (parts.Down down) = ⊥

  -- A host has compacted its spool, to this size. It keeps its changes, and nothing else changes.
  pub record RewritesSpool (old new : Host D) (size : ℕ) : Type 0 where
    pub before : NodeState D
    pub after : NodeState D
    pub runs : Runs old new before after
    pub compacts : Compacts honest words before.records after.records
    pub keeps : (changes : List Change) → Keeps honest words before.records changes
        → Keeps honest words after.records changes
    pub queue : after.records.queue ≡ before.records.queue
    pub noted : after.records.noted ≡ before.records.noted
    pub seats : after.seats ≡ before.seats
    pub attempts : after.attempts ≡ before.attempts
    pub size_is : size ≡ after.records.spool.size

  -- The device of a host has failed in that call, and the host has gone down. A stop leaves the changes that it kept.
  pub record HaltsRewriting (old new : Host D) : Type 0 where
    pub before : NodeState D
    pub up : old.state ≡ Up before
    pub stopped : Kept D
    pub failed : IsStopped words (renewal_calls before.records.spool.taken.other) before.records stopped
    pub halts : (changes : List Change) → Keeps honest words before.records changes
        → Halted honest words stopped changes None
    pub disk : Disks D
    pub left : IsLeftBy honest words stopped disk
    pub new_is : new ≡ record old { state = Down disk None }

  abbrev pub RewritesOrNot : Host D → Host D → Compacted → Type 0
  RewritesOrNot old new (compacted.Done size) = RewritesSpool old new size
  RewritesOrNot old new (compacted.Refused fault) = IsWhyNotCompacted old fault × (new ≡ old)
  RewritesOrNot old new compacted.Stopped = HaltsRewriting old new
