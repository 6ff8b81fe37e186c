-- A host that has just begun owes nothing.
use Rattle.std.proofs.Common.{◌≡◌, [], ◌∙◌}
use Rattle.relay_disk.specs.Device.{DiskWords}
use Rattle.relay_routes.specs.declared.config.Config.{Config}
use Rattle.relay_records.specs.Records.{Keeps}
use Rattle.relay_node.specs.Node.{IsIdle, NodeState}
use Rattle.relay_hosts.specs.Host.{notes_of}
use Rattle.relay_hosts.proofs.CallLemmas.{owed_live}
use Rattle.relay_hosts.proofs.SlotLemmas.{count_free}

-- a node that has just begun owes no note
pub new_owes_none : {D : Type 0} (honest : Type 0) (words : DiskWords D) (config : Config) (node : NodeState D)
    → Keeps honest words node.records [] → IsIdle config node → notes_of node ≡ 0
new_owes_none honest words config node keeps idle = owed_live node keeps.live ∙ count_free node.attempts idle.none_runs
