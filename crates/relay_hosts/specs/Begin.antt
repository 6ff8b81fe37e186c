-- A new host.
use Rattle.std.specs.Prelude.{◌≡◌, []}
use Rattle.relay_disk.specs.Device.{DiskWords}
use Rattle.relay_disk.specs.declared.disks.Disks.{Disks}
use Rattle.relay_spool.specs.Spool.{Passes}
use Rattle.relay_routes.specs.declared.config.Config.{Config}
use Rattle.relay_records.specs.Records.{Keeps}
use Rattle.relay_node.specs.Node.{IsIdle, NodeState}
use Rattle.relay_world.specs.World.{Down, Host, HostState, Up}

-- a node was made of these disks by eight calls, which their fuse let pass; if they have none, none is set
abbrev pub IsMadeOf : {D : Type 0} → DiskWords D → Disks D → HostState D → Type 0
IsMadeOf words disk (Up node) = Passes words 8 disk node.records.spool.disk
IsMadeOf words disk (Down left undecided) = ⊥

-- A new host with this configuration: it is up, and has accepted nothing yet.
pub record IsNew {D : Type 0} (honest : Type 0) (words : DiskWords D) (config : Config) (host : Host D) : Type 0 where
  pub node : NodeState D
  pub up : host.state ≡ Up node
  pub idle : IsIdle config node
  pub keeps : Keeps honest words node.records []
  pub config_is : host.config ≡ config
  pub records : host.records ≡ []
