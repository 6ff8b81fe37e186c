-- Why a run ends with status 1: the faults of lower crates as faults of a run, and the system's own errors.
use Rattle.std.specs.Prelude.{◌≡◌, ◌⊎◌, ℕ, ℤ, pos, List, codes, Option, None, Some}
use Rattle.relay_spool.specs.declared.fault.SpoolFault.{SpoolFault}
use Rattle.relay_spool.specs.declared.fault.SpoolFault.TheVariants as spool_fault
use Rattle.relay_routes.specs.declared.fault.ConfigFault.{ConfigFault}
use Rattle.relay_routes.specs.declared.fault.ConfigFault.TheVariants as config_fault
use Rattle.relay_limits.specs.declared.limit.Limit.{Limit}
use Rattle.relay_records.specs.declared.fault.Cause.{Cause}
use Rattle.relay_records.specs.declared.fault.Cause.TheVariants.{Spool, BadRecord as NoFittingRecord}
use Rattle.relay_records.specs.declared.fault.NodeFault.{NodeFault}
use Rattle.relay_records.specs.declared.fault.NodeFault.TheVariants as node_fault
use Rattle.relay_links.specs.declared.fault.LinkFault.{LinkFault}
use Rattle.relay_links.specs.declared.fault.LinkFault.TheVariants as link_fault
use Rattle.relay_files.specs.declared.fault.Fault.{Fault}
use Rattle.relay_files.specs.declared.fault.Fault.TheVariants.{Config, Limit as BadLimit, NotASpool, Damaged, NotEmpty}
use Rattle.relay_files.specs.declared.fault.Fault.TheVariants.{Full}
use Rattle.relay_files.specs.declared.fault.Fault.TheVariants.{NoSecond, BadRecord, Device, Locked, NoMemory, Input}
use Rattle.relay_files.specs.declared.fault.Fault.TheVariants.{Output}

-- lack of memory is one fault, wherever it comes
abbrev pub fault_of_config : ConfigFault → Fault
fault_of_config config_fault.NotToml = Config config_fault.NotToml
fault_of_config (config_fault.Missing key) = Config (config_fault.Missing key)
fault_of_config (config_fault.BadValue key) = Config (config_fault.BadValue key)
fault_of_config config_fault.NoMemory = NoMemory

-- the invalid value of a limit
abbrev pub fault_of_limit : Limit → Fault
fault_of_limit limit = BadLimit limit

abbrev pub fault_of_spool : SpoolFault → Fault
fault_of_spool spool_fault.Device = Device
fault_of_spool spool_fault.NotASpool = NotASpool
fault_of_spool (spool_fault.Damaged place) = Damaged place
fault_of_spool spool_fault.NoMemory = NoMemory
fault_of_spool spool_fault.NotEmpty = NotEmpty
fault_of_spool spool_fault.Full = Full
fault_of_spool spool_fault.NoSecond = NoSecond

abbrev pub fault_of_cause : Cause → Fault
fault_of_cause (Spool fault) = fault_of_spool fault
fault_of_cause (NoFittingRecord number) = BadRecord number

-- profile: the program asks a node only for what exists and leaves room, so that other refusals can't come from outside
abbrev pub fault_of_node : NodeFault → Fault
fault_of_node node_fault.NoMemory = NoMemory
fault_of_node node_fault.Stopped = Device
fault_of_node node_fault.Unknown = Device
fault_of_node node_fault.TooMany = Device
fault_of_node node_fault.NotDue = Device
fault_of_node node_fault.Busy = Device
fault_of_node (node_fault.Open cause) = fault_of_cause cause
fault_of_node node_fault.Full = Full
fault_of_node node_fault.NoSecond = NoSecond

abbrev pub fault_of_link : LinkFault → Fault
fault_of_link link_fault.Input = Input
fault_of_link link_fault.Output = Output
fault_of_link link_fault.NoMemory = NoMemory
fault_of_link link_fault.Full = Full
fault_of_link link_fault.Device = Device

-- Linux's errors of a socket that fails for lack of resources here: this process has no file descriptor left (EMFILE),
-- the system has none (ENFILE), or there is no memory (ENOMEM) or no buffer space (ENOBUFS)
abbrev pub IsWantOfSockets : Option ℤ → Type 0
IsWantOfSockets code =
    (code ≡ Some (pos 24)) ⊎ (code ≡ Some (pos 23)) ⊎ (code ≡ Some (pos 12)) ⊎ (code ≡ Some (pos 105))

-- profile: a spool that another process has locked gets the text of a file that can't be opened, and this line after it
abbrev pub advice_on : Fault → Option (List ℕ)
advice_on Locked = Some (codes "another relayd holds the spool: stop it, or wait until it ends")
advice_on _ = None
