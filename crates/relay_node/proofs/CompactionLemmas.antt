-- A compaction that the records refuse is refused by the node.
use Rattle.std.proofs.Common.{List, Option, ap}
use Rattle.relay_disk.specs.Device.{DiskWords}
use Rattle.relay_routes.specs.declared.config.Config.{Config}
use Rattle.relay_records.specs.declared.fault.NodeFault.{NodeFault}
use Rattle.relay_records.specs.declared.fault.NodeFault.TheVariants.{NoMemory, Stopped, Unknown, TooMany, NotDue, Busy, Open, Full, NoSecond}
use Rattle.relay_records.specs.Records.{Kept, RefusesToCompact}
use Rattle.relay_attempts.specs.declared.runs.Run.{Run}
use Rattle.relay_node.specs.declared.seat.Seat.{Seat}
use Rattle.relay_node.specs.Compaction.{LeavesUncompacted}
use Rattle.relay_node.proofs.NodeLemmas.{standing_of}

module _ {D : Type 0} (words : DiskWords D) (config : Config) (seats : List (Option Seat)) (runs : List (Option Run)) (old new : Kept D) where
  -- by each fault
  pub left_uncompacted : (fault : NodeFault) → RefusesToCompact words old new fault
      → LeavesUncompacted words (standing_of config seats runs old) (standing_of config seats runs new) fault
  left_uncompacted NoMemory refused = ap (standing_of config seats runs) refused
  left_uncompacted Stopped refused = refused
  left_uncompacted Unknown refused = absurd refused
  left_uncompacted TooMany refused = absurd refused
  left_uncompacted NotDue refused = absurd refused
  left_uncompacted Busy refused = absurd refused
  left_uncompacted (Open cause) refused = absurd refused
  left_uncompacted Full refused = ap (standing_of config seats runs) refused
  left_uncompacted NoSecond refused = ap (standing_of config seats runs) refused
