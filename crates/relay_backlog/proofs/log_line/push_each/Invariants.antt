-- the octets so far stand at the end
use Rattle.std.proofs.Common.{◌≡◌, ◌++◌, take}
use Rattle.std.specs.List.{flat_map}
use Rattle.relay_backlog.specs.LogLine.{quoted_octet}
use Rattle.relay_backlog.proofs.log_line.push_each.Given as goal

abbrev pub invariant-loop-octet : goal.invariant-loop-octet
invariant-loop-octet l =
    l.line.items ≡ l.initial.line.items ++ flat_map (quoted_octet l.form) (take l.octet-index l.octets)
