-- the lines of the findings so far
use Rattle.std.proofs.Common.{◌≡◌, take}
use Rattle.std.specs.List.{flat_map}
use Rattle.relay_check.specs.Check.{finding_line}
use Rattle.relay_check.proofs.findings.Findings.lines.Given as goal

abbrev pub invariant-loop-finding : goal.invariant-loop-finding
invariant-loop-finding l = l.lines.items ≡ flat_map (finding_line l.file) (take l.finding-index l.self.found.items)
