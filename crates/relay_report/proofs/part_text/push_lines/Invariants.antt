-- what is written, and what is to come
use Rattle.std.proofs.Common.{◌≡◌, ◌++◌, drop}
use Rattle.std.specs.List.{flat_map}
use Rattle.relay_report.specs.Multipart.{line_of}
use Rattle.relay_report.proofs.part_text.push_lines.Given as goal

abbrev pub invariant-loop-ruling : goal.invariant-loop-ruling
invariant-loop-ruling l =
    l.out.items ++ flat_map (line_of l.message l.now) (drop l.ruling-index l.rulings) ≡ l.initial.out.items ++ flat_map (line_of l.message l.now) l.rulings
