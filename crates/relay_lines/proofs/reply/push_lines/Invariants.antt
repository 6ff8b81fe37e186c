-- the lines so far are written
use Rattle.std.proofs.Common.{◌≡◌, ◌++◌, take}
use Rattle.std.specs.List.{flat_map}
use Rattle.relay_lines.specs.Reply.{middle_line}
use Rattle.relay_lines.proofs.reply.push_lines.Given as goal

abbrev pub invariant-loop-text : goal.invariant-loop-text
invariant-loop-text l =
    l.out.items ≡ l.fn.out.items ++ flat_map (middle_line l.code) (take l.text-index l.middle)
