use Rattle.std.proofs.Common.{◌≡◌, ◌+◌, drop}
use Rattle.std.specs.List.{prefix_len}
use Rattle.relay_lines.specs.Word.{is_space}
use Rattle.relay_envelope.proofs.path.space_len.Given as goal

abbrev pub invariant-loop-i : goal.invariant-loop-i
invariant-loop-i l = l.i + prefix_len is_space (drop l.i l.text) ≡ prefix_len is_space l.text
