-- the lines of the keys so far
use Rattle.std.proofs.Common.{◌≡◌, take}
use Rattle.relay_queue.specs.Objects.{objects_text}
use Rattle.relay_queue.proofs.json_lines.json_text.Given as goal

abbrev pub invariant-loop-key : goal.invariant-loop-key
invariant-loop-key l = l.screen ≡ objects_text l.now l.table l.look.queue (take l.key-index l.keys)
