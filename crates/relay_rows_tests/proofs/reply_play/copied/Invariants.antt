-- the texts so far
use Rattle.std.proofs.Common.{◌≡◌, take}
use Rattle.relay_rows_tests.proofs.reply_play.copied.Given as goal

abbrev pub invariant-loop-text : goal.invariant-loop-text
invariant-loop-text l = l.copy.items ≡ take l.text-index l.texts
