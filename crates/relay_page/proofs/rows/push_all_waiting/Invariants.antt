use Rattle.std.proofs.Common.{◌≡◌, ◌++◌, take}
use Rattle.relay_page.specs.Rows.{waiting_rows}
use Rattle.relay_page.proofs.rows.push_all_waiting.Given as goal

abbrev pub invariant-loop-waiting : goal.invariant-loop-waiting
invariant-loop-waiting l = l.text.items ≡ l.fn.text.items ++ waiting_rows (take l.waiting-index l.all) l.now
