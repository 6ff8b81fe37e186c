-- the lines of the recipients so far
use Rattle.relay_queue.proofs.RecipientLemmas.{AreLines}
use Rattle.relay_queue.proofs.message_text.push_recipients.Given as goal

abbrev pub invariant-loop-index : goal.invariant-loop-index
invariant-loop-index l = AreLines l.table l.message l.index l.fn.screen l.screen
