-- Without a folder, all messages are withdrawn.
use Rattle.relay_steering.proofs.SavingLemmas.{some_are_all}
use Rattle.relay_steering.proofs.withdrawing.saved_of.Goals as goal

pub returns-clause-some : goal.returns-clause-some
returns-clause-some g c = some_are_all c.args.taken.messages.items
