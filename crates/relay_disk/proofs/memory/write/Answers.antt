use Rattle.std.proofs.Common.{arith, rules}
use Rattle.std.proofs.lemmas.Grind.{common_steps}
use Rattle.relay_disk.proofs.memory.write.Goals as goal

pub returns-clause-stored : goal.returns-clause-stored
returns-clause-stored c = (c.extend_from_slice.new.self, search rules, grind (arith, common_steps))
