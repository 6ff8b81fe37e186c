-- No more stand than there are slots up to the last of them.
use Rattle.relay_next_hops.proofs.SlotLemmas.{few_stand}
use Rattle.relay_next_hops.proofs.hops.Hops.free.Goals as goal

pub returns-clause-few : goal.returns-clause-few
returns-clause-few g c = few_stand c.args.self.now.hops c.standing.result.now c.standing.ensures.slots c.standing.ensures.within
