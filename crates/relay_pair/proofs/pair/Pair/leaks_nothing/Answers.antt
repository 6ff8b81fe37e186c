use Rattle.relay_pair.proofs.pair.Pair.leaks_nothing.Goals as goal

pub returns : goal.returns
returns g c = rw (← c.self.view_is) c.self.invariant.leaks
