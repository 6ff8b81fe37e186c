-- There was a loss already.
use Rattle.std.proofs.Common.{inl}
use Rattle.relay_next_hops.proofs.LeaveLemmas.{leaves_same}
use Rattle.relay_next_hops.proofs.turning.lose_once.Goals as goal

pub returns-then-has_lost-clause-leaves : goal.returns-then-has_lost-clause-leaves
returns-then-has_lost-clause-leaves g c = leaves_same g.D.Disk.honest g.D.Disk.words c.args.relay.now

pub returns-then-has_lost-clause-tasks : goal.returns-then-has_lost-clause-tasks
returns-then-has_lost-clause-tasks g c = λ lane task there. inl there
