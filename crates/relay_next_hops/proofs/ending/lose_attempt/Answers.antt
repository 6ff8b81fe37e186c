-- The attempt has ended by the change that was added; or its loss was refused, and its connection is gone.
use Rattle.relay_next_hops.proofs.LeaveLemmas.{lost_leaves, refused_leaves}
use Rattle.relay_next_hops.proofs.ending.lose_attempt.Goals as goal

pub returns-in-Ok-clause-leaves : goal.returns-in-Ok-clause-leaves
returns-in-Ok-clause-leaves g c =
    lost_leaves g.D.Disk.honest g.D.Disk.words _ c.args.attempt c.args.now.now.moment c.in-Ok.field-0 c.args.relay.now c.lose.new.self c.in-Ok.ensures.lost c.lose.ensures.only c.lose.ensures.gone
    (λ closed. absurd (cc (c.in-Ok.ensures.unknown closed)))

pub returns-in_default-clause-leaves : goal.returns-in_default-clause-leaves
returns-in_default-clause-leaves g c = refused_leaves g.D.Disk.honest g.D.Disk.words c.args.attempt c.args.relay.now c.lose.new.self c.in-Err.fault c.in_default.not-Stopped c.in-Err.ensures.refused c.lose.ensures.only
